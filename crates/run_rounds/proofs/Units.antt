-- One unit of a call while suspended, by itself.
use Rattle.std.proofs.Common.{inl, inr, ℕ, ◌+◌, Bool, true, false, ◌&&◌, not, nat_eq, List, [], ◌∷◌, ◌++◌, ◌≡◌, refl, sym, ap, ◌∙◌, subst, map, reverse, Ok, Err}
use Rattle.std.proofs.lemmas.List.{map-append}
use Rattle.std.specs.Prelude.{Option, Some, None, is_some, option_map, if◌then◌else◌}
pub use Rattle.rt_lemmas.proofs.Lists.{none_mapped}
use Rattle.rt_edits.specs.declared.edit.Edit.{Edit}
use Rattle.tree_edits.specs.Documents.{edit_of}
use Rattle.rt_model.specs.Document as doc
use Rattle.rt_model.specs.OneLog.{types}
use Rattle.rt_model.specs.World.{Application}
use Rattle.rt_model.specs.Laws.{IsLawful}
use Rattle.rt_model.specs.State as model
use Rattle.rt_model.specs.Next.{Work, found, owes}
use Rattle.rt_model.specs.Replay as replay
use Rattle.rt_model.specs.Causes as causes
use Rattle.rt_model.specs.Causes.{refusal, replay_within}
use Rattle.rt_model.specs.Asides.{resting}
use Rattle.rt_model.specs.Rendering.{rendering_rest, rendering_next, nothing_resolved}
use Rattle.run_reports.specs.Seen.{entry_of}
use Rattle.run_state.specs.Mirror.{Unkept, state_of}
use Rattle.run_state.specs.Names.{work_of as next_of}
use Rattle.run_state.specs.declared.names.Work as names
use Rattle.run_work.specs.Items.{work_of}
use Rattle.law_behavior.specs.Doms.{Events, LedTo, NoneOpens}
use Rattle.run_outside.specs.Hearings.{listeners_in, event_in, bubbles_in}
use Rattle.run_machine.specs.Keeps.{Logs, TurnKeeps}
use Rattle.run_machine.specs.Machines.{machine_of, noted}
use Rattle.run_outside.specs.Ends.{fault_in}
use Rattle.run_machine.specs.Stands.{StandsFor, StandsAt, TurnsAs}
use Rattle.run_outside.specs.declared.ended.Ended.{Ended}
use Rattle.run_machine.specs.declared.machine.Machine.{Machine}
use Rattle.run_machine.proofs.Running.{told_more}
use Rattle.run_rounds.specs.Going.{Inside, FinishesAs, FinishCut}
use Rattle.run_rounds.specs.Rounds.{OpensFirst, RestsAt}
use Rattle.run_rounds.specs.Steps.{UnitFrom}
use Rattle.run_rounds.specs.Suspended.{UnitOn, UnitCutOn}
use Rattle.run_rounds.proofs.Ending.{rested}
use Rattle.run_rounds.proofs.Going.{resting_at}
use Rattle.run_rounds.proofs.Reporting.{going_at, stands_led}

-- entries of a unit
none_first : (log : List replay.Entry) → NoneOpens log → OpensFirst log
none_first [] h = tt
none_first (e ∷ log) h = h.1

-- by a test that holds
pub picked : (b o : Bool) (f fault : model.Fault) → (if b && o then Some f else None) ≡ Some fault → b ≡ true
picked true o f fault h = refl
picked false o f fault h = cc

module _ {P C Q V H T E L : Type 0} where
  -- another machine that rests as this one does, at the same state
  pub unit_rests : {calls : ℕ} (y : model.State (types C Q V H T E L)) (old new : Machine P C Q V H T E L) → RestsAt y old calls
      → new.work ≡ old.work → new.hearing ≡ old.hearing → new.first ≡ old.first → new.course ≡ old.course → new.scopes ≡ old.scopes
      → RestsAt y new calls
  unit_rests y old new h work hearing first course scopes =
      record {
        idle =
            record {
              work = work ∙ (h.idle).work;
              hearing = hearing ∙ (h.idle).hearing;
              first = first ∙ (h.idle).first;
              course = ap (λ k. k.entries) course ∙ (h.idle).course;
            };
        kept = h.kept;
        is = ap (λ k. state_of h.kept k.state) scopes ∙ h.is;
        counted = h.counted;
      }

  -- the rest was passed over
  pub passed_rests : {calls : ℕ} (x : model.State (types C Q V H T E L)) (old new : Machine P C Q V H T E L) → (h : RestsAt x old calls)
      → state_of h.kept (new.scopes).state ≡ rendering_rest (state_of h.kept (old.scopes).state)
      → new.work ≡ old.work → new.hearing ≡ old.hearing → new.first ≡ old.first → new.course ≡ old.course
      → RestsAt (rendering_rest x) new calls
  passed_rests x old new h is work hearing first course =
      record {
        idle =
            record {
              work = work ∙ (h.idle).work;
              hearing = hearing ∙ (h.idle).hearing;
              first = first ∙ (h.idle).first;
              course = ap (λ k. k.entries) course ∙ (h.idle).course;
            };
        kept = h.kept;
        is = is ∙ ap (λ (y : model.State (types C Q V H T E L)). rendering_rest y) h.is;
        counted = h.counted;
      }

  -- the answer was taken
  pub answered_rests : {calls : ℕ} (x : model.State (types C Q V H T E L)) (old new : Machine P C Q V H T E L)
      → (h : RestsAt (rendering_rest x) old calls)
      → state_of h.kept (new.scopes).state ≡ nothing_resolved (state_of h.kept (old.scopes).state)
      → new.work ≡ old.work → new.hearing ≡ old.hearing → new.first ≡ old.first → new.course ≡ old.course
      → RestsAt (nothing_resolved (rendering_rest x)) new calls
  answered_rests x old new h is work hearing first course =
      record {
        idle =
            record {
              work = work ∙ (h.idle).work;
              hearing = hearing ∙ (h.idle).hearing;
              first = first ∙ (h.idle).first;
              course = ap (λ k. k.entries) course ∙ (h.idle).course;
            };
        kept = h.kept;
        is = is ∙ ap (λ (y : model.State (types C Q V H T E L)). nothing_resolved y) h.is;
        counted = h.counted;
      }

  -- what code finds is what comes next
  pub found_some : (x : model.State (types C Q V H T E L)) (g : Unkept (types C Q V H T E L)) (d : Machine P C Q V H T E L)
      → state_of g (d.scopes).state ≡ rendering_rest x
      → (o : Option names.Work) → option_map next_of o ≡ found (state_of g (d.scopes).state)
      → (b : Bool) → b ≡ not (is_some o) → b ≡ false
      → (work : Work) × (rendering_next x ≡ Some work)
  found_some x g d is None says b none some = let absurdity : true ≡ false = sym none ∙ some in cc
  found_some x g d is (Some y) says b none some =
      (next_of y, ap (λ (v : model.State (types C Q V H T E L)). found v) (sym is) ∙ sym says)

  pub found_none : (x : model.State (types C Q V H T E L)) (g : Unkept (types C Q V H T E L)) (d : Machine P C Q V H T E L)
      → state_of g (d.scopes).state ≡ rendering_rest x
      → (o : Option names.Work) → option_map next_of o ≡ found (state_of g (d.scopes).state)
      → (b : Bool) → b ≡ not (is_some o) → b ≡ true
      → rendering_next x ≡ None
  found_none x g d is None says b none over = ap (λ (v : model.State (types C Q V H T E L)). found v) (sym is) ∙ sym says
  found_none x g d is (Some y) says b none over = let absurdity : true ≡ false = sym over ∙ none in cc

  -- a machine at rest, after some units
  machine_over : (g : Unkept (types C Q V H T E L)) (d : Machine P C Q V H T E L)
      → d.work ≡ [] → d.hearing ≡ None → d.first ≡ None → d.default_enabled ≡ true
      → machine_of g [] 0 d ≡ record (resting (state_of g (d.scopes).state)) { units = d.units }
  machine_over g d work hearing first enabled =
      λ i. record {
        state = state_of g (d.scopes).state;
        work = ap (λ xs. work_of (reverse xs)) work i;
        listeners = ap (λ o. listeners_in o) hearing i;
        event = ap (λ o. event_in o) hearing i;
        bubbles = ap (λ o. bubbles_in o) hearing i;
        built = true;
        unit = ap (λ o. is_some (option_map entry_of o)) first i;
        units = d.units;
        inputs = [];
        taken = 0;
        default_enabled = enabled i;
        dead = None;
        refused = None;
      }

  -- but for the first one, none of a unit's entries begins one
  pub opens_first : (begun mid new : Machine P C Q V H T E L) → noted begun ≡ [] → Logs begun mid → Inside mid new → OpensFirst (noted new)
  opens_first begun mid new none (inl same) h =
      subst (λ (l : List replay.Entry). OpensFirst l)
      (sym (h.logged ∙ ap (λ (l : List replay.Entry). l ++ h.more) (same ∙ none)))
      (none_first h.more h.shut)
  opens_first begun mid new none (inr one) h =
      subst (λ (l : List replay.Entry). OpensFirst l)
      (sym
      (h.logged
      ∙ ap (λ (l : List replay.Entry). l ++ h.more) (one.logged ∙ ap (λ (l : List replay.Entry). l ++ one.entry ∷ []) none)))
      h.shut

  pub opens_one : (begun mid : Machine P C Q V H T E L) → noted begun ≡ [] → Logs begun mid → OpensFirst (noted mid)
  opens_one begun mid none (inl same) = subst (λ (l : List replay.Entry). OpensFirst l) (sym (same ∙ none)) tt
  opens_one begun mid none (inr one) =
      subst (λ (l : List replay.Entry). OpensFirst l)
      (sym (one.logged ∙ ap (λ (l : List replay.Entry). l ++ one.entry ∷ []) none)) tt

module _ {P C Q V H T E L : Type 0} (app : Application (types C Q V H T E L)) (lawful : IsLawful (types C Q V H T E L) app)
    (limits : causes.Limits) (props : Q) (y : model.State (types C Q V H T E L)) where
  -- a unit begins
  pub unit_begins : (calls : ℕ) (d : Machine P C Q V H T E L) → RestsAt y d calls → d.units ≡ 0 → d.default_enabled ≡ true
      → LedTo app limits props false y
      → StandsAt app limits (going_at props y (Some calls)) [] d
  unit_begins calls d rests units enabled led =
      stands_led app lawful limits props false y calls y d (rests.idle).work (rests.idle).hearing (rests.idle).first (rests.idle).course
      units enabled rests.kept rests.is rests.counted led

  -- it was done, and no report tells of it
  pub unit_done : (was calls : ℕ) (before now after : Option (List Edit)) (count more : ℕ) (begun mid old new : Machine P C Q V H T E L)
      → noted begun ≡ [] → begun.hearing ≡ None → begun.default_enabled ≡ true
      → TurnsAs app limits (going_at props y (Some was)) [] before now begun mid (Ok (Some count))
      → TurnKeeps begun mid (Ok (Some count))
      → ((edits : List doc.Edit) → StandsAt app limits (going_at props y (Some was)) edits mid
      → FinishesAs app limits (going_at props y (Some calls)) edits now after mid old (Ok more))
      → (noted old ≡ [] → ⊥)
      → new ≡ record old { course = new.course } → (new.course).entries ≡ []
      → UnitOn app limits y before after new calls
  unit_done was calls before now after count more begun mid old new none silent enabled t keeps finishes some frame course =
      let f = finishes (map edit_of t.wrote) t.stands in
      let quiet = keeps.silent silent in
      let still = f.silent quiet.0 in
      let all : map edit_of (t.wrote ++ (f.on).wrote) ≡ map edit_of t.wrote ++ map edit_of (f.on).wrote = map-append edit_of t.wrote (f.on).wrote in
      let edits : List doc.Edit = map edit_of t.wrote ++ map edit_of (f.on).wrote in
      let s : StandsFor app limits (going_at props y (Some calls)) None edits old =
      resting_at app lawful limits (going_at props y (Some calls)) Events edits old (f.on).stands f.over in
      by (noted old) refl (opens_first begun mid old none keeps.logs f.inside) f still all s
    where
      by : (log : List replay.Entry) → noted old ≡ log → OpensFirst log
          → (f : FinishesAs app limits (going_at props y (Some calls)) (map edit_of t.wrote) now after mid old (Ok more))
          → (old.hearing ≡ None) × (old.default_enabled ≡ mid.default_enabled)
          → map edit_of (t.wrote ++ (f.on).wrote) ≡ map edit_of t.wrote ++ map edit_of (f.on).wrote
          → StandsFor app limits (going_at props y (Some calls)) None (map edit_of t.wrote ++ map edit_of (f.on).wrote) old
          → UnitOn app limits y before after new calls
      by [] is opened f still all s = absurd (some is)
      by (e ∷ rest) is opened f still all s =
          let z : model.State (types C Q V H T E L) = state_of s.0 (old.scopes).state in
          let v : replay.Machine (types C Q V H T E L) = record (resting z) { units = old.units } in
          let on = still.1 ∙ (keeps.silent silent).1 ∙ enabled in
          record {
            wrote = t.wrote ++ (f.on).wrote;
            told = told_more before now after t.wrote (f.on).wrote t.told (f.on).told;
            entry = e;
            more = rest;
            shut = opened;
            left = z;
            units = old.units;
            ran =
                subst (λ (es : List doc.Edit). UnitFrom app limits y (e ∷ rest) es v) (sym all)
                (subst (λ (l : List replay.Entry). UnitFrom app limits y l (map edit_of t.wrote ++ map edit_of (f.on).wrote) v) is
                (record {
                  last =
                      record {
                        machine = machine_of s.0 [] 0 old;
                        before = s.1.before;
                        first = s.1.first;
                        edits = map edit_of t.wrote ++ map edit_of (f.on).wrote;
                      };
                  so = s.1.so;
                  edits_are = refl;
                  machine = machine_over s.0 old f.idle still.0 f.over on;
                  quiet = refl;
                }));
            rests =
                rested z old new (record { work = f.idle; hearing = still.0; first = f.over; kept = s.0; is = refl; counted = s.2 }) frame course;
          }

  -- a fault came in its first turn
  pub unit_cut_first : (along : Option ℕ) (before after : Option (List Edit)) (begun new : Machine P C Q V H T E L) (ended : Ended)
      → noted begun ≡ []
      → TurnsAs app limits (going_at props y along) [] before after begun new (Err ended)
      → TurnKeeps begun new (Err ended)
      → (fault : model.Fault) → fault_in ended ≡ Some fault → UnitCutOn app limits y before after fault
  unit_cut_first along before after begun new ended none t keeps fault why =
      let came = t.0 fault why in
      let last : replay.Machine (types C Q V H T E L) = ((came.refused).last).machine in
      record {
        wrote = came.wrote;
        told = came.told;
        log = noted new;
        opened = opens_one begun new none (keeps.logs fault why);
        last = (came.refused).last;
        so = (came.refused).so;
        cause = (came.refused).cause;
        edits_are = (came.refused).edits_are;
        never =
            λ units out.
            let p = keeps.spent units (why ∙ ap (λ (f : model.Fault). Some f) out) in
            let at : Some (resting y) ≡ Some last =
            ap (λ (l : List replay.Entry). replay_within app limits (Some (resting y)) l) (sym (p.logged ∙ none))
            ∙ (came.refused).so.accepted in
            picked (nat_eq 0 limits.units) (owes y) (model.OutOfTurns limits.units) fault
            (ap (λ (m : replay.Machine (types C Q V H T E L)). refusal limits m) (one (resting y) last at) ∙ (came.refused).cause);
      }
    where
      one : (a b : replay.Machine (types C Q V H T E L)) → Some a ≡ Some b → a ≡ b
      one a b h = cc

  -- or later
  pub unit_cut_later : (was along : Option ℕ) (before now after : Option (List Edit)) (count : ℕ) (begun mid new : Machine P C Q V H T E L) (ended : Ended)
      → noted begun ≡ []
      → TurnsAs app limits (going_at props y was) [] before now begun mid (Ok (Some count))
      → TurnKeeps begun mid (Ok (Some count))
      → ((edits : List doc.Edit) → StandsAt app limits (going_at props y was) edits mid
      → FinishesAs app limits (going_at props y along) edits now after mid new (Err ended))
      → (fault : model.Fault) → fault_in ended ≡ Some fault → UnitCutOn app limits y before after fault
  unit_cut_later was along before now after count begun mid new ended none t keeps finishes fault why =
      let f : FinishCut app limits (going_at props y along) (map edit_of t.wrote) now after fault mid new = finishes (map edit_of t.wrote) t.stands fault why in
      let refused = (f.came).refused in
      record {
        wrote = t.wrote ++ (f.came).wrote;
        told = told_more before now after t.wrote (f.came).wrote t.told (f.came).told;
        log = noted new;
        opened = opens_first begun mid new none keeps.logs f.inside;
        last = refused.last;
        so = refused.so;
        cause = refused.cause;
        edits_are = refused.edits_are ∙ sym (map-append edit_of t.wrote (f.came).wrote);
        never = λ units out. absurd (f.never units out);
      }
