-- A call's end: what is left, its report, and the machine at rest.
use Rattle.std.proofs.Common.{ℕ, ◌+◌, Bool, true, List, [], ◌∷◌, ◌++◌, ◌≡◌, refl, sym, ap, ◌∙◌, subst, map, length, Ok, Err, inl, inr}
use Rattle.std.proofs.lemmas.List.{map-append, length-append}
use Rattle.std.specs.Prelude.{Option, Some, None, option_map}
use Rattle.rt_edits.specs.declared.edit.Edit.{Edit}
use Rattle.tree_edits.specs.Documents.{edit_of}
use Rattle.rt_model.specs.Document as doc
use Rattle.rt_model.specs.OneLog.{types}
use Rattle.rt_model.specs.World.{Application, Firsts}
use Rattle.rt_model.specs.Laws.{IsLawful}
use Rattle.rt_model.specs.State as model
use Rattle.rt_model.specs.Next.{at_rest}
use Rattle.rt_model.specs.Replay as replay
use Rattle.rt_model.specs.Causes as causes
use Rattle.law_moves.specs.Reports.{ToldSo}
use Rattle.run_reports.specs.Seen.{entry_of}
use Rattle.run_reports.specs.declared.report.Report.{Report}
use Rattle.run_state.specs.Mirror.{Unkept, state_of}
use Rattle.law_behavior.specs.Doms.{Until, Events, Renders, Settles, NoneOpens, CallRan, RenderRan, RenderStopped, left_by}
use Rattle.run_machine.specs.Machines.{machine_of, noted}
use Rattle.run_outside.specs.declared.ended.Ended.{Ended}
use Rattle.run_machine.specs.declared.machine.Machine.{Machine}
use Rattle.run_machine.proofs.Running.{told_more}
use Rattle.run_machine.specs.Stands.{Going, StandsFor}
use Rattle.run_rounds.specs.Going.{GoneTo, GoneUpTo, RenderedTo, RenderedUpTo, GoesBy, FinishedOn}
use Rattle.run_rounds.specs.Rounds.{OpensFirst, RestsAt, DoneAt, WentTo, WentUpTo, WentOn, SpentTo, RanOn, RunsOn, RanBy, BuiltOn}
use Rattle.run_rounds.proofs.Given.{given}
use Rattle.run_rounds.proofs.Going.{quiet_at}
use Rattle.run_rounds.proofs.Reporting.{going_from, call_ran, render_ran, call_stopped, render_stopped, call_spent}

module _ {P C Q V H T E L : Type 0} where
  -- nothing but the state has changed
  pub record Alike (old new : Machine P C Q V H T E L) : Type 0 where
    pub work : new.work ≡ old.work
    pub hearing : new.hearing ≡ old.hearing
    pub first : new.first ≡ old.first
    pub logged : noted new ≡ noted old
    pub enabled : new.default_enabled ≡ old.default_enabled

  -- a report was made: the machine rests
  pub rested : {calls : ℕ} (x : model.State (types C Q V H T E L)) (old new : Machine P C Q V H T E L) → DoneAt x old calls
      → new ≡ record old { course = new.course } → (new.course).entries ≡ []
      → RestsAt x new calls
  rested x old new h frame course =
      record {
        idle =
            record {
              work = ap (λ (d : Machine P C Q V H T E L). d.work) frame ∙ h.work;
              hearing = ap (λ (d : Machine P C Q V H T E L). d.hearing) frame ∙ h.hearing;
              first = ap (λ (d : Machine P C Q V H T E L). d.first) frame ∙ h.first;
              course = course;
            };
        kept = h.kept;
        is = ap (λ (d : Machine P C Q V H T E L). state_of h.kept (d.scopes).state) frame ∙ h.is;
        counted = h.counted;
      }

module _ {P C Q V H T E L : Type 0} (app : Application (types C Q V H T E L)) (lawful : IsLawful (types C Q V H T E L) app)
    (limits : causes.Limits) (props : Q) (whole : Bool) (w : model.State (types C Q V H T E L)) where
  -- a call of one part ended
  went_one : (calls : ℕ) (until : Until)
      → ((log : List replay.Entry) (edits : List doc.Edit) (v : replay.Machine (types C Q V H T E L))
      → CallRan app limits until w log edits v → RanBy app limits w until log edits v)
      → (before after : Option (List Edit)) (count : ℕ) (old mid new : Machine P C Q V H T E L)
      → noted old ≡ [] → old.hearing ≡ None → old.default_enabled ≡ true
      → GoneTo app limits (going_from props w (Some calls)) until [] before after count old mid
      → Alike mid new
      → ((g : Unkept (types C Q V H T E L)) → state_of g (new.scopes).state ≡ left_by until (state_of g (mid.scopes).state))
      → WentTo app limits w until before after count new calls
  went_one calls until by before after count old mid new none silent enabled h same left =
      let on = (h.gone).on in
      let still = (h.gone).silent silent in
      let ran = call_ran app lawful limits props whole w calls until before after count old mid none silent h in
      record {
        wrote = on.wrote;
        told = on.told;
        counted = on.counted;
        last = machine_of ran.0 [] 0 mid;
        ran =
            subst (λ (l : List replay.Entry). RanBy app limits w until l (map edit_of on.wrote) (machine_of ran.0 [] 0 mid)) (sym same.logged)
            (by (noted mid) (map edit_of on.wrote) (machine_of ran.0 [] 0 mid) ran.1);
        enabled = same.enabled ∙ still.1 ∙ enabled;
        rests =
            record {
              work = same.work ∙ h.idle;
              hearing = same.hearing ∙ still.0;
              first = same.first ∙ h.over;
              kept = ran.0;
              is = left ran.0;
              counted = ran.2;
            };
      }

  -- a whole render ended
  went_whole : (calls : ℕ) (before after : Option (List Edit)) (count : ℕ) (old mid new : Machine P C Q V H T E L)
      → noted old ≡ [] → old.hearing ≡ None → old.default_enabled ≡ true
      → RenderedTo app limits (going_from props w (Some calls)) before after count old mid
      → Alike mid new
      → ((g : Unkept (types C Q V H T E L)) → state_of g (new.scopes).state ≡ left_by Renders (state_of g (mid.scopes).state))
      → WentTo app limits w Renders before after count new calls
  went_whole calls before after count old mid new none silent enabled h same left =
      let first = (h.first).gone in
      let second = (h.second).gone in
      let xs : List Edit = (first.on).wrote in
      let ys : List Edit = (second.on).wrote in
      let still = first.silent silent in
      let later = second.silent still.0 in
      let ran = render_ran app lawful limits props whole w calls before after count old mid none silent h in
      let edits : map edit_of (xs ++ ys) ≡ map edit_of xs ++ map edit_of ys = map-append edit_of xs ys in
      record {
        wrote = xs ++ ys;
        told = told_more before h.middle after xs ys (first.on).told (second.on).told;
        counted =
            length-append xs ys
            ∙ ap (λ (n : ℕ). n + length ys) (first.on).counted
            ∙ ap (λ (n : ℕ). h.events + n) (second.on).counted
            ∙ sym h.all;
        last = machine_of ran.0 [] 0 mid;
        ran =
            subst (λ (l : List replay.Entry). RenderRan app limits w l (map edit_of (xs ++ ys)) (machine_of ran.0 [] 0 mid)) (sym same.logged)
            (subst (λ (es : List doc.Edit). RenderRan app limits w (noted mid) es (machine_of ran.0 [] 0 mid)) (sym edits) ran.1);
        enabled = same.enabled ∙ later.1 ∙ still.1 ∙ enabled;
        rests =
            record {
              work = same.work ∙ (h.second).idle;
              hearing = same.hearing ∙ later.0;
              first = same.first ∙ (h.second).over;
              kept = ran.0;
              is = left ran.0;
              counted = ran.2;
            };
      }

  -- a call ended, and what its test left was left
  pub went_to : (calls : ℕ) (until : Until) (before after : Option (List Edit)) (count : ℕ) (old mid new : Machine P C Q V H T E L)
      → noted old ≡ [] → old.hearing ≡ None → old.default_enabled ≡ true
      → GoesBy app limits (going_from props w (Some calls)) until before after old mid (Ok count)
      → Alike mid new
      → ((g : Unkept (types C Q V H T E L)) → state_of g (new.scopes).state ≡ left_by until (state_of g (mid.scopes).state))
      → WentTo app limits w until before after count new calls
  went_to calls Events before after count old mid new none silent enabled h same left =
      went_one calls Events (λ log edits v r. r) before after count old mid new none silent enabled h same left
  went_to calls Settles before after count old mid new none silent enabled h same left =
      went_one calls Settles (λ log edits v r. r) before after count old mid new none silent enabled h same left
  went_to calls Renders before after count old mid new none silent enabled h same left =
      went_whole calls before after count old mid new none silent enabled h same left

  -- a call of one part came to a fault
  stopped_one : (calls : ℕ) (until : Until)
      → (before after : Option (List Edit)) (fault : model.Fault) (old new : Machine P C Q V H T E L)
      → noted old ≡ [] → old.hearing ≡ None
      → (h : GoneUpTo app limits (going_from props w (Some calls)) until [] before after fault old new)
      → (units : ℕ) → fault ≡ model.OutOfTurns units → SpentTo app limits w (noted new) (map edit_of (h.came).wrote) new calls
  stopped_one calls until before after fault old new none silent h units out =
      call_spent app lawful limits props whole w calls (map edit_of (h.came).wrote) old new until silent (h.silent silent).0 (h.spent units out)

  -- a call came to a fault
  pub went_up_to : (calls : ℕ) (until : Until) (before after : Option (List Edit)) (ended : Ended) (old new : Machine P C Q V H T E L)
      → noted old ≡ [] → old.hearing ≡ None
      → GoesBy app limits (going_from props w (Some calls)) until before after old new (Err ended)
      → WentOn app limits w until before after (Err ended) new calls
  went_up_to calls Events before after ended old new none silent h =
      λ fault why.
      let g = h fault why in
      record {
        wrote = (g.came).wrote;
        told = (g.came).told;
        stopped = call_stopped app lawful limits props whole w (Some calls) Events before after fault old new none g;
        spent = stopped_one calls Events before after fault old new none silent g;
      }
  went_up_to calls Settles before after ended old new none silent h =
      λ fault why.
      let g = h fault why in
      record {
        wrote = (g.came).wrote;
        told = (g.came).told;
        stopped = call_stopped app lawful limits props whole w (Some calls) Settles before after fault old new none g;
        spent = stopped_one calls Settles before after fault old new none silent g;
      }
  went_up_to calls Renders before after ended old new none silent h =
      λ fault why. elim (h fault why) [ inl g ↦ early fault g | inr g ↦ late fault g ]
    where
      early : (fault : model.Fault) → GoneUpTo app limits (going_from props w (Some calls)) Events [] before after fault old new
          → WentUpTo app limits w Renders before after fault new calls
      early fault g =
          record {
            wrote = (g.came).wrote;
            told = (g.came).told;
            stopped = inl (call_stopped app lawful limits props whole w (Some calls) Events before after fault old new none g);
            spent = stopped_one calls Events before after fault old new none silent g;
          }

      late : (fault : model.Fault) → RenderedUpTo app limits (going_from props w (Some calls)) before after fault old new
          → WentUpTo app limits w Renders before after fault new calls
      late fault g =
          let first = (g.first).gone in
          let xs : List Edit = (first.on).wrote in
          let ys : List Edit = ((g.second).came).wrote in
          let still = first.silent silent in
          let edits : map edit_of (xs ++ ys) ≡ map edit_of xs ++ map edit_of ys = map-append edit_of xs ys in
          record {
            wrote = xs ++ ys;
            told = told_more before g.middle after xs ys (first.on).told ((g.second).came).told;
            stopped =
                inr
                (subst (λ (es : List doc.Edit). RenderStopped app limits w (noted new) es fault) (sym edits)
                (render_stopped app lawful limits props whole w (Some calls) before after fault old new none silent g));
            spent =
                λ units out.
                subst (λ (es : List doc.Edit). SpentTo app limits w (noted new) es new calls) (sym edits)
                (call_spent app lawful limits props whole w calls (map edit_of xs ++ map edit_of ys) g.between new Renders still.0
                ((g.second).silent still.0).0 ((g.second).spent units out));
          }

module _ {P C Q V H T E L : Type 0} (app : Application (types C Q V H T E L)) (limits : causes.Limits)
    (w : model.State (types C Q V H T E L)) (until : Until) (before after : Option (List Edit)) where
  -- its report is made
  pub ran_on : {calls : ℕ} (count : ℕ) (report : Report) (old new : Machine P C Q V H T E L)
      → WentTo app limits w until before after count old calls
      → report.log ≡ (old.course).entries → report.edits ≡ count → report.default_enabled ≡ old.default_enabled
      → new ≡ record old { course = new.course } → (new.course).entries ≡ []
      → RanOn app limits w until before after report new calls
  ran_on count report old new h log edits enabled frame course =
      record {
        wrote = h.wrote;
        told = h.told;
        counted = h.counted ∙ sym edits;
        last = h.last;
        ran =
            subst (λ (l : List replay.Entry). RanBy app limits w until l (map edit_of h.wrote) h.last)
            (sym (ap (λ es. map entry_of es) log)) h.ran;
        enabled = enabled ∙ h.enabled;
        rests = rested (left_by until h.last.state) old new h.rests frame course;
      }

  -- what was done up to a fault is told by no report
  pub stopped_on : {calls : ℕ} (ended : Ended) (old new : Machine P C Q V H T E L)
      → WentOn app limits w until before after (Err ended) old calls
      → new ≡ record old { course = new.course } → (new.course).entries ≡ []
      → RunsOn app limits w until before after (Err ended) new calls
  stopped_on ended old new h frame course =
      λ fault why.
      let g = h fault why in
      record {
        wrote = g.wrote;
        told = g.told;
        log = noted old;
        stopped = g.stopped;
        spent =
            λ units out.
            let s = g.spent units out in
            record { last = s.last; spent = s.spent; rests = rested (at_rest s.last.state) old new s.rests frame course };
      }

module _ {P C Q V H T E L : Type 0} (app : Application (types C Q V H T E L)) (lawful : IsLawful (types C Q V H T E L) app)
    (limits : causes.Limits) (props : Q) (firsts : Firsts) (provided : List (ℕ × V)) where
  -- the build ended, and its report is made
  pub built_on : (calls : ℕ) (before after : Option (List Edit)) (count : ℕ) (report : Report) (begun old new : Machine P C Q V H T E L)
      → begun.hearing ≡ None → begun.default_enabled ≡ true → noted begun ≡ []
      → FinishedOn app limits (given app limits props firsts provided (Some calls)) [] before after count begun old
      → map entry_of report.log ≡ replay.Build ∷ noted old → report.edits ≡ count → report.default_enabled ≡ old.default_enabled
      → new ≡ record old { course = new.course } → (new.course).entries ≡ []
      → BuiltOn app limits props firsts provided before after report new calls
  built_on calls before after count report begun old new silent enabled none h log edits told frame course =
      let r : Going (types C Q V H T E L) = given app limits props firsts provided (Some calls) in
      let still = h.silent silent in
      let s : StandsFor app limits r None (map edit_of (h.on).wrote) old =
      subst (λ (o : Option replay.Entry). StandsFor app limits r o (map edit_of (h.on).wrote) old) (ap (λ o. option_map entry_of o) h.over)
      (h.on).stands in
      let v : replay.Machine (types C Q V H T E L) = machine_of s.0 [] 0 old in
      record {
        wrote = (h.on).wrote;
        told = (h.on).told;
        counted = (h.on).counted ∙ sym edits;
        last = v;
        ran =
            record {
              last = record { machine = v; before = s.1.before; first = s.1.first; edits = map edit_of (h.on).wrote };
              so =
                  subst
                  (λ (l : List replay.Entry). ToldSo app limits (replay.start_with app props firsts provided []) l
                  (record { machine = v; before = s.1.before; first = s.1.first; edits = map edit_of (h.on).wrote }))
                  (sym log) s.1.so;
              edits_are = refl;
              machine = refl;
              built = refl;
              quiet = quiet_at app lawful limits r Events s.0 old h.idle still.0;
            };
        alone =
            subst (λ (l : List replay.Entry). OpensFirst l) (sym log)
            (subst (λ (l : List replay.Entry). NoneOpens l)
            (sym ((h.inside).logged ∙ ap (λ (l : List replay.Entry). l ++ (h.inside).more) none)) (h.inside).shut);
        enabled = told ∙ still.1 ∙ enabled;
        rests =
            rested v.state old new
            (record { work = h.idle; hearing = still.0; first = h.over; kept = s.0; is = refl; counted = s.2 }) frame course;
      }
