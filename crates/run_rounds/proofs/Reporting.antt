-- A call from its look to its end: what is asked for its laws.
use Rattle.std.proofs.Common.{ℕ, ◌+◌, Bool, true, List, [], ◌++◌, ◌≡◌, refl, sym, ap, ◌∙◌, subst, map, reverse, inl}
use Rattle.std.specs.Prelude.{Option, Some, None, is_some, option_map}
use Rattle.rt_edits.specs.declared.edit.Edit.{Edit}
use Rattle.tree_edits.specs.Documents.{edit_of}
use Rattle.rt_model.specs.Document as doc
use Rattle.rt_model.specs.OneLog.{types}
use Rattle.rt_model.specs.World.{Application}
use Rattle.rt_model.specs.Laws.{IsLawful}
use Rattle.rt_model.specs.State as model
use Rattle.rt_model.specs.Next.{look}
use Rattle.rt_model.specs.Replay as replay
use Rattle.rt_model.specs.Causes as causes
use Rattle.rt_model.specs.Asides.{Looked, resting}
use Rattle.rt_model.proofs.ToldReplayed.{within-replays}
use Rattle.run_reports.specs.Seen.{entry_of}
use Rattle.rt_scopes.specs.Counts.{Counts}
use Rattle.run_state.specs.Mirror.{Unkept, state_of}
use Rattle.law_moves.specs.Underway.{Rests}
use Rattle.run_work.specs.Items.{work_of}
use Rattle.law_behavior.specs.Doms.{Until, Events, Renders, LedTo, Unended, CallRan, CallStopped, RenderRan, RenderStopped, ends_by}
use Rattle.law_behavior.proofs.Leading.{asides_lead}
use Rattle.run_outside.specs.Hearings.{listeners_in, event_in, bubbles_in}
use Rattle.run_machine.specs.Machines.{machine_of, noted}
use Rattle.run_machine.specs.Stands.{Going, StandsFor, StandsAt}
use Rattle.run_machine.specs.declared.machine.Machine.{Machine}
use Rattle.run_rounds.specs.Going.{Grown, GoneTo, GoneUpTo, SpentThere, RenderedTo, RenderedUpTo}
use Rattle.run_rounds.specs.Rounds.{SpentTo}
use Rattle.run_rounds.proofs.Going.{quiet_at}

module _ {C Q V H T E L : Type 0} where
  -- a report that no entry opens, from a state on at which nothing is at work
  abbrev pub going_at : (props : Q) (x : model.State (types C Q V H T E L)) → Option ℕ → Going (types C Q V H T E L)
  going_at props x along = record { props = props; inputs = []; from = resting x; opened = []; left = []; taken = 0; count = along }

  -- the report of a call, from the look on
  abbrev pub going_from : (props : Q) (w : model.State (types C Q V H T E L)) → Option ℕ → Going (types C Q V H T E L)
  going_from props w along = going_at props (look w) along

module _ {P C Q V H T E L : Type 0} where
  -- a machine at rest stands for the definitions' one
  machine_rest : (g : Unkept (types C Q V H T E L)) (d : Machine P C Q V H T E L) (x : model.State (types C Q V H T E L))
      → d.work ≡ [] → d.hearing ≡ None → d.first ≡ None → d.units ≡ 0 → d.default_enabled ≡ true
      → state_of g (d.scopes).state ≡ x
      → machine_of g [] 0 d ≡ resting x
  machine_rest g d x work hearing first units enabled is =
      λ i. record {
        state = is i;
        work = ap (λ xs. work_of (reverse xs)) work i;
        listeners = ap (λ o. listeners_in o) hearing i;
        event = ap (λ o. event_in o) hearing i;
        bubbles = ap (λ o. bubbles_in o) hearing i;
        built = true;
        unit = ap (λ o. is_some (option_map entry_of o)) first i;
        units = units i;
        inputs = [];
        taken = 0;
        default_enabled = enabled i;
        dead = None;
        refused = None;
      }

module _ {P C Q V H T E L : Type 0} (app : Application (types C Q V H T E L)) (lawful : IsLawful (types C Q V H T E L) app)
    (limits : causes.Limits) (props : Q) (whole : Bool) (w : model.State (types C Q V H T E L)) where
  -- a report begins where a program's calls have led
  pub stands_led : (calls : ℕ) (x : model.State (types C Q V H T E L)) (d : Machine P C Q V H T E L)
      → d.work ≡ [] → d.hearing ≡ None → d.first ≡ None → (d.course).entries ≡ []
      → d.units ≡ 0 → d.default_enabled ≡ true
      → (g : Unkept (types C Q V H T E L)) → state_of g (d.scopes).state ≡ x
      → Counts calls g.calls
      → LedTo app limits props whole x
      → StandsAt app limits (going_at props x (Some calls)) [] d
  stands_led calls x d work hearing first course units enabled g is counted led =
      let m : replay.Machine (types C Q V H T E L) = resting x in
      let rests : Rests app limits props [] m [] [] m =
      record {
        before = m.state;
        first = replay.Build;
        so = record { accepted = refl; told = refl };
        rest = record { alive = refl; idle = refl; unit = refl };
        built = refl;
        reached = led.reached;
      } in
      let here : Rests app limits props [] m (noted d) [] (machine_of g [] 0 d) =
      subst (λ (l : List replay.Entry). Rests app limits props [] m l [] (machine_of g [] 0 d))
      (sym (ap (λ es. map entry_of es) course))
      (subst (λ (y : replay.Machine (types C Q V H T E L)). Rests app limits props [] m [] [] y)
      (sym (machine_rest g d x work hearing first units enabled is)) rests) in
      subst (λ (o : Option replay.Entry). StandsFor app limits (going_at props x (Some calls)) o [] d) (sym (ap (λ o. option_map entry_of o) first))
      (g, here, counted)

  -- a call begins
  pub begins : (calls : ℕ) (d : Machine P C Q V H T E L) → d.work ≡ [] → d.hearing ≡ None → d.first ≡ None → (d.course).entries ≡ []
      → d.units ≡ 0 → d.default_enabled ≡ true
      → (g : Unkept (types C Q V H T E L)) → state_of g (d.scopes).state ≡ look w
      → Counts calls g.calls
      → LedTo app limits props whole w
      → StandsAt app limits (going_from props w (Some calls)) [] d
  begins calls d work hearing first course units enabled g is counted led =
      stands_led calls (look w) d work hearing first course units enabled g is counted
      (asides_lead app limits props whole lawful w Looked led tt (inl tt))

  -- where a machine stands at which nothing is at work
  pub standing : (along : Option ℕ) (edits : List doc.Edit) (d : Machine P C Q V H T E L) → StandsAt app limits (going_from props w along) edits d
      → d.first ≡ None
      → StandsFor app limits (going_from props w along) None edits d
  standing along edits d s over =
      subst (λ (o : Option replay.Entry). StandsFor app limits (going_from props w along) o edits d) (ap (λ o. option_map entry_of o) over) s

  -- what a machine wrote down since a call began
  all_noted : (d0 d : Machine P C Q V H T E L) (more : List replay.Entry) → noted d0 ≡ [] → noted d ≡ noted d0 ++ more → more ≡ noted d
  all_noted d0 d more none logged = sym (logged ∙ ap (λ (l : List replay.Entry). l ++ more) none)

  -- no unit of it began where the test holds
  pub unended_all : (along : Option ℕ) (until : Until) (d0 d : Machine P C Q V H T E L) → noted d0 ≡ []
      → (h : Grown app limits (going_from props w along) until d0 d)
      → Unended app (λ (x : model.State (types C Q V H T E L)). ends_by until x) (resting (look w)) (noted d)
  unended_all along until d0 d none h =
      subst (λ (l : List replay.Entry). Unended app (λ (x : model.State (types C Q V H T E L)). ends_by until x) (resting (look w)) l)
      (all_noted d0 d h.more none h.logged)
      (h.unended (resting (look w)) (ap (λ (l : List replay.Entry). replay.replay_on app (Some (resting (look w))) l) none))

  -- a call that processes events, or settles, ended
  pub call_ran : (calls : ℕ) (until : Until) (before after : Option (List Edit)) (count : ℕ) (d0 d : Machine P C Q V H T E L)
      → noted d0 ≡ [] → d0.hearing ≡ None
      → (h : GoneTo app limits (going_from props w (Some calls)) until [] before after count d0 d)
      → (g : Unkept (types C Q V H T E L))
      × CallRan app limits until w (noted d) (map edit_of (((h.gone).on).wrote)) (machine_of g [] 0 d)
      × Counts calls g.calls
  call_ran calls until before after count d0 d none silent h =
      let on = (h.gone).on in
      let t = standing (Some calls) (map edit_of on.wrote) d on.stands h.over in (
        t.0,
        record {
          last = record { machine = machine_of t.0 [] 0 d; before = t.1.before; first = t.1.first; edits = map edit_of on.wrote };
          so = t.1.so;
          edits_are = refl;
          machine = refl;
          unended = unended_all (Some calls) until d0 d none (h.gone).grown;
          quiet = quiet_at app lawful limits (going_from props w (Some calls)) until t.0 d h.idle (((h.gone).silent silent).0);
          ended = h.ended t.0;
        },
        t.2,
      )

  -- a whole render ended
  pub render_ran : (calls : ℕ) (before after : Option (List Edit)) (count : ℕ) (d0 d : Machine P C Q V H T E L)
      → noted d0 ≡ [] → d0.hearing ≡ None
      → (h : RenderedTo app limits (going_from props w (Some calls)) before after count d0 d)
      → (g : Unkept (types C Q V H T E L))
      × RenderRan app limits w (noted d) (map edit_of (((h.first.gone).on).wrote) ++ map edit_of (((h.second.gone).on).wrote))
      (machine_of g [] 0 d)
      × Counts calls g.calls
  render_ran calls before after count d0 d none silent h =
      let first = (h.first).gone in
      let second = (h.second).gone in
      let b : Machine P C Q V H T E L = h.between in
      let s = standing h.counted (map edit_of (first.on).wrote) b (first.on).stands (h.first).over in
      let t = standing (Some calls) (map edit_of (first.on).wrote ++ map edit_of (second.on).wrote) d (second.on).stands (h.second).over in
      let between : replay.Machine (types C Q V H T E L) = machine_of s.0 [] 0 b in
      let goes : replay.replay_on app (Some (resting (look w))) (noted b) ≡ Some between =
      within-replays app limits (noted b) (resting (look w)) between s.1.so.accepted in
      let still = first.silent silent in (
        t.0,
        record {
          last =
              record {
                machine = machine_of t.0 [] 0 d;
                before = t.1.before;
                first = t.1.first;
                edits = map edit_of (first.on).wrote ++ map edit_of (second.on).wrote;
              };
          so = t.1.so;
          edits_are = refl;
          machine = refl;
          quiet = quiet_at app lawful limits (going_from props w (Some calls)) Renders t.0 d (h.second).idle (second.silent still.0).0;
          first = noted b;
          more = (second.grown).more;
          whole = sym (second.grown).logged;
          between = between;
          goes = goes;
          events = unended_all h.counted Events d0 b none first.grown;
          calm = quiet_at app lawful limits (going_from props w h.counted) Events s.0 b (h.first).idle still.0;
          processed = (h.first).ended s.0;
          renders = (second.grown).unended between goes;
          ended = (h.second).ended t.0;
        },
        t.2,
      )

  -- a call came to a fault
  pub call_stopped : (along : Option ℕ) (until : Until) (before after : Option (List Edit)) (fault : model.Fault) (d0 d : Machine P C Q V H T E L)
      → noted d0 ≡ []
      → (h : GoneUpTo app limits (going_from props w along) until [] before after fault d0 d)
      → CallStopped app limits until w (noted d) (map edit_of (h.came).wrote) fault
  call_stopped along until before after fault d0 d none h =
      record {
        last = ((h.came).refused).last;
        so = ((h.came).refused).so;
        unended = unended_all along until d0 d none h.grown;
        cause = h.cause;
        edits_are = ((h.came).refused).edits_are;
      }

  -- a whole render came to a fault after events were processed
  pub render_stopped : (along : Option ℕ) (before after : Option (List Edit)) (fault : model.Fault) (d0 d : Machine P C Q V H T E L)
      → noted d0 ≡ [] → d0.hearing ≡ None
      → (h : RenderedUpTo app limits (going_from props w along) before after fault d0 d)
      → RenderStopped app limits w (noted d) (map edit_of (((h.first.gone).on).wrote) ++ map edit_of ((h.second).came).wrote) fault
  render_stopped along before after fault d0 d none silent h =
      let first = (h.first).gone in
      let b : Machine P C Q V H T E L = h.between in
      let s = standing h.counted (map edit_of (first.on).wrote) b (first.on).stands (h.first).over in
      let between : replay.Machine (types C Q V H T E L) = machine_of s.0 [] 0 b in
      let goes : replay.replay_on app (Some (resting (look w))) (noted b) ≡ Some between =
      within-replays app limits (noted b) (resting (look w)) between s.1.so.accepted in
      let refused = ((h.second).came).refused in
      record {
        last = refused.last;
        so = refused.so;
        edits_are = refused.edits_are;
        first = noted b;
        more = ((h.second).grown).more;
        whole = sym ((h.second).grown).logged;
        between = between;
        goes = goes;
        events = unended_all h.counted Events d0 b none first.grown;
        calm = quiet_at app lawful limits (going_from props w h.counted) Events s.0 b (h.first).idle (first.silent silent).0;
        processed = (h.first).ended s.0;
        renders = ((h.second).grown).unended between goes;
        cause = (h.second).cause;
      }

  -- units were spent
  pub call_spent : (calls : ℕ) (edits : List doc.Edit) (d0 d : Machine P C Q V H T E L) (until : Until) → d0.hearing ≡ None → d.hearing ≡ None
      → (h : SpentThere app limits (going_from props w (Some calls)) until edits d0 d)
      → SpentTo app limits w (noted d) edits d calls
  call_spent calls edits d0 d until silent still h =
      record {
        last = h.last;
        spent =
            record {
              last = record { machine = h.last; before = (h.rests).before; first = (h.rests).first; edits = edits };
              so = (h.rests).so;
              edits_are = refl;
              machine = refl;
              quiet = h.quiet silent;
            };
        rests = record { work = h.idle; hearing = still; first = h.over; kept = h.kept; is = h.state; counted = h.along };
      }
