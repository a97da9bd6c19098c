-- Listeners of an event, one after another: where their calls lead, and what is left of it.
use Rattle.std.proofs.Common.{ℕ, Bool, true, false, ◌&&◌, ◌||◌, not, List, [], ◌∷◌, ◌++◌, ◌≡◌, refl, sym, ap, ◌∙◌, subst, map, reverse, Ok, Err}
use Rattle.std.specs.Prelude.{Option, Some, None, is_some, option_map}
use Rattle.author_calls.specs.Answers.{event_of}
use Rattle.rt_model.specs.Lists.{Text}
use Rattle.rt_model.specs.OneLog.{types}
use Rattle.rt_model.specs.Tree as tree
use Rattle.rt_model.specs.World as world
use Rattle.rt_model.specs.World.{Application}
use Rattle.rt_model.specs.State as model
use Rattle.rt_model.specs.Heard.{Listener, heard}
use Rattle.rt_model.specs.Replay as replay
use Rattle.rt_model.specs.Causes as causes
use Rattle.rt_model.specs.Causes.{replay_within}
use Rattle.rt_model.specs.Told.{Telling, telling, opens, opened, closed_unit, tell_log}
use Rattle.rt_model.specs.Asides.{Raised, resting, set_aside}
use Rattle.law_moves.specs.Moves.{Logged, AtRest, IsLogged}
use Rattle.law_moves.proofs.Acceptance.{accepted_within}
use Rattle.law_moves.proofs.Beginnings.{heard_logged}
use Rattle.law_moves.proofs.Joins.{logs_join}
use Rattle.law_moves.proofs.Reports.{reports_go_on}
use Rattle.law_moves.proofs.Settles.{settled_stays}
use Rattle.law_moves.proofs.Tellings.{entry_told}
use Rattle.law_moves.proofs.Begins.{rest_settled}
use Rattle.tree_nodes.specs.declared.event.Event.{Event}
use Rattle.run_reports.specs.Seen.{entry_of}
use Rattle.run_shown.specs.Hearing.{listeners_of}
use Rattle.run_shown.specs.declared.hearing.Listener.{Listener as CodeListener}
use Rattle.run_state.specs.Mirror.{Unkept, state_of}
use Rattle.run_state.specs.Names.{fault_of}
use Rattle.run_state.specs.declared.names.Stop.{Stop}
use Rattle.run_state.specs.declared.names.Stop.TheVariants as stops
use Rattle.run_work.specs.Items.{work_of}
use Rattle.rt_scopes.specs.Counts.{Counts}
use Rattle.run_machine.specs.Machines.{CountsHeard, machine_of, noted, HeardOne, HeardPart, Hears}
use Rattle.run_outside.specs.Hearings.{event_in}
use Rattle.run_outside.specs.declared.hearing.Hearing.{Hearing}
use Rattle.run_machine.specs.declared.machine.Machine.{Machine}
use Rattle.run_rounds.specs.Handled.{HeardSo, HeardCut, HearsAll, HeardOn, HearsOn}
use Rattle.run_rounds.specs.Rounds.{RestsAt}
use Rattle.run_rounds.proofs.Inside.{none_more}

module _ {K : tree.Types} (app : Application K) (from : replay.Machine K) where
  -- one more listener was called
  heard_more : (log : List replay.Entry) (m u : replay.Machine K) (l : Listener K) (ls : List (Listener K)) → HeardSo app from log m
      → replay.waiting m ≡ l ∷ ls → replay.heard_event app m l ls m.event ≡ u → AtRest u → u.built ≡ true
      → HeardSo app from (log ++ replay.Heard l.origin ∷ []) u
  heard_more log m u l ls h waits is rest built =
      record {
        alone = none_more log (replay.Heard l.origin) h.alone refl;
        rest = rest;
        built = built;
        so =
            λ limits.
            let e : replay.Entry = replay.Heard l.origin in
            let t : Telling K = record (telling from) { machine = m } in
            let logged : IsLogged app limits m e u =
            subst (λ (x : replay.Machine K). IsLogged app limits m e x) is (heard_logged app limits m l ls h.rest h.built waits) in
            (reports_go_on app).1 limits from u log t e (h.so limits) refl (h.rest).unit logged (rest_settled u rest) rest.alive;
      }

  -- one was cut
  heard_cut : (log : List replay.Entry) (m u : replay.Machine K) (l : Listener K) (ls : List (Listener K)) (fault : model.Fault)
      → HeardSo app from log m
      → replay.waiting m ≡ l ∷ ls → replay.heard_event app m l ls m.event ≡ u → u.dead ≡ Some fault → u.refused ≡ None
      → HeardCut app from (log ++ replay.Heard l.origin ∷ []) fault
  heard_cut log m u l ls fault h waits is dead refused =
      let e : replay.Entry = replay.Heard l.origin in
      let t : Telling K = record (telling from) { machine = m } in
      let x : replay.Machine K = record u { dead = Some fault; refused = None } in
      let is_x : u ≡ x =
      subst (λ (o : Option model.Fault). u ≡ record u { dead = o; refused = None }) dead
      (subst (λ (o : Option (model.Item K)). u ≡ record u { refused = o }) refused refl) in
      record {
        alone = none_more log e h.alone refl;
        last = record t { machine = x; edits = [] ++ [] };
        so =
            λ limits.
            let logged : IsLogged app limits m e x =
            subst (λ (y : replay.Machine K). IsLogged app limits m e y) (is ∙ is_x) (heard_logged app limits m l ls h.rest h.built waits) in
            let joins = logs_join app limits log (e ∷ []) in
            let s = h.so limits in
            record {
              accepted =
                  joins.0 from m s.accepted
                  ∙ ap (λ (y : replay.Machine K). replay_within app limits (Some y) (e ∷ [])) (sym (settled_stays app m logged.settled))
                  ∙ accepted_within app limits m x (Logged e ∷ []) (x, logged, refl) refl;
              told =
                  joins.2 (telling from) t s.told
                  ∙ ap (λ (o : Option (Telling K)). tell_log app o [])
                  (entry_told app limits t m x e refl logged
                  ∙ ap (λ (y : replay.Machine K). Some (closed_unit app (opened t e) (opens e || t.machine.unit) y)) (settled_stays app x refl));
            };
        dead = refl;
      }

module _ {P C Q V H T E L : Type 0} (app : Application (types C Q V H T E L)) (from : replay.Machine (types C Q V H T E L)) where
  -- where calls have led so far
  abbrev pub HeardFar : Machine P C Q V H T E L → ℕ → Type 0
  HeardFar m calls = (h : Unkept (types C Q V H T E L)) × HeardSo app from (noted m) (machine_of h [] 0 m) × Counts calls h.calls

  pub far_more : (was calls : ℕ) (old new : Machine P C Q V H T E L) → HeardFar old was → Hears app old new (Ok true)
      → CountsHeard app old was calls true
      → new.first ≡ old.first → new.work ≡ old.work
      → HeardFar new calls
  far_more was calls old new far hears counts first work =
      let g = far.0 in
      let on = hears g [] 0 in
      let u = machine_of on.0 [] 0 new in
      let one : HeardOne app (machine_of g [] 0 old) (noted old) (noted new) u = on.1 in
      let was : AtRest (machine_of g [] 0 old) = (far.1).rest in
      let rest : AtRest u =
      record {
        alive = refl;
        idle = ap (λ xs. work_of (reverse xs)) work ∙ was.idle;
        unit = ap (λ o. is_some (option_map entry_of o)) first ∙ was.unit;
      } in (
        on.0,
        subst (λ (l : List replay.Entry). HeardSo app from l u) (sym one.logged)
            (heard_more app from (noted old) (machine_of g [] 0 old) u one.first one.others far.1 one.waits one.heard_is rest refl),
        subst (λ (x : replay.Machine (types C Q V H T E L)). Counts calls (x.state).calls) one.heard_is
            (counts g [] 0 one.first one.others one.waits far.2),
      )

  pub far_over : (was calls : ℕ) (old new : Machine P C Q V H T E L) → HeardFar old was → Hears app old new (Ok false)
      → CountsHeard app old was calls false
      → HearsAll app from new calls (Ok tt)
  far_over was calls old new far hears counts =
      let g = far.0 in
      let on = hears g [] 0 in
      let m = machine_of g [] 0 old in
      let u = machine_of on.2 [] 0 new in
      let logged : noted new ≡ noted old = on.1 in
      let same : m ≡ u = on.3 in (
        on.2,
        subst (λ (l : List replay.Entry). HeardSo app from l u) (sym logged)
            (subst (λ (x : replay.Machine (types C Q V H T E L)). HeardSo app from (noted old) x) same far.1),
        ap (λ (x : replay.Machine (types C Q V H T E L)). replay.waiting x) (sym same) ∙ on.0,
        subst (λ (x : replay.Machine (types C Q V H T E L)). Counts calls (x.state).calls) same
            (subst (λ (n : ℕ). Counts n g.calls) (sym counts) far.2),
      )

  pub far_stop : {was : ℕ} (calls : ℕ) (old new : Machine P C Q V H T E L) (stop : Stop) → HeardFar old was → Hears app old new (Err stop)
      → HearsAll app from new calls (Err stop)
  far_stop calls old new stops.OutOfMemory far hears = tt
  far_stop calls old new (stops.Fault what) far hears =
      let g = far.0 in
      let part : HeardPart app (machine_of g [] 0 old) (noted old) (noted new) (fault_of what) = hears g [] 0 in
      let one = part.one in
      subst (λ (l : List replay.Entry). HeardCut app from l (fault_of what)) (sym one.logged)
      (heard_cut app from (noted old) (machine_of g [] 0 old) part.left one.first one.others (fault_of what) far.1 one.waits one.heard_is
      part.dead part.refused)

module _ {C Q V H T E L : Type 0} (app : Application (types C Q V H T E L)) (w : model.State (types C Q V H T E L))
    (name : Text) (event : Event L) (element : ℕ) where
  abbrev pub raised : replay.Machine (types C Q V H T E L)
  raised = set_aside app (resting w) (Raised name event.payload element event.propagates event.prevented)

module _ {P C Q V H T E L : Type 0} where
  -- an event that comes to these listeners
  abbrev pub hearing_of : Event L → List (CodeListener P C Q V H T E L) → Hearing P C Q V H T E L
  hearing_of event listeners = record { event = event; bubbles = event.propagates; listeners = listeners }

  -- a machine that handles it from now on
  abbrev pub begun_at : Machine P C Q V H T E L → Event L → List (CodeListener P C Q V H T E L) → Machine P C Q V H T E L
  begun_at old event listeners = record old { units = 0; default_enabled = true; hearing = Some (hearing_of event listeners) }

module _ {P C Q V H T E L : Type 0} (app : Application (types C Q V H T E L)) (w : model.State (types C Q V H T E L))
    (name : Text) (event : Event L) (element : ℕ) where
  -- an event on its way, from a machine at rest
  pub far_none : {calls : ℕ} (old begun : Machine P C Q V H T E L) (hearing : Hearing P C Q V H T E L) → (rests : RestsAt w old calls)
      → hearing.event ≡ event → hearing.bubbles ≡ event.propagates
      → listeners_of hearing.listeners ≡ heard (state_of (rests.kept) (old.scopes).state) name element event.propagates
      → begun ≡ record old { units = 0; default_enabled = true; hearing = Some hearing }
      → HeardSo app (raised app w name event element) (noted begun) (machine_of rests.kept [] 0 begun)
  far_none old begun hearing rests given bubbles hears is =
      let idle = rests.idle in
      let event_is : event_of hearing.event ≡ event_of event = ap (λ (e : Event L). event_of e) given in
      let listeners : listeners_of hearing.listeners ≡ heard w name element event.propagates =
      hears ∙ ap (λ (x : model.State (types C Q V H T E L)). heard x name element event.propagates) rests.is in
      let x : Machine P C Q V H T E L = record old { units = 0; default_enabled = true; hearing = Some hearing } in
      let same : machine_of rests.kept [] 0 x ≡ (raised app w name event element) =
      λ i. record {
        state = rests.is i;
        work = ap (λ xs. work_of (reverse xs)) idle.work i;
        listeners = listeners i;
        event = ap (λ (e : world.Event (types C Q V H T E L)). Some e) event_is i;
        bubbles = bubbles i;
        built = true;
        unit = ap (λ o. is_some (option_map entry_of o)) idle.first i;
        units = 0;
        inputs = [];
        taken = 0;
        default_enabled = true;
        dead = None;
        refused = None;
      } in
      let none : noted x ≡ [] = ap (λ es. map entry_of es) idle.course in
      let start : HeardSo app (raised app w name event element) [] (raised app w name event element) =
      record {
        alone = tt;
        rest = record { alive = refl; idle = refl; unit = refl };
        built = refl;
        so = λ limits. record { accepted = refl; told = refl };
      } in
      subst (λ (d : Machine P C Q V H T E L). HeardSo app (raised app w name event element) (noted d) (machine_of rests.kept [] 0 d)) (sym is)
      (subst (λ (l : List replay.Entry). HeardSo app (raised app w name event element) l (machine_of rests.kept [] 0 x)) (sym none)
      (subst (λ (u : replay.Machine (types C Q V H T E L)). HeardSo app (raised app w name event element) [] u) (sym same) start))

  -- so it begins with these listeners
  pub far_begun : {calls : ℕ} (old : Machine P C Q V H T E L) (listeners : List (CodeListener P C Q V H T E L)) → (rests : RestsAt w old calls)
      → listeners_of listeners ≡ heard (state_of (rests.kept) (old.scopes).state) name element event.propagates
      → HeardSo app (raised app w name event element) (noted (begun_at old event listeners)) (machine_of rests.kept [] 0 (begun_at old event listeners))
  far_begun old listeners rests hears =
      far_none old (begun_at old event listeners) (hearing_of event listeners) rests refl refl hears refl

  -- no listener waits any more: the event is as the last one left it, and the machine rests
  pub heard_on : (calls : ℕ) (over new : Machine P C Q V H T E L) (left : Hearing P C Q V H T E L)
      → HearsAll app (raised app w name event element) over calls (Ok tt)
      → over.work ≡ [] → over.first ≡ None
      → over.hearing ≡ Some left
      → new.work ≡ over.work → new.first ≡ over.first → new.hearing ≡ None → (new.course).entries ≡ [] → new.scopes ≡ over.scopes
      → HeardOn app w name event.payload element event.propagates event.prevented left.event new calls
  heard_on calls over new left far work first is same_work same_first none course scopes =
      let h = far.0 in
      let last : replay.Machine (types C Q V H T E L) = machine_of h [] 0 over in
      let so : HeardSo app (raised app w name event element) (noted over) last = far.1 in
      record {
        log = noted over;
        last = last;
        heard =
            record {
              alone = so.alone;
              ran =
                  λ limits.
                  record {
                    last = record (telling (raised app w name event element)) { machine = last };
                    so = so.so limits;
                    edits_are = refl;
                    machine = refl;
                    quiet = quiet last (so.rest).idle far.2 refl;
                  };
              left = ap (λ o. event_in o) is;
            };
        rests =
            record {
              idle = record { work = same_work ∙ work; hearing = none; first = same_first ∙ first; course = course };
              kept = h;
              is = ap (λ s. state_of h s.state) scopes;
              counted = far.3;
            };
      }
    where
      quiet : (m : replay.Machine (types C Q V H T E L)) → m.work ≡ [] → replay.waiting m ≡ [] → not (is_some m.dead) ≡ true
          → replay.is_quiet m ≡ true
      quiet m idle calm alive =
          ap (λ (b : Bool). b && replay.no_work m.work && replay.no_listener (replay.waiting m)) alive
          ∙ ap (λ (items : List (model.Item (types C Q V H T E L))). replay.no_work items && replay.no_listener (replay.waiting m)) idle
          ∙ ap (λ (ls : List (Listener (types C Q V H T E L))). replay.no_listener ls) calm

  -- a listener came to a fault
  pub heard_stop : (calls : ℕ) (over new : Machine P C Q V H T E L) (stop : Stop)
      → HearsAll app (raised app w name event element) over calls (Err stop)
      → HearsOn app w name event.payload element event.propagates event.prevented (Err stop) new calls
  heard_stop calls over new stops.OutOfMemory far = tt
  heard_stop calls over new (stops.Fault what) far = record { log = noted over; cut = far }
