-- What begins where nothing is at work: the build, a unit, an input, a listener; and the units that are spent.
use Rattle.std.proofs.Common.{ℕ, ◌+◌, Bool, true, false, ◌&&◌, ◌||◌, List, [], ◌∷◌, ◌++◌, ◌≡◌, refl, sym, ap, ◌∙◌, subst, nat_eq}
use Rattle.std.proofs.lemmas.List.{append-nil}
use Rattle.std.specs.Prelude.{Option, Some, None, is_some, if◌then◌else◌}
use Rattle.rt_model.specs.Tree.{Types}
use Rattle.rt_model.specs.World.{Application}
use Rattle.rt_model.specs.Laws.{IsLawful}
use Rattle.rt_model.specs.State.{Fault, OutOfTurns, State, Item, Outcome, Done, Cut}
use Rattle.rt_model.specs.Next.{Work, RerunScope, PollTask, RunEffects, at_rest, next}
use Rattle.rt_model.specs.Run.{run}
use Rattle.rt_model.specs.Heard.{Listener}
use Rattle.rt_model.specs.Replay.{Entry, Build, Taken, Heard, Input, Machine, ended_by, names_live, if_live, waiting, no_listener, due_heard, due_work, due_any, heard_event, rested, one_more_unit, take_next, start}
use Rattle.rt_model.specs.Document.{Edit}
use Rattle.rt_model.specs.Causes.{Limits, refusal, replay_within, edits_at_refusal}
use Rattle.rt_model.specs.Told.{Telling, opens, opened, closed_unit, telling, tell_log}
use Rattle.law_moves.proofs.Ways.{start_reached as way_start}
use Rattle.law_moves.specs.Moves.{Logged, moves_alone, IsSettled, AtRest, IsLogged}
use Rattle.law_moves.specs.Reached.{Reached}
use Rattle.law_moves.specs.Units.{unit_told}
use Rattle.law_moves.proofs.Joins.{stays, logs_join}
use Rattle.law_moves.proofs.Reports.{reports_go_on}
use Rattle.law_moves.proofs.Settles.{settled_stays}
use Rattle.law_moves.proofs.Acceptance.{accepted_within}
use Rattle.law_moves.proofs.Tellings.{told_machine, entry_told}
use Rattle.law_moves.proofs.Beginnings.{build_logged, rerun_logged, poll_logged, effects_logged, taken_logged, heard_logged}
use Rattle.law_moves.specs.Due.{DueIsAny}
use Rattle.law_moves.specs.Turn.{entry_for, begun_at, unit_of}
use Rattle.law_moves.specs.Underway.{Rests, Works, Refused}
use Rattle.law_moves.proofs.Underway.{reached_by}

-- the test for one unit too many, at rest
abbrev too_many : ℕ → Bool → Bool → Bool → Option Fault
too_many units quiet spent owed = if quiet && spent && owed then Some (OutOfTurns units) else None

pub named_of : (b : Bool) (e d : Entry) → (if b then Some e else None) ≡ Some d → b ≡ true
named_of true e d h = refl
named_of false e d h = cc

module _ {K : Types} where
  -- a machine at rest, written out
  abbrev quiet_at : Machine K → Machine K
  quiet_at m = record m { work = []; built = true; unit = false; dead = None }

  pub rest_is : (m : Machine K) → AtRest m → m.built ≡ true → m ≡ quiet_at m
  rest_is m h built =
      subst (λ (o : Option Fault). m ≡ record m { work = []; built = true; unit = false; dead = o }) h.alive
      (subst (λ (b : Bool). m ≡ record m { work = []; built = true; unit = b }) h.unit
      (subst (λ (b : Bool). m ≡ record m { work = []; built = b }) built
      (subst (λ (items : List (Item K)). m ≡ record m { work = items }) h.idle refl)))

  -- at rest an entry is needed
  pub rest_settled : (m : Machine K) → AtRest m → IsSettled m
  rest_settled m h =
      ap (λ (o : Option Fault). moves_alone o m.work m.unit) h.alive ∙ ap (λ (items : List (Item K)). moves_alone None items m.unit) h.idle ∙ h.unit

  -- at rest nothing is due but a listener, what is owed, or an input
  pub due_at_rest : (app : Application K) (m : Machine K) → AtRest m → m.built ≡ true → due_any app m ≡ due_heard app m (waiting m)
  due_at_rest app m h built = subst (λ (x : Machine K). due_any app x ≡ due_heard app x (waiting x)) (sym (rest_is m h built)) refl

  -- a unit's machine by the outcome of its first change
  abbrev began : Machine K → Outcome K → Machine K
  began m o = ended_by (one_more_unit (record m { state = at_rest m.state })) None [] o

  began_done : (m : Machine K) (o : Outcome K) (v : State K) (work : List (Item K)) → o ≡ Done v work → began m o ≡ begun_at m v work
  began_done m o v work h =
      ap (λ (x : Outcome K). began m x) h ∙ ap (λ (items : List (Item K)). begun_at m v items) (append-nil work)

  abbrev cut_unit : Machine K → State K → Fault → Machine K
  cut_unit m v fault = record m { state = v; work = []; unit = true; units = m.units + 1; dead = Some fault; refused = None }

  began_cut : (m : Machine K) (o : Outcome K) (v : State K) (fault : Fault) → o ≡ Cut v fault → began m o ≡ cut_unit m v fault
  began_cut m o v fault h = ap (λ (x : Outcome K). began m x) h

opens_unit : (work : Work) → opens (entry_for work) ≡ true
opens_unit (RerunScope s) = refl
opens_unit (PollTask t) = refl
opens_unit (RunEffects s) = refl

module _ {K : Types} (app : Application K) (lawful : IsLawful K app) (due_is_any : DueIsAny app) (limits : Limits) (props : K.Props) (inputs : List (Input K)) where
  owed_named : (m : Machine K) (work : Work) → Reached app limits props inputs m → AtRest m → m.built ≡ true → waiting m ≡ [] → next m.state ≡ Some work → names_live m.state (entry_for work) ≡ true
  owed_named m work reached h built quiet is =
      named_of (names_live m.state (entry_for work)) (entry_for work) (entry_for work)
      (sym
      (ap (λ (o : Option Entry). if_live m.state o)
      (due_at_rest app m h built ∙ ap (λ (ls : List (Listener K)). due_heard app m ls) quiet ∙ ap (λ (o : Option Work). due_work app m o m.inputs) is ∙ owed_due m work))
      ∙ due_is_any lawful limits props inputs m reached
      ∙ due_at_rest app m h built ∙ ap (λ (ls : List (Listener K)). due_heard app m ls) quiet ∙ ap (λ (o : Option Work). due_work app m o m.inputs) is ∙ owed_due m work)
    where
      owed_due : (m : Machine K) (work : Work) → due_work app m (Some work) m.inputs ≡ Some (entry_for work)
      owed_due m (RerunScope s) = refl
      owed_due m (PollTask t) = refl
      owed_due m (RunEffects s) = refl

  unit_logged : (m : Machine K) (work : Work) → Reached app limits props inputs m → AtRest m → m.built ≡ true → waiting m ≡ [] → next m.state ≡ Some work → nat_eq m.units limits.units ≡ false
      → IsLogged app limits m (entry_for work) (began m (unit_of app (at_rest m.state) work))
  unit_logged m (RerunScope s) reached h built quiet is left = rerun_logged app limits m s h built quiet is (owed_named m (RerunScope s) reached h built quiet is) left
  unit_logged m (PollTask t) reached h built quiet is left = poll_logged app limits m t h built quiet is (owed_named m (PollTask t) reached h built quiet is) left
  unit_logged m (RunEffects s) reached h built quiet is left = effects_logged app limits m s h built quiet is (owed_named m (RunEffects s) reached h built quiet is) left

  -- a unit begins
  pub rests_begin : (from m : Machine K) (log : List Entry) (edits : List Edit) (work : Work) (v : State K) (items : List (Item K))
      → Rests app limits props inputs from log edits m
      → waiting m ≡ []
      → next m.state ≡ Some work
      → nat_eq m.units limits.units ≡ false
      → unit_of app (at_rest m.state) work ≡ Done v items
      → Works app limits props inputs from (log ++ entry_for work ∷ []) edits m.state (entry_for work) (begun_at m v items)
  rests_begin from m log edits work v items s quiet is left did =
      let u : Machine K = begun_at m v items in
      let first : Entry = entry_for work in
      let logged : IsLogged app limits m first u =
      subst (λ (x : Machine K). IsLogged app limits m first x) (began_done m (unit_of app (at_rest m.state) work) v items did) (unit_logged m work s.reached s.rest s.built quiet is left) in
      record {
        told = record { machine = m; before = s.before; first = s.first; edits = edits };
        earlier = log;
        so = s.so;
        edits_are = refl;
        before = refl;
        begun = u;
        opening = opens_unit work;
        logged = logged;
        at_work = record { alive = s.rest.alive; built = s.built; unit = refl };
        more = [];
        goes = stays app limits u [];
        log_is = refl;
        same = refl;
        reached = reached_by app limits props inputs m u (Logged first ∷ []) s.reached (u, logged, refl);
      }

  -- a unit whose own call is cut
  pub rests_cut : (from m : Machine K) (log : List Entry) (edits : List Edit) (work : Work) (v : State K) (fault : Fault)
      → Rests app limits props inputs from log edits m
      → waiting m ≡ []
      → next m.state ≡ Some work
      → nat_eq m.units limits.units ≡ false
      → unit_of app (at_rest m.state) work ≡ Cut v fault
      → Refused app limits props inputs from (log ++ entry_for work ∷ []) edits fault
  rests_cut from m log edits work v fault s quiet is left did =
      let u : Machine K = cut_unit m v fault in
      let first : Entry = entry_for work in
      let t : Telling K = record { machine = m; before = s.before; first = s.first; edits = edits } in
      let logged : IsLogged app limits m first u =
      subst (λ (x : Machine K). IsLogged app limits m first x) (began_cut m (unit_of app (at_rest m.state) work) v fault did) (unit_logged m work s.reached s.rest s.built quiet is left) in
      let both = (reports_go_on app).3 limits from u u log [] fault t first s.so (opens_unit work) logged refl (stays app limits u []) refl refl in
      record {
        last = unit_told app t first u;
        so = both.0;
        cause = ap (λ (x : Machine K). refusal limits x) (told_machine app limits (record t { before = m.state; first = first }) true u);
        edits_are = both.1 ∙ append-nil edits;
      }

module _ {K : Types} (app : Application K) (limits : Limits) (props : K.Props) (inputs : List (Input K)) where
  -- one more unit is owed than there may be
  pub rests_spent : (from m : Machine K) (log : List Entry) (edits : List Edit) (work : Work)
      → Rests app limits props inputs from log edits m
      → waiting m ≡ []
      → next m.state ≡ Some work
      → nat_eq m.units limits.units ≡ true
      → Refused app limits props inputs from log edits (OutOfTurns limits.units)
  rests_spent from m log edits work s quiet is spent =
      record {
        last = record { machine = m; before = s.before; first = s.first; edits = edits };
        so = s.so;
        cause =
            ap (λ (x : Machine K). refusal limits x) (rest_is m s.rest s.built)
            ∙ ap (λ (ls : List (Listener K)). too_many limits.units (no_listener ls) (nat_eq m.units limits.units) (is_some (next m.state))) quiet
            ∙ ap (λ (b : Bool). too_many limits.units true b (is_some (next m.state))) spent
            ∙ ap (λ (o : Option Work). too_many limits.units true true (is_some o)) is;
        edits_are =
            ap (λ (x : Machine K). edits_at_refusal app limits (record { machine = x; before = s.before; first = s.first; edits = edits })) (rest_is m s.rest s.built);
      }

  -- a listener is called
  pub rests_heard : (from m u : Machine K) (log : List Entry) (edits : List Edit) (l : Listener K) (ls : List (Listener K))
      → Rests app limits props inputs from log edits m
      → waiting m ≡ l ∷ ls
      → heard_event app m l ls m.event ≡ u
      → AtRest u
      → u.built ≡ true
      → Rests app limits props inputs from (log ++ Heard l.origin ∷ []) edits u
  rests_heard from m u log edits l ls s waits heard rest built =
      let e : Entry = Heard l.origin in
      let t : Telling K = record { machine = m; before = s.before; first = s.first; edits = edits } in
      let logged : IsLogged app limits m e u = subst (λ (x : Machine K). IsLogged app limits m e x) heard (heard_logged app limits m l ls s.rest s.built waits) in
      record {
        before = s.before;
        first = s.first;
        so = (reports_go_on app).1 limits from u log t e s.so refl s.rest.unit logged (rest_settled u rest) rest.alive;
        rest = rest;
        built = built;
        reached = reached_by app limits props inputs m u (Logged e ∷ []) s.reached (u, logged, refl);
      }

  -- a listener's call is cut
  pub heard_cut : (from m u : Machine K) (log : List Entry) (edits : List Edit) (l : Listener K) (ls : List (Listener K)) (fault : Fault)
      → Rests app limits props inputs from log edits m
      → waiting m ≡ l ∷ ls
      → heard_event app m l ls m.event ≡ u
      → u.dead ≡ Some fault
      → u.refused ≡ None
      → Refused app limits props inputs from (log ++ Heard l.origin ∷ []) edits fault
  heard_cut from m u log edits l ls fault s waits heard dead refused =
      let e : Entry = Heard l.origin in
      let t : Telling K = record { machine = m; before = s.before; first = s.first; edits = edits } in
      let x : Machine K = record u { dead = Some fault; refused = None } in
      let is_x : u ≡ x =
      subst (λ (o : Option Fault). u ≡ record u { dead = o; refused = None }) dead (subst (λ (o : Option (Item K)). u ≡ record u { refused = o }) refused refl) in
      let logged : IsLogged app limits m e x = subst (λ (y : Machine K). IsLogged app limits m e y) (heard ∙ is_x) (heard_logged app limits m l ls s.rest s.built waits) in
      let last : Telling K = record t { machine = x; edits = edits ++ [] } in
      let joins = logs_join app limits log (e ∷ []) in
      record {
        last = last;
        so = record {
          accepted = joins.0 from m s.so.accepted
              ∙ ap (λ (y : Machine K). replay_within app limits (Some y) (e ∷ [])) (sym (settled_stays app m logged.settled))
              ∙ accepted_within app limits m x (Logged e ∷ []) (x, logged, refl) refl;
          told = joins.2 (telling from) t s.so.told
              ∙ ap (λ (o : Option (Telling K)). tell_log app o []) (entry_told app limits t m x e refl logged ∙ ap (λ (y : Machine K). Some (closed_unit app (opened t e) (opens e || t.machine.unit) y)) (settled_stays app x refl));
        };
        cause = refl;
        edits_are = append-nil edits;
      }

  -- an input is taken in: a report begins
  pub opens_taken : (m u : Machine K) (input : Input K) (more : List (Input K))
      → Reached app limits props inputs m
      → AtRest m
      → m.built ≡ true
      → waiting m ≡ []
      → next m.state ≡ None
      → m.inputs ≡ input ∷ more
      → take_next (rested app m) (input ∷ more) ≡ u
      → AtRest u
      → u.built ≡ true
      → Rests app limits props inputs m (Taken (m.taken + 1) ∷ []) [] u
  opens_taken m u input more reached h built quiet none left taken rest ubuilt =
      let e : Entry = Taken (m.taken + 1) in
      let logged : IsLogged app limits m e u = subst (λ (x : Machine K). IsLogged app limits m e x) taken (taken_logged app limits m input more h built quiet none left) in
      record {
        before = m.state;
        first = Build;
        so = (reports_go_on app).1 limits m u [] (telling m) e ((reports_go_on app).0 limits m) refl h.unit logged (rest_settled u rest) rest.alive;
        rest = rest;
        built = ubuilt;
        reached = reached_by app limits props inputs m u (Logged e ∷ []) reached (u, logged, refl);
      }

  -- a replay's start
  abbrev first_machine : Machine K
  first_machine = start app props inputs

  abbrev built_at : State K → List (Item K) → Machine K
  built_at v work = record first_machine { state = v; work = work; built = true; unit = true }

  abbrev cut_build : State K → Fault → Machine K
  cut_build v fault = record first_machine { state = v; work = []; built = true; unit = true; dead = Some fault; refused = None }

  start_rests : AtRest first_machine
  start_rests = record { alive = refl; idle = refl; unit = refl }

  start_reached : Reached app limits props inputs first_machine
  start_reached = way_start app limits props inputs

  -- the build begins
  pub opens_build : (v : State K) (items : List (Item K))
      → run app (start app props inputs).state 0 ≡ Done v items
      → Works app limits props inputs (start app props inputs) (Build ∷ []) [] (start app props inputs).state Build (record (start app props inputs) { state = v; work = items; built = true; unit = true })
  opens_build v items did =
      let m : Machine K = first_machine in
      let u : Machine K = built_at v items in
      let o : Outcome K = run app m.state 0 in
      let logged : IsLogged app limits m Build u =
      subst (λ (x : Machine K). IsLogged app limits m Build x)
      (ap (λ (x : Outcome K). ended_by (record m { built = true; unit = true }) None [] x) did ∙ ap (λ (xs : List (Item K)). built_at v xs) (append-nil items))
      (build_logged app limits m start_rests refl) in
      record {
        told = telling m;
        earlier = [];
        so = (reports_go_on app).0 limits m;
        edits_are = refl;
        before = refl;
        begun = u;
        opening = refl;
        logged = logged;
        at_work = record { alive = refl; built = refl; unit = refl };
        more = [];
        goes = stays app limits u [];
        log_is = refl;
        same = refl;
        reached = reached_by app limits props inputs m u (Logged Build ∷ []) start_reached (u, logged, refl);
      }

  -- the build's own call is cut
  pub build_cut : (v : State K) (fault : Fault)
      → run app (start app props inputs).state 0 ≡ Cut v fault
      → Refused app limits props inputs (start app props inputs) (Build ∷ []) [] fault
  build_cut v fault did =
      let m : Machine K = first_machine in
      let u : Machine K = cut_build v fault in
      let logged : IsLogged app limits m Build u =
      subst (λ (x : Machine K). IsLogged app limits m Build x) (ap (λ (x : Outcome K). ended_by (record m { built = true; unit = true }) None [] x) did) (build_logged app limits m start_rests refl) in
      let both = (reports_go_on app).3 limits m u u [] [] fault (telling m) Build ((reports_go_on app).0 limits m) refl logged refl (stays app limits u []) refl refl in
      record {
        last = unit_told app (telling m) Build u;
        so = both.0;
        cause = ap (λ (x : Machine K). refusal limits x) (told_machine app limits (record (telling m) { before = m.state; first = Build }) true u);
        edits_are = both.1;
      }
