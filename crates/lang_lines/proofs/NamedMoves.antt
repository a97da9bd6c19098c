-- What moves and accepted entries leave named.
use Rattle.std.proofs.Common.{ℕ, ◌+◌, ◌≤◌, Bool, true, false, List, [], ◌∷◌, ◌++◌, ◌≡◌, refl, sym, ap, ◌∙◌, subst, nat_eq, arith}
use Rattle.std.specs.Prelude.{Option, Some, None, if◌then◌else◌}
use Rattle.rt_model.specs.Lists.{at}
use Rattle.rt_model.specs.Tree.{Types, Place, VComponent, Root}
use Rattle.rt_model.specs.World.{last_number, Application}
use Rattle.rt_model.specs.Laws.{IsLawful}
use Rattle.rt_model.specs.State.{SideName, MainSide, Fault, Scope, State, Item, Draw, Row, Feed, Make, Drop, Outcome, Done, Cut, new_scope, is_live}
use Rattle.rt_model.specs.Next.{Work, RerunScope, PollTask, RunEffects, at_rest, next}
use Rattle.rt_model.specs.Run.{run}
use Rattle.rt_model.specs.Removal.{next_removed, removed}
use Rattle.rt_model.specs.Heard.{Listener}
use Rattle.rt_model.specs.Replay.{Entry, Build, Taken, Heard, Rerun, Poll, Effects, Fed, Kept, Removed, Input, Machine, ended_by, mounted_state, if_live, waiting, take_next, one_more_unit, fed_child, keeps, due_item, due_heard, due_work, due, outcome_of, polled, effects_run, heard_event, heard_first, rested, change_by, step, replay_on, start}
use Rattle.rt_model.specs.Causes.{Limits}
use Rattle.rt_model.proofs.Maps.{at_here, at_there, by_test}
use Rattle.rt_model.proofs.SideFrames.{Stay}
use Rattle.rt_model.proofs.SideRuns.{rest_stay, mounted_stay}
use Rattle.rt_model.proofs.Begun.{take_next_calm}
use Rattle.law_moves.specs.Moves.{Move, Silent, Closed, Logged, IsSettled, Leads}
use Rattle.law_moves.proofs.Insides.{live_due, made_due, fed_due, fed_change}
use Rattle.law_moves.proofs.Always.{take_work, heard_work}
use Rattle.law_moves.proofs.Logs.{logs_are_moves}
use Rattle.law_moves.proofs.Limited.{some_limits}
use Rattle.law_headline.proofs.Levels.{ended_idle, polled_rests, effects_rest}
use Rattle.law_headline.proofs.Reports.{settled_after}
use Rattle.lang_lines.specs.Named.{AnswersNamed}
use Rattle.lang_lines.proofs.NamedViews.{NamedScope}
use Rattle.lang_lines.proofs.NamedCuts.{Stays, polled_stays, effects_stays, heard_stays}
use Rattle.lang_lines.proofs.NamedStates.{NamedAt, NamedO, stay_named, at_rest_named, new_named}
use Rattle.lang_lines.proofs.NamedRuns.{run_named, item_named, removed_named}

module _ {K : Types} where
  -- a machine with names: its state, also where a fault ended the run, and its open work
  pub record NamedMachine (m : Machine K) : Type 0 where
    pub still : NamedAt m.state []
    pub alive : m.dead ≡ None → NamedAt m.state m.work

  ended_named : (m : Machine K) (item : Option (Item K)) (rest : List (Item K)) (o : Outcome K) → NamedO rest o → NamedMachine (ended_by m item rest o)
  ended_named m item rest (Done v work) h = record { still = at_rest_named v (work ++ rest) h; alive = λ alive. h }
  ended_named m item rest (Cut v fault) h = record { still = h; alive = λ alive. let absurdity : Some fault ≡ None = alive in cc }

  -- where a machine has no work and the sides that another one has
  calm_named : (m u : Machine K) → (u.dead ≡ None → u.work ≡ []) → Stay m.state u.state → NamedAt m.state [] → NamedMachine u
  calm_named m u none stay h =
      let now : NamedAt u.state [] = stay_named m.state u.state [] stay h in
      record { still = now; alive = λ alive. subst (λ (items : List (Item K)). NamedAt u.state items) (sym (none alive)) now }

  -- what an outcome leaves of the sides
  ended_stay : (m : Machine K) (w : State K) (o : Outcome K) → Stays w o → Stay w (ended_by m None [] o).state
  ended_stay m w (Done v work) h = h
  ended_stay m w (Cut v fault) h = h

module _ {K : Types} (app : Application K) (lawful : IsLawful K app) (answers : AnswersNamed app) where
  rest_named : (w : State K) → NamedAt w [] → NamedAt (at_rest w) []
  rest_named w h = stay_named w (at_rest w) [] (rest_stay w) h

  -- a unit that begins where nothing is at work: a rerun, or a poll
  pub rerun_named : (m : Machine K) (r : ℕ) → NamedAt m.state [] → NamedMachine (change_by app m [] (Rerun r))
  rerun_named m r h =
      ended_named (one_more_unit (rested app m)) None [] (run app (at_rest m.state) r) (run_named app lawful answers (at_rest m.state) [] r (rest_named m.state h))

  pub poll_named : (m : Machine K) (r : ℕ) → NamedAt m.state [] → NamedMachine (change_by app m [] (Poll r))
  poll_named m r h =
      let w : State K = at_rest m.state in
      let o : Outcome K = polled app w r in
      let u : Machine K = ended_by (one_more_unit (rested app m)) None [] o in
      calm_named (rested app m) u (λ alive. ended_idle (one_more_unit (rested app m)) w o (polled_rests app w r) alive)
      (ended_stay (one_more_unit (rested app m)) w o (polled_stays app lawful w r)) (rest_named m.state h)

  effects_named : (m : Machine K) (r : ℕ) → NamedAt m.state [] → NamedMachine (change_by app m [] (Effects r))
  effects_named m r h =
      let w : State K = at_rest m.state in
      let o : Outcome K = effects_run app w r in
      let u : Machine K = ended_by (one_more_unit (rested app m)) None [] o in
      calm_named (rested app m) u (λ alive. ended_idle (one_more_unit (rested app m)) w o (effects_rest app w r) alive)
      (ended_stay (one_more_unit (rested app m)) w o (effects_stays app lawful w r)) (rest_named m.state h)

  owed_named : (m : Machine K) (work : Option Work) (e : Entry) → m.work ≡ [] → NamedAt m.state [] → if_live m.state (due_work app m work m.inputs) ≡ Some e → NamedMachine (change_by app m [] e)
  owed_named m (Some (RerunScope r)) e none h due_is =
      let same : e ≡ Rerun r = (live_due app m.state (Rerun r) e due_is).0 in
      subst (λ (x : Entry). NamedMachine (change_by app m [] x)) (sym same) (rerun_named m r h)
  owed_named m (Some (PollTask r)) e none h due_is =
      let same : e ≡ Poll r = (live_due app m.state (Poll r) e due_is).0 in
      subst (λ (x : Entry). NamedMachine (change_by app m [] x)) (sym same) (poll_named m r h)
  owed_named m (Some (RunEffects r)) e none h due_is =
      let same : e ≡ Effects r = (live_due app m.state (Effects r) e due_is).0 in
      subst (λ (x : Entry). NamedMachine (change_by app m [] x)) (sym same) (effects_named m r h)
  owed_named m None e none h due_is = on m.inputs refl
    where
      on : (inputs : List (Input K)) → m.inputs ≡ inputs → NamedMachine (change_by app m [] e)
      on [] more =
          let absent : None ≡ Some e = sym (ap (λ (is : List (Input K)). if_live m.state (due_work app m None is)) more) ∙ due_is in
          cc
      on (input ∷ inputs) more =
          let found : if_live m.state (Some (Taken (m.taken + 1))) ≡ Some e = sym (ap (λ (is : List (Input K)). if_live m.state (due_work app m None is)) more) ∙ due_is in
          let same : e ≡ Taken (m.taken + 1) = (live_due app m.state (Taken (m.taken + 1)) e found).0 in
          let r : Machine K = rested app m in
          let u : Machine K = take_next r r.inputs in
          subst (λ (x : Entry). NamedMachine (change_by app m [] x)) (sym same)
          (calm_named r u (λ alive. take_work r r.inputs ∙ none) (take_next_calm r r.inputs).stays (rest_named m.state h))

  heard_named : (m : Machine K) (ls : List (Listener K)) (e : Entry) → m.work ≡ [] → NamedAt m.state [] → waiting m ≡ ls → if_live m.state (due_heard app m ls) ≡ Some e → NamedMachine (change_by app m [] e)
  heard_named m [] e none h quiet due_is = owed_named m (next m.state) e none h due_is
  heard_named m (l ∷ ls) e none h heard due_is =
      let same : e ≡ Heard l.origin = (live_due app m.state (Heard l.origin) e due_is).0 in
      let u : Machine K = heard_event app m l ls m.event in
      let now : NamedMachine u = calm_named m u (λ alive. heard_work app m l ls m.event ∙ none) (heard_stays app lawful m l ls m.event) h in
      subst (λ (x : Entry). NamedMachine (change_by app m [] x)) (sym same)
      (subst (λ (listeners : List (Listener K)). NamedMachine (heard_first app m listeners)) (sym heard) now)

  fed_named : (m : Machine K) (s : ℕ) (side : SideName) (p : Place) (c : VComponent K) (rest : List (Item K)) (t : ℕ) (e : Entry) → NamedAt m.state (Feed s side p c ∷ rest) → e ≡ (if keeps app m.state t c then Kept t else Fed t)
      → NamedMachine (change_by app m (Feed s side p c ∷ rest) e)
  fed_named m s side p c rest t e h same =
      let o : Outcome K = outcome_of app m.state (Feed s side p c) in
      subst (λ (x : Entry). NamedMachine (change_by app m (Feed s side p c ∷ rest) x)) (sym same)
      (subst (λ (x : Machine K). NamedMachine x) (sym (fed_change app m s side p c rest t (keeps app m.state t c)))
      (ended_named m (Some (Feed s side p c)) rest o (item_named app lawful answers m.state (Feed s side p c) rest h)))

  dropped_named : (m : Machine K) (r top parent : ℕ) (side : SideName) (rest : List (Item K)) (b : Bool) → NamedAt m.state (Drop top parent side ∷ rest)
      → NamedMachine (if b then ended_by m (Some (Drop top parent side)) rest (removed app m.state r) else ended_by m (Some (Drop top parent side)) (Drop top parent side ∷ rest) (removed app m.state r))
  dropped_named m r top parent side rest true h =
      ended_named m (Some (Drop top parent side)) rest (removed app m.state r)
      (removed_named app lawful answers m.state rest r (record { low = h.low; scopes = h.scopes; items = h.items.1 }))
  dropped_named m r top parent side rest false h =
      ended_named m (Some (Drop top parent side)) (Drop top parent side ∷ rest) (removed app m.state r)
      (removed_named app lawful answers m.state (Drop top parent side ∷ rest) r h)

  entry_named : (m : Machine K) (work : List (Item K)) (e : Entry) → m.work ≡ work → NamedAt m.state work → if_live m.state (due_item app m work) ≡ Some e → NamedMachine (change_by app m work e)
  entry_named m [] e first h due_is = heard_named m (waiting m) e first h refl due_is
  entry_named m (Draw s side p k ∷ rest) e first h due_is = cc
  entry_named m (Row b step ∷ rest) e first h due_is = cc
  entry_named m (Make s side p c ∷ rest) e first h due_is =
      let found = made_due app m.state (is_live m.state s) m.state.next_scope e due_is in
      subst (λ (x : Entry). NamedMachine (change_by app m (Make s side p c ∷ rest) x)) (sym found.1)
      (ended_named m (Some (Make s side p c)) rest (outcome_of app m.state (Make s side p c)) (item_named app lawful answers m.state (Make s side p c) rest h))
  entry_named m (Feed s side p c ∷ rest) e first h due_is =
      let found = fed_due app m.state c (fed_child m.state s side p) e due_is in fed_named m s side p c rest found.0 e h found.2
  entry_named m (Drop top parent side ∷ rest) e first h due_is =
      let r : ℕ = next_removed m.state top in
      let same : e ≡ Removed r = (live_due app m.state (Removed r) e due_is).0 in
      subst (λ (x : Entry). NamedMachine (change_by app m (Drop top parent side ∷ rest) x)) (sym same) (dropped_named m r top parent side rest (nat_eq r top) h)

  build_named : (m : Machine K) (work : List (Item K)) → NamedAt m.state work → NamedMachine (change_by app m work Build)
  build_named m work h =
      subst (λ (x : Machine K). NamedMachine x) (sym (is work))
      (ended_named (record m { built = true; unit = true }) None [] (run app m.state 0) (run_named app lawful answers m.state [] 0 (at_rest_named m.state work h)))
    where
      is : (items : List (Item K)) → change_by app m items Build ≡ ended_by (record m { built = true; unit = true }) None [] (run app m.state 0)
      is [] = refl
      is (Draw s side p k ∷ rest) = refl
      is (Row b step ∷ rest) = refl
      is (Feed s side p c ∷ rest) = refl
      is (Make s side p c ∷ rest) = refl
      is (Drop t s side ∷ rest) = refl

  logged_named : (m : Machine K) (e : Entry) → m.dead ≡ None → NamedMachine m → due app m ≡ Some e → NamedMachine (change_by app m m.work e)
  logged_named m e alive h due_is =
      built_by m.built
      (sym (ap (λ (o : Option Fault). if_live m.state (elim o as (λ z. Option Entry) [ None ↦ (if m.built then due_item app m m.work else Some Build) | Some fault ↦ None ])) alive) ∙ due_is)
    where
      built_by : (b : Bool) → if_live m.state (if b then due_item app m m.work else Some Build) ≡ Some e → NamedMachine (change_by app m m.work e)
      built_by true q = entry_named m m.work e refl (h.alive alive) q
      built_by false q =
          let same : e ≡ Build = (live_due app m.state Build e q).0 in
          subst (λ (x : Entry). NamedMachine (change_by app m m.work x)) (sym same) (build_named m m.work (h.alive alive))

  -- after a fault no entry is due
  dead_due : (m : Machine K) (e : Entry) (o : Option Fault) → m.dead ≡ o → due app m ≡ Some e → m.dead ≡ None
  dead_due m e None dead due_is = dead
  dead_due m e (Some fault) dead due_is =
      let absent : None ≡ Some e =
      sym (ap (λ (o : Option Fault). if_live m.state (elim o as (λ z. Option Entry) [ None ↦ (if m.built then due_item app m m.work else Some Build) | Some f ↦ None ])) dead) ∙ due_is in
      cc

  -- one move, and moves
  pub moves_named : (limits : Limits) (m v : Machine K) (moves : List Move) → Leads app limits m moves v → NamedMachine m → NamedMachine v
  moves_named limits m v [] leads h = subst (λ (x : Machine K). NamedMachine x) (sym leads) h
  moves_named limits m v (Silent ∷ moves) leads h =
      let move = leads.1 in
      let o : Outcome K = outcome_of app m.state move.item in
      let here : NamedAt m.state (move.item ∷ move.later) = subst (λ (items : List (Item K)). NamedAt m.state items) move.next (h.alive move.alive) in
      let now : NamedMachine (ended_by m (Some move.item) move.later o) = ended_named m (Some move.item) move.later o (item_named app lawful answers m.state move.item move.later here) in
      moves_named limits leads.0 v moves leads.2 (subst (λ (x : Machine K). NamedMachine x) (sym move.gives) now)
  moves_named limits m v (Closed ∷ moves) leads h =
      let move = leads.1 in
      let u : Machine K = record m { unit = false; state = mounted_state m.state } in
      let now : NamedMachine u = record {
        still = stay_named m.state (mounted_state m.state) [] (mounted_stay m.state) h.still;
        alive = λ alive. stay_named m.state (mounted_state m.state) m.work (mounted_stay m.state) (h.alive alive);
      } in
      moves_named limits leads.0 v moves leads.2 (subst (λ (x : Machine K). NamedMachine x) (sym move.gives) now)
  moves_named limits m v (Logged e ∷ moves) leads h =
      let move = leads.1 in
      let alive : m.dead ≡ None = dead_due m e m.dead refl move.due_is in
      moves_named limits leads.0 v moves leads.2 (subst (λ (x : Machine K). NamedMachine x) (sym move.gives) (logged_named m e alive h move.due_is))

  -- a log that is accepted, from a machine that needs an entry
  pub logs_named : (m v : Machine K) (log : List Entry) → IsSettled m → NamedMachine m → replay_on app (Some m) log ≡ Some v → IsSettled v × NamedMachine v
  logs_named m v log settled h accepted =
      let found = some_limits app log m v accepted in
      let moves = logs_are_moves app found.0 m v log settled found.1 in
      (settled_after app found.0 log m v settled found.1, moves_named found.0 m v moves.0 moves.1 h)

  first_row : (props : K.Props) (inputs : List (Input K)) (s : ℕ) (x : Scope K) → at (start app props inputs).state.scopes s ≡ Some x → NamedScope x
  first_row props inputs s x e =
      by_test (nat_eq 0 s)
      (
      λ q.
      let found : Some (new_scope (Root app.root props) None 0 MainSide) ≡ Some x = sym (at_here 0 (new_scope (Root app.root props) None 0 MainSide) [] s q) ∙ e in
      let same : new_scope (Root app.root props) None 0 MainSide ≡ x = cc in
      subst (λ (y : Scope K). NamedScope y) same (new_named (Root app.root props) None 0 MainSide tt)
      )
      (λ q. let absurdity : None ≡ Some x = sym (at_there 0 (new_scope (Root app.root props) None 0 MainSide) [] s q) ∙ e in cc)

  -- a replay at its start
  pub start_named : (props : K.Props) (inputs : List (Input K)) → NamedMachine (start app props inputs)
  start_named props inputs =
      let low : 1 ≤ last_number = omega arith in
      record {
        still = record { low = low; scopes = λ s x e. first_row props inputs s x e; items = tt };
        alive = λ alive. record { low = low; scopes = λ s x e. first_row props inputs s x e; items = tt };
      }
