-- What moves leave of marks and wakes, entry by entry.
use Rattle.std.proofs.Common.{ℕ, ◌+◌, Bool, true, false, not, List, [], ◌∷◌, ◌≡◌, inl, inr, refl, sym, ap, ◌∙◌, subst, nat_eq}
use Rattle.std.specs.Prelude.{Option, Some, None, if◌then◌else◌}
use Rattle.std.specs.List.{AllByRecursion}
use Rattle.rt_model.specs.Lists.{at}
use Rattle.rt_model.specs.Tree.{Types, VComponent, Place}
use Rattle.rt_model.specs.World.{CallFault, Event, Meaning, Application}
use Rattle.rt_model.specs.State.{SideName, Mark, Woken, Fault, State, Item, Draw, Row, Feed, Make, Drop, Outcome, Done, Cut, is_live, world_of}
use Rattle.rt_model.specs.Commands.{commands}
use Rattle.rt_model.specs.Next.{Work, RerunScope, PollTask, RunEffects, is_active, at_rest, next}
use Rattle.rt_model.specs.Run.{fault_of, with_next, called_once, run}
use Rattle.rt_model.specs.Heard.{Listener}
use Rattle.rt_model.specs.Removal.{next_removed, removed}
use Rattle.rt_model.specs.Replay.{Entry, Build, Taken, Heard, Rerun, Poll, Effects, Made, Fed, Kept, Removed, Input, EventAt, WakeOf, WriteOf, MarkOf, Drain, Machine, ended_by, if_live, waiting, looked_where_quiet, then_looked, taken_in, take_next, one_more_unit, fed_child, keeps, with_props, handed, due_work, due_heard, due_item, due, polled, effects_run, further, heard_event, heard_first, rested, outcome_of, change_by}
use Rattle.rt_model.specs.Causes.{Limits}
use Rattle.rt_model.proofs.Maps.{by_test}
use Rattle.rt_model.proofs.Members.{clash}
use Rattle.law_moves.specs.Moves.{Move, Silent, Closed, Logged, entries, is_silent, Leads}
use Rattle.law_moves.proofs.Insides.{alive_before, live_due, made_due, fed_due, fed_change}
use Rattle.law_moves.proofs.Logs.{logs_are_moves}
use Rattle.law_behavior.specs.Comes.{emptied, NothingLeft}
use Rattle.law_behavior.specs.Owed.{runs_in, polled_in, OwesRun, OwesPoll, MarksAreRun, WakesArePolled, LoggedMarksAreRun, LoggedWakesArePolled}
use Rattle.law_behavior.proofs.Coming.{none_is_left}
use Rattle.law_behavior.proofs.Stays.{Stays, stays_refl, stays_then, stays_to, post_stays, written_stays, commands_stay, rest_stays}
use Rattle.law_behavior.proofs.Looking.{StaysO, look_stays, rest_is_kept, messages_stay, mounts_stay}
use Rattle.law_behavior.proofs.Running.{numbered_stays, run_stays, step_stays, made_stays, fed_stays, kept_child_stays, removed_stays, polled_stays, effects_stay}

module _ {K : Types} where
  -- by one entry no mark is lost but where its scope runs, no wake but where its task is polled
  pub record StaysBy (e : Entry) (w v : State K) : Type 0 where
    pub runs : (s : ℕ) → runs_in s e ≡ false → OwesRun w s → OwesRun v s
    pub polls : (t : ℕ) → polled_in t e ≡ false → OwesPoll w t → OwesPoll v t

  -- the same where a machine is alive
  abbrev StaysOn : Entry → State K → Machine K → Type 0
  StaysOn e w u = u.dead ≡ None → StaysBy e w u.state

  by_all : (e : Entry) (w v : State K) → Stays None None w v → StaysBy e w v
  by_all e w v f = record { runs = λ s p h. f.runs s refl h; polls = λ t p h. f.polls t refl h }

  by_scope : (e : Entry) (r : ℕ) (w v : State K) → ((s : ℕ) → runs_in s e ≡ false → nat_eq r s ≡ false) → Stays (Some r) None w v → StaysBy e w v
  by_scope e r w v names f = record { runs = λ s p h. f.runs s (names s p) h; polls = λ t p h. f.polls t refl h }

  by_task : (e : Entry) (r : ℕ) (w v : State K) → ((t : ℕ) → polled_in t e ≡ false → nat_eq r t ≡ false) → Stays None (Some r) w v → StaysBy e w v
  by_task e r w v names f = record { runs = λ s p h. f.runs s refl h; polls = λ t p h. f.polls t (names t p) h }

  -- a change that ended
  after : (e : Entry) (w : State K) (past passed : Option ℕ) (m : Machine K) (item : Option (Item K)) (rest : List (Item K)) (o : Outcome K)
      → StaysO past passed w o → ((v : State K) → Stays past passed w v → StaysBy e w v) → StaysOn e w (ended_by m item rest o)
  after e w past passed m item rest (Done v work) f g = λ alive. g v f
  after e w past passed m item rest (Cut v fault) f g = λ alive. let absurdity : Some fault ≡ None = alive in cc

  -- the same after the state came to rest
  rested_first : (past passed : Option ℕ) (w : State K) (o : Outcome K) → StaysO past passed (at_rest w) o → StaysO past passed w o
  rested_first past passed w (Done v work) f = stays_then past passed w (at_rest w) v (stays_to past passed w (at_rest w) (rest_is_kept w)) f
  rested_first past passed w (Cut v fault) f = tt

  -- inputs and listeners

  looked_stays : (m : Machine K) (ls : List (Listener K)) → Stays None None m.state (looked_where_quiet m ls).state
  looked_stays m [] = look_stays m.state
  looked_stays m (l ∷ ls) = stays_refl None None m.state

  taken_stays : (m : Machine K) (input : Input K) → Stays None None m.state (taken_in m input).state
  taken_stays m (EventAt name payload element bubbles) = stays_refl None None m.state
  taken_stays m (WakeOf t) = post_stays m.state (Woken t)
  taken_stays m (WriteOf n v) = written_stays m.state n v (at m.state.cells n)
  taken_stays m (MarkOf s) = post_stays m.state (Mark s)
  taken_stays m (Drain messages) = messages_stay m.state messages

  take_stays : (m : Machine K) (inputs : List (Input K)) → Stays None None m.state (take_next m inputs).state
  take_stays m [] = stays_refl None None m.state
  take_stays m (input ∷ more) =
      let u : Machine K = record m { inputs = more; taken = m.taken + 1; units = 0; default_enabled = true; listeners = [] } in
      let v : Machine K = taken_in u input in
      stays_then None None m.state v.state (then_looked v).state (taken_stays u input) (looked_stays v (waiting v))

module _ {K : Types} (app : Application K) where
  hears_by : (m quiet : Machine K) (fault : Option CallFault) (faulted : CallFault → Machine K) → Stays None None m.state quiet.state → ((f : CallFault) → Stays None None m.state (faulted f).state)
      → Stays None None m.state (elim fault as (λ z. Machine K) [ None ↦ then_looked quiet | Some f ↦ faulted f ]).state
  hears_by m quiet None faulted p q = stays_then None None m.state quiet.state (then_looked quiet).state p (looked_stays quiet (waiting quiet))
  hears_by m quiet (Some f) faulted p q = q f

  hears_stay : (m : Machine K) (l : Listener K) (ls : List (Listener K)) (o : Option (Event K)) → Stays None None m.state (heard_event app m l ls o).state
  hears_stay m l ls None = stays_refl None None m.state
  hears_stay m l ls (Some event) =
      let w : State K = called_once m.state in
      let meaning : Meaning K (Event K) = app.handle l.handler event (world_of m.state l.origin None false) in
      let n : State K = with_next w meaning.next in
      let numbers : Stays None None m.state n = rest_stays m.state n refl refl refl refl refl in
      let quiet : Machine K = record m {
        state = commands app n l.origin None meaning.commands;
        event = Some meaning.answer;
        default_enabled = not meaning.answer.prevented;
        listeners = further app m meaning.answer ls;
      } in
      hears_by m quiet meaning.fault (λ f. record m { state = n; listeners = ls; dead = Some (fault_of f); refused = None })
      (stays_then None None m.state n quiet.state numbers (commands_stay app n l.origin None meaning.commands))
      (λ f. numbers)

  first_hears : (m : Machine K) (ls : List (Listener K)) → Stays None None m.state (heard_first app m ls).state
  first_hears m [] = stays_refl None None m.state
  first_hears m (l ∷ ls) = hears_stay m l ls m.event

  -- an entry of what is owed, else of the next input
  owed_by : (m : Machine K) (work : Option Work) (e : Entry) → if_live m.state (due_work app m work m.inputs) ≡ Some e → StaysOn e m.state (change_by app m [] e)
  owed_by m (Some (RerunScope r)) e due_is =
      let same : e ≡ Rerun r = (live_due app m.state (Rerun r) e due_is).0 in
      subst (λ (x : Entry). StaysOn x m.state (change_by app m [] x)) (sym same)
      (after (Rerun r) m.state (Some r) None (one_more_unit (rested app m)) None [] (run app (at_rest m.state) r)
      (rested_first (Some r) None m.state (run app (at_rest m.state) r) (run_stays app (at_rest m.state) r))
      (λ v f. by_scope (Rerun r) r m.state v (λ s p. p) f))
  owed_by m (Some (PollTask r)) e due_is =
      let same : e ≡ Poll r = (live_due app m.state (Poll r) e due_is).0 in
      subst (λ (x : Entry). StaysOn x m.state (change_by app m [] x)) (sym same)
      (after (Poll r) m.state None (Some r) (one_more_unit (rested app m)) None [] (polled app (at_rest m.state) r)
      (rested_first None (Some r) m.state (polled app (at_rest m.state) r) (polled_stays app (at_rest m.state) r))
      (λ v f. by_task (Poll r) r m.state v (λ s p. p) f))
  owed_by m (Some (RunEffects r)) e due_is =
      let same : e ≡ Effects r = (live_due app m.state (Effects r) e due_is).0 in
      subst (λ (x : Entry). StaysOn x m.state (change_by app m [] x)) (sym same)
      (after (Effects r) m.state None None (one_more_unit (rested app m)) None [] (effects_run app (at_rest m.state) r)
      (rested_first None None m.state (effects_run app (at_rest m.state) r) (effects_stay app (at_rest m.state) r))
      (λ v f. by_all (Effects r) m.state v f))
  owed_by m None e due_is = on m.inputs refl
    where
      on : (inputs : List (Input K)) → m.inputs ≡ inputs → StaysOn e m.state (change_by app m [] e)
      on [] more =
          let none : None ≡ Some e = sym (ap (λ (is : List (Input K)). if_live m.state (due_work app m None is)) more) ∙ due_is in
          cc
      on (input ∷ inputs) more =
          let found : if_live m.state (Some (Taken (m.taken + 1))) ≡ Some e = sym (ap (λ (is : List (Input K)). if_live m.state (due_work app m None is)) more) ∙ due_is in
          let same : e ≡ Taken (m.taken + 1) = (live_due app m.state (Taken (m.taken + 1)) e found).0 in
          let r : Machine K = rested app m in
          subst (λ (x : Entry). StaysOn x m.state (change_by app m [] x)) (sym same)
          (
          λ alive.
          by_all (Taken (m.taken + 1)) m.state (take_next r r.inputs).state
          (stays_then None None m.state (at_rest m.state) (take_next r r.inputs).state (rest_is_kept m.state) (take_stays r r.inputs))
          )

  heard_by_entry : (m : Machine K) (ls : List (Listener K)) (e : Entry) → waiting m ≡ ls → if_live m.state (due_heard app m ls) ≡ Some e → StaysOn e m.state (change_by app m [] e)
  heard_by_entry m [] e quiet due_is = owed_by m (next m.state) e due_is
  heard_by_entry m (l ∷ ls) e heard due_is =
      let same : e ≡ Heard l.origin = (live_due app m.state (Heard l.origin) e due_is).0 in
      subst (λ (x : Entry). StaysOn x m.state (change_by app m [] x)) (sym same)
      (λ alive. by_all (Heard l.origin) m.state (heard_first app m (waiting m)).state (first_hears m (waiting m)))

  -- an entry that serves the first item

  fed_by : (m : Machine K) (s : ℕ) (side : SideName) (p : Place) (c : VComponent K) (rest : List (Item K)) (t : ℕ) (e : Entry)
      → fed_child m.state s side p ≡ Some t → e ≡ (if keeps app m.state t c then Kept t else Fed t)
      → StaysOn e m.state (change_by app m (Feed s side p c ∷ rest) e)
  fed_by m s side p c rest t e child same =
      subst (λ (x : Entry). StaysOn x m.state (change_by app m (Feed s side p c ∷ rest) x)) (sym same)
      (
      subst (λ (x : Machine K). StaysOn (if keeps app m.state t c then Kept t else Fed t) m.state x) (sym (fed_change app m s side p c rest t (keeps app m.state t c)))
      (
      subst (λ (o : Outcome K). StaysOn (if keeps app m.state t c then Kept t else Fed t) m.state (ended_by m (Some (Feed s side p c)) rest o))
      (sym (ap (λ (z : Option ℕ). elim z as (λ y. Outcome K) [ None ↦ Done m.state [] | Some r ↦ handed app m.state r c ]) child))
      (on (keeps app m.state t c))
      )
      )
    where
      on : (b : Bool) → StaysOn (if b then Kept t else Fed t) m.state (ended_by m (Some (Feed s side p c)) rest (if b then Done (with_props app m.state t c) [] else run app (with_props app m.state t c) t))
      on true = λ alive. by_all (Kept t) m.state (with_props app m.state t c) (kept_child_stays app m.state t c)
      on false =
          after (Fed t) m.state (Some t) None m (Some (Feed s side p c)) rest (run app (with_props app m.state t c) t) (fed_stays app m.state t c) (λ v f. by_scope (Fed t) t m.state v (λ r q. q) f)

  dropped_by : (m : Machine K) (r top parent : ℕ) (side : SideName) (rest : List (Item K)) (b : Bool)
      → StaysOn (Removed r) m.state
      (if b then ended_by m (Some (Drop top parent side)) rest (removed app m.state r) else ended_by m (Some (Drop top parent side)) (Drop top parent side ∷ rest) (removed app m.state r))
  dropped_by m r top parent side rest true =
      after (Removed r) m.state None None m (Some (Drop top parent side)) rest (removed app m.state r) (removed_stays app m.state r) (λ v f. by_all (Removed r) m.state v f)
  dropped_by m r top parent side rest false =
      after (Removed r) m.state None None m (Some (Drop top parent side)) (Drop top parent side ∷ rest) (removed app m.state r) (removed_stays app m.state r) (λ v f. by_all (Removed r) m.state v f)

  item_by : (m : Machine K) (work : List (Item K)) (e : Entry) → if_live m.state (due_item app m work) ≡ Some e → StaysOn e m.state (change_by app m work e)
  item_by m [] e due_is = heard_by_entry m (waiting m) e refl due_is
  item_by m (Draw s side p k ∷ rest) e due_is = cc
  item_by m (Row b step ∷ rest) e due_is = cc
  item_by m (Make s side p c ∷ rest) e due_is =
      let found = made_due app m.state (is_live m.state s) m.state.next_scope e due_is in
      subst (λ (x : Entry). StaysOn x m.state (change_by app m (Make s side p c ∷ rest) x)) (sym found.1)
      (after (Made m.state.next_scope) m.state (Some m.state.next_scope) None m (Some (Make s side p c)) rest (outcome_of app m.state (Make s side p c)) (made_stays app m.state s side p c)
      (λ v f. by_scope (Made m.state.next_scope) m.state.next_scope m.state v (λ r q. q) f))
  item_by m (Feed s side p c ∷ rest) e due_is =
      let found = fed_due app m.state c (fed_child m.state s side p) e due_is in
      fed_by m s side p c rest found.0 e found.1 found.2
  item_by m (Drop top parent side ∷ rest) e due_is =
      let r : ℕ = next_removed m.state top in
      let same : e ≡ Removed r = (live_due app m.state (Removed r) e due_is).0 in
      subst (λ (x : Entry). StaysOn x m.state (change_by app m (Drop top parent side ∷ rest) x)) (sym same)
      (dropped_by m r top parent side rest (nat_eq r top))

  -- the build runs the root; it is spoken of no further
  build_by : (m : Machine K) (work : List (Item K)) → StaysOn Build m.state (change_by app m work Build)
  build_by m work =
      subst (λ (x : Machine K). StaysOn Build m.state x) (sym (is work))
      (after Build m.state (Some 0) None (record m { built = true; unit = true }) None [] (run app m.state 0) (run_stays app m.state 0) (λ v f. record { runs = λ s p h. clash refl p; polls = λ t p h. f.polls t refl h }))
    where
      is : (items : List (Item K)) → change_by app m items Build ≡ ended_by (record m { built = true; unit = true }) None [] (run app m.state 0)
      is [] = refl
      is (Draw s side p k ∷ rest) = refl
      is (Row b step ∷ rest) = refl
      is (Feed s side p c ∷ rest) = refl
      is (Make s side p c ∷ rest) = refl
      is (Drop t s side ∷ rest) = refl

  logged_by : (m : Machine K) (e : Entry) → m.dead ≡ None → due app m ≡ Some e → StaysOn e m.state (change_by app m m.work e)
  logged_by m e alive due_is =
      built_by m.built
      (sym (ap (λ (o : Option Fault). if_live m.state (elim o as (λ z. Option Entry) [ None ↦ (if m.built then due_item app m m.work else Some Build) | Some fault ↦ None ])) alive) ∙ due_is)
    where
      built_by : (b : Bool) → if_live m.state (if b then due_item app m m.work else Some Build) ≡ Some e → StaysOn e m.state (change_by app m m.work e)
      built_by true h = item_by m m.work e h
      built_by false h =
          let same : e ≡ Build = (live_due app m.state Build e h).0 in
          subst (λ (x : Entry). StaysOn x m.state (change_by app m m.work x)) (sym same) (build_by m m.work)

  -- items that need no entry
  silent_by : (m : Machine K) (item : Item K) (later : List (Item K)) → is_silent item ≡ true → (ended_by m (Some item) later (outcome_of app m.state item)).dead ≡ None
      → Stays None None m.state (ended_by m (Some item) later (outcome_of app m.state item)).state
  silent_by m item later silent alive = ended (outcome_of app m.state item) (served item silent) alive
    where
      served : (i : Item K) → is_silent i ≡ true → StaysO None None m.state (outcome_of app m.state i)
      served (Draw s side p k) h = numbered_stays m.state s side p k
      served (Row b step) h = step_stays app m.state b step
      served (Feed s side p c) h = clash refl (sym h)
      served (Make s side p c) h = clash refl (sym h)
      served (Drop t s side) h = clash refl (sym h)

      ended : (o : Outcome K) → StaysO None None m.state o → (ended_by m (Some item) later o).dead ≡ None → Stays None None m.state (ended_by m (Some item) later o).state
      ended (Done v work) f g = f
      ended (Cut v fault) f g = let absurdity : Some fault ≡ None = g in cc

  -- along moves a mark stays until its scope runs
  marks_stay : (limits : Limits) (m v : Machine K) (moves : List Move) (s : ℕ) → Leads app limits m moves v → v.dead ≡ None → AllByRecursion (λ (e : Entry). runs_in s e ≡ false) (entries moves)
      → OwesRun m.state s → OwesRun v.state s
  marks_stay limits m v [] s leads alive none h = subst (λ (x : Machine K). OwesRun x.state s) (sym leads) h
  marks_stay limits m v (Silent ∷ moves) s leads alive none h =
      let u : Machine K = leads.0 in
      let move = leads.1 in
      let here : u.dead ≡ None = alive_before app limits u v moves u.dead refl leads.2 alive in
      let now : (ended_by m (Some move.item) move.later (outcome_of app m.state move.item)).dead ≡ None = sym (ap (λ (x : Machine K). x.dead) move.gives) ∙ here in
      let next_owes : OwesRun u.state s =
      subst (λ (x : Machine K). OwesRun x.state s) (sym move.gives) ((silent_by m move.item move.later move.silent now).runs s refl h) in
      marks_stay limits u v moves s leads.2 alive none next_owes
  marks_stay limits m v (Closed ∷ moves) s leads alive none h =
      let u : Machine K = leads.0 in
      marks_stay limits u v moves s leads.2 alive none
      (subst (λ (x : Machine K). OwesRun x.state s) (sym leads.1.gives) ((mounts_stay m.state).runs s refl h))
  marks_stay limits m v (Logged e ∷ moves) s leads alive none h =
      let u : Machine K = leads.0 in
      let move = leads.1 in
      let before : m.dead ≡ None = alive_before app limits m v (Logged e ∷ moves) m.dead refl leads alive in
      let here : u.dead ≡ None = alive_before app limits u v moves u.dead refl leads.2 alive in
      let now : (change_by app m m.work e).dead ≡ None = sym (ap (λ (x : Machine K). x.dead) move.gives) ∙ here in
      marks_stay limits u v moves s leads.2 alive none.1
      (subst (λ (x : Machine K). OwesRun x.state s) (sym move.gives) ((logged_by m e before move.due_is now).runs s none.0 h))

  -- and a wake until its task is polled
  wakes_stay : (limits : Limits) (m v : Machine K) (moves : List Move) (t : ℕ) → Leads app limits m moves v → v.dead ≡ None → AllByRecursion (λ (e : Entry). polled_in t e ≡ false) (entries moves)
      → OwesPoll m.state t → OwesPoll v.state t
  wakes_stay limits m v [] t leads alive none h = subst (λ (x : Machine K). OwesPoll x.state t) (sym leads) h
  wakes_stay limits m v (Silent ∷ moves) t leads alive none h =
      let u : Machine K = leads.0 in
      let move = leads.1 in
      let here : u.dead ≡ None = alive_before app limits u v moves u.dead refl leads.2 alive in
      let now : (ended_by m (Some move.item) move.later (outcome_of app m.state move.item)).dead ≡ None = sym (ap (λ (x : Machine K). x.dead) move.gives) ∙ here in
      let next_owes : OwesPoll u.state t =
      subst (λ (x : Machine K). OwesPoll x.state t) (sym move.gives) ((silent_by m move.item move.later move.silent now).polls t refl h) in
      wakes_stay limits u v moves t leads.2 alive none next_owes
  wakes_stay limits m v (Closed ∷ moves) t leads alive none h =
      let u : Machine K = leads.0 in
      wakes_stay limits u v moves t leads.2 alive none
      (subst (λ (x : Machine K). OwesPoll x.state t) (sym leads.1.gives) ((mounts_stay m.state).polls t refl h))
  wakes_stay limits m v (Logged e ∷ moves) t leads alive none h =
      let u : Machine K = leads.0 in
      let move = leads.1 in
      let before : m.dead ≡ None = alive_before app limits m v (Logged e ∷ moves) m.dead refl leads alive in
      let here : u.dead ≡ None = alive_before app limits u v moves u.dead refl leads.2 alive in
      let now : (change_by app m m.work e).dead ≡ None = sym (ap (λ (x : Machine K). x.dead) move.gives) ∙ here in
      wakes_stay limits u v moves t leads.2 alive none.1
      (subst (λ (x : Machine K). OwesPoll x.state t) (sym move.gives) ((logged_by m e before move.due_is now).polls t none.0 h))

module _ {K : Types} where
  -- where nothing is owed nobody has a mark or a wake

  none_marked : (w : State K) (s : ℕ) → next w ≡ None → OwesRun w s → is_live w s ≡ false
  none_marked w s none h =
      let left : NothingLeft w = none_is_left K w none in
      let owes : OwesRun (emptied w) s = subst (λ (x : State K). OwesRun x s) left.rest ((rest_is_kept w).runs s refl h) in
      by_test (is_live w s)
      (λ q. elim (owes q) [ inl a ↦ absurd a | inr a ↦ clash a refl ])
      (λ q. q)

  none_woken : (w : State K) (t : ℕ) → next w ≡ None → OwesPoll w t → is_active w t ≡ false
  none_woken w t none h =
      let left : NothingLeft w = none_is_left K w none in
      let owes : OwesPoll (emptied w) t = subst (λ (x : State K). OwesPoll x t) left.rest ((rest_is_kept w).polls t refl h) in
      by_test (is_active w t)
      (λ q. elim (owes q) [ inl a ↦ absurd a | inr a ↦ clash a refl ])
      (λ q. q)

pub marks_are_run : {K : Types} (app : Application K) → MarksAreRun app
marks_are_run app limits m v moves s leads alive marked none =
    let owes : OwesRun v.state s = marks_stay app limits m v moves s leads alive none (λ live. marked) in
    (owes, λ rests. none_marked v.state s rests owes)

pub wakes_are_polled : {K : Types} (app : Application K) → WakesArePolled app
wakes_are_polled app limits m v moves t leads alive woken none =
    let owes : OwesPoll v.state t = wakes_stay app limits m v moves t leads alive none (λ active. woken) in
    (owes, λ rests. none_woken v.state t rests owes)

pub logged_marks_are_run : {K : Types} (app : Application K) → LoggedMarksAreRun app
logged_marks_are_run app limits m v log s settled accepted alive marked none =
    let found = logs_are_moves app limits m v log settled accepted in
    marks_are_run app limits m v found.0 s found.1 alive marked
    (subst (λ (es : List Entry). AllByRecursion (λ (e : Entry). runs_in s e ≡ false) es) (sym found.2) none)

pub logged_wakes_are_polled : {K : Types} (app : Application K) → LoggedWakesArePolled app
logged_wakes_are_polled app limits m v log t settled accepted alive woken none =
    let found = logs_are_moves app limits m v log settled accepted in
    wakes_are_polled app limits m v found.0 t found.1 alive woken
    (subst (λ (es : List Entry). AllByRecursion (λ (e : Entry). polled_in t e ≡ false) es) (sym found.2) none)
