-- A task that is spawned fresh stands so behind the move that spawns it.
use Rattle.std.proofs.Common.{ℕ, ◌+◌, ◌≤◌, ◌<◌, Bool, true, false, List, [], ◌∷◌, ◌++◌, ◌≡◌, inl, inr, refl, sym, ap, ◌∙◌, subst, nat_eq, nat_lt, arith}
use Rattle.std.specs.Prelude.{Option, Some, None, is_some}
use Rattle.std.specs.List.{AllByRecursion}
use Rattle.std.proofs.lemmas.Bool.{eqb-true}
pub use Rattle.rt_lemmas.proofs.Numbers.{lt_true as tested_low, lt_false as not_low}
use Rattle.rt_model.specs.Lists.{at}
use Rattle.rt_model.specs.Laws.{IsLawful}
use Rattle.rt_model.specs.Tree.{Types}
use Rattle.rt_model.specs.World.{TaskTarget, Firsts, Command, Spawn, World, Application}
use Rattle.rt_model.specs.State.{Woken, CellRow, ContextRow, TaskRow, State, is_live, world_of}
use Rattle.rt_model.specs.Commands.{post, command}
use Rattle.rt_model.specs.Run.{with_next}
use Rattle.rt_model.specs.Replay.{Entry, Poll, Machine, due_any}
use Rattle.rt_model.specs.Causes.{Limits}
use Rattle.rt_model.proofs.LastsAlways.{live_of}
use Rattle.rt_model.proofs.Maps.{by_test, at_append_here, at_append_none}
use Rattle.rt_model.proofs.Members.{clash}
use Rattle.law_moves.specs.Moves.{Move, Silent, Closed, Logged, Moves}
use Rattle.law_behavior.specs.Deeds.{Deed, move_deeds}
use Rattle.law_behavior.specs.Marking.{IsPosted}
use Rattle.law_behavior.specs.Owed.{polled_in, OwesPoll}
use Rattle.law_behavior.proofs.Readers.{Posts, post_posts}
use Rattle.law_behavior.proofs.Steadfast.{from_zero}
use Rattle.law_lasting.specs.CellsLast.{TakenLeaves}
use Rattle.author_formulas.specs.Formulas.{Formulas}
use Rattle.author_formulas.specs.Memos.{MemoTask, fresh}
use Rattle.law_minding.specs.Held.{move_polls, move_removes, MoveSpares}
use Rattle.law_minding.specs.Unpolled.{StandsFresh}
use Rattle.law_minding.specs.Coming.{SpawnsOne, SpawnsFresh, SpawnedStand}
use Rattle.law_minding.proofs.Values.{at_longer, active_in}
use Rattle.law_minding.proofs.Counting.{LowTask, tasks_count}
use Rattle.law_minding.proofs.Below.{move_under}
use Rattle.law_minding.proofs.Entries.{polls_it}
use Rattle.law_minding.proofs.Since.{Minding, Here, Standing, Passes, stand_on, posts_pass}
use Rattle.law_minding.proofs.Tasked.{posted_now}
use Rattle.law_minding.proofs.Leaving.{AllLeave, MoveLeaves}
use Rattle.law_minding.proofs.Carried.{MaySpawn, AllSpawn, GoodCall, move_keeps}
use Rattle.law_minding.proofs.Moved.{next_stands}
use Rattle.law_minding.proofs.Numbers.{move_new}
use Rattle.law_minding.proofs.Unpolled.{deeds_leave}

module _ {K : Types} (last : World K) (t cell scope : ℕ) (held : CellRow K) (place : K.TaskState) where
  -- no context is spoken of
  abbrev reads : ContextRow K
  reads = record { scope = scope; target = TaskTarget t; sources = [] }

  abbrev Stands : State K → Type 0
  Stands w = Standing last t 0 cell scope held place false reads refl refl w

  abbrev Gone : State K → Type 0
  Gone w = at w.tasks t ≡ None

  -- whom a call may spawn: another task, or this one in its place, where its cell is there
  abbrev Ours : State K → ℕ → ℕ → K.TaskState → Type 0
  Ours w n s b = nat_eq n t ≡ true → (b ≡ place) × (s ≡ scope) × (at w.cells cell ≡ Some held)

  -- or another task alone
  abbrev Others : State K → ℕ → ℕ → K.TaskState → Type 0
  Others w n s b = nat_eq n t ≡ false

  low_stands : (w : State K) → Stands w → 0 ≤ w.next.tasks
  low_stands w h = from_zero w.next.tasks

  keep_stands : (w v : State K) → Passes last t 0 cell scope held place false reads refl refl w v → Stands w → Stands v
  keep_stands w v p h = stand_on last t 0 cell scope held place false reads refl refl w v p h

  next_on : (w : State K) (next : Firsts) → 0 ≤ next.tasks → Stands w → Stands (with_next w next)
  next_on w next low h = next_stands last t 0 cell scope held place false reads refl refl w next h

  -- who comes stands from then on
  comes : (w : State K) (u : ℕ) (x : TaskRow K) → nat_eq u t ≡ true → is_live w x.scope ≡ true → (x.state ≡ place) × (x.scope ≡ scope) × (at w.cells cell ≡ Some held) → Gone w
      → Stands (post (record w { tasks = w.tasks ++ (u, x) ∷ [] }) (Woken u))
  comes w u x own live is none =
      inr
      (record {
        row = x;
        is = ap (λ (z : State K). at z.tasks t) posts.alike ∙ here;
        scope_is = is.1;
        state_is = is.0;
        lives = ap (λ (z : State K). is_some (at z.scopes scope)) posts.alike ∙ subst (λ (s : ℕ). is_live w s ≡ true) is.1 live;
        holds = ap (λ (z : State K). at z.cells cell) posts.alike ∙ is.2;
        context = λ once. cc;
        minds = inl owed;
      })
    where
      v : State K
      v = record w { tasks = w.tasks ++ (u, x) ∷ [] }

      posts : Posts v (post v (Woken u))
      posts = post_posts v (Woken u)

      here : at v.tasks t ≡ Some x
      here = at_append_here w.tasks u x t own none

      there : is_some (at v.tasks u) ≡ true
      there = ap (λ (n : ℕ). is_some (at v.tasks n)) (eqb-true u t own) ∙ ap (λ (o : Option (TaskRow K)). is_some o) here

      owed : OwesPoll (post v (Woken u)) t
      owed active = inl (subst (λ (n : ℕ). IsPosted (post v (Woken u)).posted (Woken n)) (eqb-true u t own) (posted_now v u there))

  -- who is there has the row that it had
  stays : (w : State K) (u : ℕ) (x : TaskRow K) → Here last t 0 cell scope held place false reads refl refl w → Stands (post (record w { tasks = w.tasks ++ (u, x) ∷ [] }) (Woken u))
  stays w u x h = keep_stands v (post v (Woken u)) (posts_pass last t 0 cell scope held place false reads refl refl v (post v (Woken u)) (post_posts v (Woken u))) (inr now)
    where
      v : State K
      v = record w { tasks = w.tasks ++ (u, x) ∷ [] }

      row : at v.tasks t ≡ Some h.row
      row = at_longer w.tasks t u x h.row h.is

      owes : OwesPoll w t → OwesPoll v t
      owes o active =
          o (ap (λ (z : Option (TaskRow K)). active_in z) (h.is ∙ sym row) ∙ active)

      minds : Minding last t 0 cell scope held place false reads refl refl w → Minding last t 0 cell scope held place false reads refl refl v
      minds (inl owed) = inl (owes owed)
      minds (inr current) = let absurdity : false ≡ true = current.0 in cc

      now : Here last t 0 cell scope held place false reads refl refl v
      now =
          record {
            row = h.row;
            is = row;
            scope_is = h.scope_is;
            state_is = h.state_is;
            lives = h.lives;
            holds = h.holds;
            context = λ once. cc;
            minds = minds h.minds;
          }

  spawn_on : (w : State K) (u : ℕ) (x : TaskRow K) → is_live w x.scope ≡ true → 0 ≤ u → Ours w u x.scope x.state → Stands w → Stands (post (record w { tasks = w.tasks ++ (u, x) ∷ [] }) (Woken u))
  spawn_on w u x live low ours (inr h) = stays w u x h
  spawn_on w u x live low ours (inl none) =
      by_test (nat_eq u t)
      (λ q. comes w u x q live (ours q) none)
      (
      λ q.
      let v : State K = record w { tasks = w.tasks ++ (u, x) ∷ [] } in
      inl (ap (λ (z : State K). at z.tasks t) (post_posts v (Woken u)).alike ∙ at_append_none w.tasks u x t q ∙ none)
      )

  -- another task leaves it away
  low_gone : (w : State K) → Gone w → 0 ≤ w.next.tasks
  low_gone w h = from_zero w.next.tasks

  keep_gone : (w v : State K) → Passes last t 0 cell scope held place false reads refl refl w v → Gone w → Gone v
  keep_gone w v p h = p.none h

  next_gone : (w : State K) (next : Firsts) → 0 ≤ next.tasks → Gone w → Gone (with_next w next)
  next_gone w next low h = h

  spawn_gone : (w : State K) (u : ℕ) (x : TaskRow K) → is_live w x.scope ≡ true → 0 ≤ u → Others w u x.scope x.state → Gone w → Gone (post (record w { tasks = w.tasks ++ (u, x) ∷ [] }) (Woken u))
  spawn_gone w u x live low other none =
      let v : State K = record w { tasks = w.tasks ++ (u, x) ∷ [] } in
      ap (λ (z : State K). at z.tasks t) (post_posts v (Woken u)).alike ∙ at_append_none w.tasks u x t other ∙ none

module _
    {K : Types} {F : Type 0} (a : Formulas K F) (app : Application K) (state : MemoTask K.Value F → K.TaskState) (lawful : IsLawful K app)
    (limits : Limits) (m u : Machine K) (move : Move) (t cell scope : ℕ) (held : CellRow K) (f : F) (loads : Bool)
    (step : Moves app limits m move u) (none : at m.state.tasks t ≡ None)
    (spares : MoveSpares a app m t held.owner (fresh cell f loads) move) (stays_on : move_removes scope move ≡ false) where
  abbrev place : K.TaskState
  place = state (fresh cell f loads)

  abbrev last : World K
  last = world_of m.state 0 None false

  -- who isn't there isn't polled
  never : (e : Entry) → Moves app limits m (Logged e) u → polled_in t e ≡ false
  never e logged =
      by_test (polled_in t e)
      (
      λ q.
      let polls : Moves app limits m (Logged (Poll t)) u = subst (λ (d : Entry). Moves app limits m (Logged d) u) (polls_it t e q) logged in
      clash (live_of m.state (due_any app m) (Poll t) polls.due_is).1 (ap (λ (o : Option (TaskRow K)). is_some o) none)
      )
      (λ q. q)

  unpolled : move_polls t move ≡ false
  unpolled = by move step
    where
      by : (v : Move) → Moves app limits m v u → move_polls t v ≡ false
      by Silent s = refl
      by Closed s = refl
      by (Logged e) s = never e s

  spared : AllByRecursion (λ (d : Deed K). AllLeave last t 0 cell scope held false d.wants) (move_deeds app m move)
  spared =
      deeds_leave a app lawful limits t cell scope f loads place held last (move_deeds app m move) (spares unpolled).0
      (move_new last.given.next.cells 0 app lawful m move (least m.state.next.cells, from_zero m.state.next.contexts))
    where
      least : (n : ℕ) → n ≤ n
      least n = omega arith

  leaves : MoveLeaves last t 0 cell scope held false m.inputs move
  leaves = by move unpolled stays_on (spares unpolled).1 (spares unpolled).2
    where
      by : (v : Move) → move_polls t v ≡ false → move_removes scope v ≡ false → TakenLeaves cell m.inputs v → move_removes held.owner v ≡ false → MoveLeaves last t 0 cell scope held false m.inputs v
      by Silent p q r s = tt
      by Closed p q r s = tt
      by (Logged e) p q r s = (p, q, s, r)

  module _ (spawns : AllByRecursion (λ (d : Deed K). SpawnsFresh app state t cell scope held f loads d.state d.scope d.polled d.wants) (move_deeds app m move))
      (there : is_some (at u.state.tasks t) ≡ true) where
    abbrev MayOurs : State K → ℕ → Command K → Type 0
    MayOurs w s c = MaySpawn last t 0 cell scope held place false (record { scope = scope; target = TaskTarget t; sources = [] }) refl refl 0 (λ w n s b. Ours last t cell scope held place w n s b) (λ w. Stands last t cell scope held place w) (λ w h. low_stands last t cell scope held place w h) (λ w v p h. keep_stands last t cell scope held place w v p h) (λ w next low h. next_on last t cell scope held place w next low h) (λ w n x live low ours h. spawn_on last t cell scope held place w n x live low ours h) app lawful.tests_values w s c

    abbrev AllOurs : State K → ℕ → Option ℕ → List (Command K) → Type 0
    AllOurs w s asked cs = AllSpawn last t 0 cell scope held place false (record { scope = scope; target = TaskTarget t; sources = [] }) refl refl 0 (λ w n s b. Ours last t cell scope held place w n s b) (λ w. Stands last t cell scope held place w) (λ w h. low_stands last t cell scope held place w h) (λ w v p h. keep_stands last t cell scope held place w v p h) (λ w next low h. next_on last t cell scope held place w next low h) (λ w n x live low ours h. spawn_on last t cell scope held place w n x live low ours h) app lawful.tests_values w s asked cs

    one_ours : (w : State K) (s : ℕ) (c : Command K) → SpawnsOne app state t cell scope held f loads w s c → MayOurs w s c
    one_ours w s (Spawn n b forever isomorphic) h = h
    one_ours w s c h = tt

    all_ours : (w : State K) (s : ℕ) (asked : Option ℕ) (cs : List (Command K)) → SpawnsFresh app state t cell scope held f loads w s asked cs → AllOurs w s asked cs
    all_ours w s asked [] h = tt
    all_ours w s asked (c ∷ cs) h = (one_ours w s c h.0, all_ours (command app w s asked c) s asked cs h.1)

    good_ours : (ds : List (Deed K)) → AllByRecursion (λ (d : Deed K). AllLeave last t 0 cell scope held false d.wants) ds
        → AllByRecursion (λ (d : Deed K). SpawnsFresh app state t cell scope held f loads d.state d.scope d.polled d.wants) ds
        → AllByRecursion (λ (d : Deed K). GoodCall last t 0 cell scope held place false (record { scope = scope; target = TaskTarget t; sources = [] }) refl refl 0 (λ w n s b. Ours last t cell scope held place w n s b) (λ w. Stands last t cell scope held place w) (λ w h. low_stands last t cell scope held place w h) (λ w v p h. keep_stands last t cell scope held place w v p h) (λ w next low h. next_on last t cell scope held place w next low h) (λ w n x live low ours h. spawn_on last t cell scope held place w n x live low ours h) app lawful.tests_values d.state d.scope d.polled d.wants) ds
    good_ours [] l h = tt
    good_ours (d ∷ ds) l h = ((l.0, all_ours d.state d.scope d.polled d.wants h.0), good_ours ds l.1 h.1)

    stands : Stands last t cell scope held place u.state
    stands = move_keeps last t 0 cell scope held place false (record { scope = scope; target = TaskTarget t; sources = [] }) refl refl 0 (λ w n s b. Ours last t cell scope held place w n s b) (λ w. Stands last t cell scope held place w) (λ w h. low_stands last t cell scope held place w h) (λ w v p h. keep_stands last t cell scope held place w v p h) (λ w next low h. next_on last t cell scope held place w next low h) (λ w n x live low ours h. spawn_on last t cell scope held place w n x live low ours h) app lawful.tests_values lawful limits m u move step (good_ours (move_deeds app m move) spared spawns) leaves (inl none)

    -- its number was drawn: else no call of the move would have spawned it
    module _ (high : u.state.next.tasks ≤ t) where
      one_other : (w : State K) (s : ℕ) (c : Command K) → LowTask {K = K} u.state.next.tasks c → MaySpawn last t 0 cell scope held place false (record { scope = scope; target = TaskTarget t; sources = [] }) refl refl 0 (λ w n s b. Others last t cell scope held place w n s b) (λ w. Gone last t cell scope held place w) (λ w h. low_gone last t cell scope held place w h) (λ w v p h. keep_gone last t cell scope held place w v p h) (λ w next low h. next_gone last t cell scope held place w next low h) (λ w n x live low other h. spawn_gone last t cell scope held place w n x live low other h) app lawful.tests_values w s c
      one_other w s (Spawn n b forever isomorphic) h =
          by_test (nat_eq n t)
          (λ q. let e : n ≡ t = eqb-true n t q in absurd (omega (arith, e, h, high)))
          (λ q. q)
      one_other w s c h = tt

      all_other : (w : State K) (s : ℕ) (asked : Option ℕ) (cs : List (Command K)) → AllByRecursion (λ (c : Command K). LowTask {K = K} u.state.next.tasks c) cs
          → AllSpawn last t 0 cell scope held place false (record { scope = scope; target = TaskTarget t; sources = [] }) refl refl 0 (λ w n s b. Others last t cell scope held place w n s b) (λ w. Gone last t cell scope held place w) (λ w h. low_gone last t cell scope held place w h) (λ w v p h. keep_gone last t cell scope held place w v p h) (λ w next low h. next_gone last t cell scope held place w next low h) (λ w n x live low other h. spawn_gone last t cell scope held place w n x live low other h) app lawful.tests_values w s asked cs
      all_other w s asked [] h = tt
      all_other w s asked (c ∷ cs) h = (one_other w s c h.0, all_other (command app w s asked c) s asked cs h.1)

      good_other : (ds : List (Deed K)) → AllByRecursion (λ (d : Deed K). AllLeave last t 0 cell scope held false d.wants) ds
          → AllByRecursion (λ (d : Deed K). AllByRecursion (λ (c : Command K). LowTask {K = K} u.state.next.tasks c) d.wants) ds
          → AllByRecursion (λ (d : Deed K). GoodCall last t 0 cell scope held place false (record { scope = scope; target = TaskTarget t; sources = [] }) refl refl 0 (λ w n s b. Others last t cell scope held place w n s b) (λ w. Gone last t cell scope held place w) (λ w h. low_gone last t cell scope held place w h) (λ w v p h. keep_gone last t cell scope held place w v p h) (λ w next low h. next_gone last t cell scope held place w next low h) (λ w n x live low other h. spawn_gone last t cell scope held place w n x live low other h) app lawful.tests_values d.state d.scope d.polled d.wants) ds
      good_other [] l h = tt
      good_other (d ∷ ds) l h = ((l.0, all_other d.state d.scope d.polled d.wants h.0), good_other ds l.1 h.1)

      away : at u.state.tasks t ≡ None
      away =
          move_keeps last t 0 cell scope held place false (record { scope = scope; target = TaskTarget t; sources = [] }) refl refl 0 (λ w n s b. Others last t cell scope held place w n s b) (λ w. Gone last t cell scope held place w) (λ w h. low_gone last t cell scope held place w h) (λ w v p h. keep_gone last t cell scope held place w v p h) (λ w next low h. next_gone last t cell scope held place w next low h) (λ w n x live low other h. spawn_gone last t cell scope held place w n x live low other h) app lawful.tests_values lawful limits m u move step
          (good_other (move_deeds app m move) spared (move_under tasks_count u.state.next.tasks app lawful limits m u move step (least u.state.next.tasks)))
          leaves none
        where
          least : (n : ℕ) → n ≤ n
          least n = omega arith

    drawn : t < u.state.next.tasks
    drawn =
        by_test (nat_lt t u.state.next.tasks)
        (λ q. tested_low t u.state.next.tasks q)
        (λ q. clash there (ap (λ (o : Option (TaskRow K)). is_some o) (away (not_low t u.state.next.tasks q))))

    come : StandsFresh state u.state t cell scope held f loads
    come = by stands
      where
        by : Stands last t cell scope held place u.state → StandsFresh state u.state t cell scope held f loads
        by (inl gone) = clash there (ap (λ (o : Option (TaskRow K)). is_some o) gone)
        by (inr here) =
            record {
              task = here.row;
              task_is = here.is;
              state_is = here.state_is;
              scope_is = here.scope_is;
              lives = here.lives;
              row_is = here.holds;
              drawn = drawn;
              owed = owed here.minds;
            }
          where
            owed : Minding last t 0 cell scope held place false (record { scope = scope; target = TaskTarget t; sources = [] }) refl refl u.state → OwesPoll u.state t
            owed (inl o) = o
            owed (inr h) = let absurdity : false ≡ true = h.0 in cc

pub spawned_stand : {K : Types} {F : Type 0} (a : Formulas K F) (app : Application K) (state : MemoTask K.Value F → K.TaskState) → SpawnedStand a app state
spawned_stand a app state lawful limits m u move t cell scope held f loads step none spawns spares stays there =
    come a app state lawful limits m u move t cell scope held f loads step none spares stays spawns there
