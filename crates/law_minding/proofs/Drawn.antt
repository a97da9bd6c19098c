-- A task that is there has a number that was drawn.
use Rattle.std.proofs.Common.{ℕ, ◌+◌, ◌≤◌, Bool, true, false, List, [], ◌∷◌, ◌++◌, ◌≡◌, ◌&&◌, not, refl, sym, ap, ◌∙◌, subst, nat_eq, arith}
use Rattle.std.specs.Prelude.{Option, Some, None, if◌then◌else◌, is_some, nat_lt}
use Rattle.std.specs.List.{AllByRecursion}
use Rattle.std.proofs.lemmas.Bool.{eqb-true}
use Rattle.rt_lemmas.proofs.Numbers.{least}
use Rattle.rt_model.specs.Lists.{at, put, without}
use Rattle.rt_model.specs.Laws.{IsLawful}
use Rattle.rt_model.specs.Tree.{Types, Element}
use Rattle.rt_model.specs.World.{Cell, Error, Context, Firsts, Command, NewCell, Write, DropCell, NewContext, Reset, ReadInto, Spawn, RemoveFuture, ClearErrors, World, Meaning, Application}
use Rattle.rt_model.specs.State.{Mark, Woken, TaskRow, State, side_of, with_side, change, error_context, world_of}
use Rattle.rt_model.specs.Commands.{post, tell, provided_at, command}
use Rattle.rt_model.specs.Next.{look}
use Rattle.rt_model.specs.Run.{with_next, called_where, is_own, kept_call, body_of}
use Rattle.rt_model.specs.Removal.{gone}
use Rattle.rt_model.specs.Replay.{Entry, Build, Taken, Heard, Rerun, Poll, Effects, Made, Fed, Kept, Removed, Input, EventAt, WakeOf, WriteOf, MarkOf, Drain, Machine, numbered, names_live, if_live, due_item, due, start}
use Rattle.rt_model.specs.Causes.{Limits}
use Rattle.rt_model.proofs.Maps.{by_test, at_append_none, at_put_none, at_without_none}
use Rattle.rt_model.proofs.Members.{clash}
use Rattle.rt_model.proofs.Tour.{AllFresh}
use Rattle.law_moves.specs.Moves.{Move, Silent, Closed, Logged, Moves, Leads}
use Rattle.law_moves.proofs.Insides.{live_due}
use Rattle.law_behavior.specs.Deeds.{Deed, move_deeds}
use Rattle.law_behavior.proofs.Readers.{Posts, post_posts, tell_posts}
use Rattle.law_behavior.proofs.Frames.{Free, Permits, Frame, Called}
use Rattle.law_behavior.proofs.Commanded.{MayClear, Allowed, caused_anyway, AllAllowed}
use Rattle.law_behavior.proofs.Onwards.{MayTake, Sparing, waking_anyway, AllSparing, moves_on}
use Rattle.law_behavior.proofs.Steadfast.{from_zero, draw_anyway}
use Rattle.law_minding.specs.Numbering.{TasksAreDrawn}
use Rattle.law_minding.proofs.Counting.{LowTask, tasks_count}
use Rattle.law_minding.proofs.Below.{move_under}
use Rattle.law_minding.proofs.Numbers.{move_rises}
use Rattle.law_minding.proofs.Rested.{look_leaves}
use Rattle.law_minding.proofs.Homes.{gone_tasks, change_tasks}
use Rattle.law_minding.proofs.Coming.{tested_low, not_low}

-- another task may be spawned
abbrev spawning : {K : Types} → ℕ → Permits K
spawning t =
    record {
      clearable = Free;
      makeable = Free;
      writable = Free;
      droppable = Free;
      openable = Free;
      readable = Free;
      pollable = Free;
      endable = Free;
      spawnable = λ w u s a. nat_eq u t ≡ false;
      feedable = Free;
      removable = Free;
      causable = λ w c. Unit {0};
    }

-- an entry that is due names what is live
named_live : {K : Types} (app : Application K) (w : State K) (o : Option Entry) (e : Entry) → if_live w o ≡ Some e → names_live w e ≡ true
named_live app w None e h = let absurdity : None ≡ Some e = h in cc
named_live app w (Some d) e h = let found = live_due app w d e h in ap (λ (x : Entry). names_live w x) found.0 ∙ found.1

module _ {K : Types} (t : ℕ) where
  -- the task isn't there
  abbrev Is : State K → Type 0
  Is w = at w.tasks t ≡ None

  by_tasks : (w v : State K) → v.tasks ≡ w.tasks → Is w → Is v
  by_tasks w v same h = ap (λ (es : List (ℕ × TaskRow K)). at es t) same ∙ h

  by_posts : (w v : State K) → Posts w v → Is w → Is v
  by_posts w v f h = by_tasks w v (ap (λ (x : State K). x.tasks) f.alike) h

  either_is : (x y : State K) (b : Bool) → Is x → Is y → Is (if b then x else y)
  either_is x y true f g = f
  either_is x y false f g = g

  -- a command spawns another task
  abbrev SpawnsOther : Command K → Type 0
  SpawnsOther (Spawn u a forever isomorphic) = nat_eq u t ≡ false
  SpawnsOther _ = Unit {0}

  abbrev AllOther : List (Command K) → Type 0
  AllOther cs = AllByRecursion (λ (c : Command K). SpawnsOther c) cs

  module _ (app : Application K) where
    provided_is : (w : State K) (s k : ℕ) (v : K.Value) (o : Option K.Value) → Is w → Is (provided_at app w s k v o)
    provided_is w s k v o h = on o
      where
        u : State K
        u = change w s (λ x. record x { contexts = put x.contexts k v })

        now : Is u
        now = by_tasks w u (change_tasks w s (λ x. record x { contexts = put x.contexts k v }) (at w.scopes s)) h

        told : Is (tell u (Context k s))
        told = by_posts u (tell u (Context k s)) (tell_posts u (Context k s)) now

        on : (p : Option K.Value) → Is (provided_at app w s k v p)
        on None = told
        on (Some old) = either_is u (tell u (Context k s)) (app.same_value old v) now told

    frame : Frame app (λ w. Is w) (λ w. Is w) 0 (spawning t)
    frame =
        record {
          low = λ w h. from_zero w.next.tasks;
          leaves = λ w h. h;
          marks = λ w s h. by_posts w (post w (Mark s)) (post_posts w (Mark s)) h;
          wakes = λ w u a h. by_posts w (post w (Woken u)) (post_posts w (Woken u)) h;
          tells = λ w i a h. by_posts w (tell w i) (tell_posts w i) h;
          looks = λ w h. by_tasks w (look w) (ap (λ (x : State K). x.tasks) (look_leaves w)) h;
          pauses = λ w u e h. h;
          unqueues = λ w u a h. h;
          unmarks = λ w s h. h;
          asides = λ w v e h. by_tasks w v (ap (λ (x : State K). x.tasks) e) h;
          nexts = λ w next low h. h;
          writes =
              λ w c v old e a told h.
              let u : State K = record w { cells = put w.cells c (record old { value = v }) } in by_posts u (tell u (Cell c)) (tell_posts u (Cell c)) h;
          drops = λ w c a told h. let u : State K = record w { cells = without w.cells c } in by_posts u (tell u (Cell c)) (tell_posts u (Cell c)) h;
          new_cells = λ w s c v a h. h;
          new_contexts = λ w c x a h. h;
          sources = λ w c x y e a h. h;
          rows = λ w s x y e same h. h;
          hooks = λ w s x k e h. h;
          joins = λ w b u origin x e h. h;
          throws =
              λ w b x e live none told h.
              let u : State K = record w { scopes = put w.scopes b (record x { error = Some e }) } in by_posts u (tell u (Error b)) (tell_posts u (Error b)) h;
          clears =
              λ w b x live a told h.
              let u : State K = record w { scopes = put w.scopes b (record x { error = None }) } in by_posts u (tell u (Error b)) (tell_posts u (Error b)) h;
          provides = λ w s k v x e told h. provided_is w s k v (at x.contexts k) h;
          feeds = λ w u c x e a h. h;
          patches = λ w s side tree x e h. h;
          draws =
              λ w s side p k h.
              let next : Firsts = record (w.next) { elements = w.next.elements + 1 } in
              by_tasks w (numbered w s side p k)
              (change_tasks (with_next w next) s (λ x. with_side x side (record (side_of x side) { numbers = (side_of x side).numbers ++ (p, k, w.next.elements) ∷ [] })) (at w.scopes s)) h;
          empties = λ w b x e h. h;
          makes = λ w s side p c x e h. h;
          goes = λ w s free told h. by_tasks w (gone w s) (gone_tasks w s) h;
          mounts = λ w h. h;
          ends = λ w u a h. at_without_none w.tasks u t h;
          spawns =
              λ w u x live low other h.
              let v : State K = record w { tasks = w.tasks ++ (u, x) ∷ [] } in by_posts v (post v (Woken u)) (post_posts v (Woken u)) (at_append_none w.tasks u x t other ∙ h);
          goes_on = λ w u x a e may h. at_put_none w.tasks u (record x { state = a }) x t e h;
          suspends = λ w u x e h. at_put_none w.tasks u _ x t e h;
          activates =
              λ w u active x e told h.
              let v : State K = record w { tasks = put w.tasks u (record x { active = active }) } in
              let now : Is v = at_put_none w.tasks u (record x { active = active }) x t e h in
              either_is (post v (Woken u)) v (active && not x.active) (by_posts v (post v (Woken u)) (post_posts v (Woken u)) now) now;
        }

    once_is : (w : State K) (b : Bool) → Is w → Is (called_where b w)
    once_is w true h = h
    once_is w false h = h

    called : Called app (λ w. Is w) 0
    called =
        record {
          bodies =
              λ w s c low h.
              let world : World K = world_of w s None true in
              let m : Meaning K (Element K) = body_of app c world in
              let u : State K = called_where (is_own c world) w in
              let v : State K = with_next u m.next in
              by_tasks u (kept_call u s world m) (change_tasks v s (λ x. record x { reads = m.reads }) (at v.scopes s)) (once_is w (is_own c world) h);
          turns = λ w b x e h. h;
          turns_nowhere = λ w b e h. h;
        }

    may_clear : (o : Option ℕ) → MayClear app (λ w. Is w) (λ w. Is w) 0 (spawning t) frame o
    may_clear None = tt
    may_clear (Some b) = tt

    allowed : (w : State K) (s : ℕ) (c : Command K) → SpawnsOther c → Allowed app (λ w. Is w) (λ w. Is w) 0 (spawning t) frame w s c
    allowed w s (Spawn u a forever isomorphic) h = (from_zero u, h)
    allowed w s ClearErrors h = may_clear (error_context w s)
    allowed w s (NewContext c target) h = tt
    allowed w s (RemoveFuture u) h = tt
    allowed w s (NewCell c v) h = tt
    allowed w s (Write c v) h = tt
    allowed w s (DropCell c) h = tt
    allowed w s (Reset c) h = tt
    allowed w s (ReadInto c source) h = tt
    allowed w s c h = tt

    all_allowed : (w : State K) (s : ℕ) (polled : Option ℕ) (cs : List (Command K)) → AllFresh app 0 cs → AllOther cs → AllAllowed app (λ w. Is w) (λ w. Is w) 0 (spawning t) frame w s polled cs
    all_allowed w s polled [] f h = tt
    all_allowed w s polled (c ∷ cs) f h = (
      (allowed w s c h.0, caused_anyway app (λ w. Is w) (λ w. Is w) 0 (spawning t) frame (λ v d. tt) w s c),
      all_allowed (command app w s polled c) s polled cs f.1 h.1,
    )

    may_take : (inputs : List (Input K))
        → MayTake app (λ w. Is w) (λ w. Is w) 0 (spawning t) frame (λ u. tt) called (λ w s polled cs. AllOther cs) (λ w s polled cs f g. all_allowed w s polled cs f g) (draw_anyway app) inputs
    may_take [] = tt
    may_take (WriteOf c v ∷ more) = tt
    may_take (EventAt name payload element bubbles ∷ more) = tt
    may_take (WakeOf u ∷ more) = tt
    may_take (MarkOf s ∷ more) = tt
    may_take (Drain messages ∷ more) = tt

    entry_spares : (inputs : List (Input K)) (e : Entry)
        → Sparing app (λ w. Is w) (λ w. Is w) 0 (spawning t) frame (λ u. tt) called (λ w s polled cs. AllOther cs) (λ w s polled cs f g. all_allowed w s polled cs f g) (draw_anyway app) inputs e
    entry_spares inputs Build = tt
    entry_spares inputs (Taken k) = may_take inputs
    entry_spares inputs (Heard s) = tt
    entry_spares inputs (Rerun s) = tt
    entry_spares inputs (Poll u) = tt
    entry_spares inputs (Effects s) = tt
    entry_spares inputs (Made s) = tt
    entry_spares inputs (Fed s) = tt
    entry_spares inputs (Kept s) = tt
    entry_spares inputs (Removed s) = tt

    move_spares : (limits : Limits) (m u : Machine K) (move : Move) (step : Moves app limits m move u)
        → AllSparing app (λ w. Is w) (λ w. Is w) 0 (spawning t) frame (λ u. tt) called (λ w s polled cs. AllOther cs) (λ w s polled cs f g. all_allowed w s polled cs f g) (draw_anyway app) limits m u (move ∷ []) (u, step, refl)
    move_spares limits m u Silent step = (λ g. g, tt)
    move_spares limits m u Closed step = tt
    move_spares limits m u (Logged e) step = (
      (
        entry_spares m.inputs e,
        waking_anyway app (λ w. Is w) (λ w. Is w) 0 (spawning t) frame (λ u. tt) called (λ w s polled cs. AllOther cs) (λ w s polled cs f g. all_allowed w s polled cs f g) (draw_anyway app) (λ w c. tt) m e,
      ),
      λ g. g,
      tt,
    )

    move_is : (limits : Limits) (m u : Machine K) (move : Move) → Moves app limits m move u → AllByRecursion (λ (d : Deed K). AllOther d.wants) (move_deeds app m move) → Is m.state → Is u.state
    move_is limits m u move step deeds h =
        moves_on app (λ w. Is w) (λ w. Is w) 0 (spawning t) frame (λ u. tt) called (λ w s polled cs. AllOther cs) (λ w s polled cs f g. all_allowed w s polled cs f g) (draw_anyway app)
        limits m u (move ∷ []) (u, step, refl) (deeds, tt) (move_spares limits m u move step) h

    module _ (bound : ℕ) (high : bound ≤ t) where
      -- what has a number below a bound is another task
      other : (c : Command K) → LowTask {K = K} bound c → SpawnsOther c
      other (Spawn u a forever isomorphic) h =
          by_test (nat_eq u t)
          (λ q. let e : u ≡ t = eqb-true u t q in absurd (omega (arith, e, h, high)))
          (λ q. q)
      other c h = tt

      all_other : (cs : List (Command K)) → AllByRecursion (λ (c : Command K). LowTask {K = K} bound c) cs → AllOther cs
      all_other [] h = tt
      all_other (c ∷ cs) h = (other c h.0, all_other cs h.1)

      deeds_other : (ds : List (Deed K)) → AllByRecursion (λ (d : Deed K). AllByRecursion (λ (c : Command K). LowTask {K = K} bound c) d.wants) ds
          → AllByRecursion (λ (d : Deed K). AllOther d.wants) ds
      deeds_other [] h = tt
      deeds_other (d ∷ ds) h = (all_other d.wants h.0, deeds_other ds h.1)

    module _ (lawful : IsLawful K app) (limits : Limits) where
      all_rise : (m v : Machine K) (moves : List Move) → Leads app limits m moves v → m.state.next.tasks ≤ v.state.next.tasks
      all_rise m v [] leads =
          let same : v.state.next.tasks ≡ m.state.next.tasks = ap (λ (x : Machine K). x.state.next.tasks) leads in
          omega (arith, same)
      all_rise m v (move ∷ moves) leads =
          let first : m.state.next.tasks ≤ (leads.0).state.next.tasks = (move_rises app lawful limits m leads.0 move leads.1).tasks in
          let more : (leads.0).state.next.tasks ≤ v.state.next.tasks = all_rise leads.0 v moves leads.2 in
          omega (arith, first, more)

      -- no move spawns a task of a number that isn't drawn behind them
      stays_away : (m v : Machine K) (moves : List Move) → Leads app limits m moves v → v.state.next.tasks ≤ t → Is m.state → Is v.state
      stays_away m v [] leads low h = subst (λ (x : Machine K). Is x.state) (sym leads) h
      stays_away m v (move ∷ moves) leads low h =
          let more : (leads.0).state.next.tasks ≤ v.state.next.tasks = all_rise leads.0 v moves leads.2 in
          let under : (leads.0).state.next.tasks ≤ t = omega (arith, more, low) in
          let away : Is (leads.0).state =
          move_is limits m leads.0 move leads.1
          (deeds_other (leads.0).state.next.tasks under (move_deeds app m move)
          (move_under tasks_count (leads.0).state.next.tasks app lawful limits m leads.0 move leads.1 (least (leads.0).state.next.tasks)))
          h in
          stays_away leads.0 v moves leads.2 low away

pub tasks_are_drawn : {K : Types} (app : Application K) → TasksAreDrawn app
tasks_are_drawn {K = K} app lawful limits props inputs m moves t leads there =
    by_test (nat_lt t m.state.next.tasks)
    (λ q. tested_low t m.state.next.tasks q)
    (λ q. clash there (ap (λ (o : Option (TaskRow K)). is_some o) (stays_away t app lawful limits (start app props inputs) m moves leads (not_low t m.state.next.tasks q) refl)))

-- who is polled is there
pub polled_there : {K : Types} (app : Application K) (m : Machine K) (t : ℕ) → due app m ≡ Some (Poll t) → is_some (at m.state.tasks t) ≡ true
polled_there {K = K} app m t h =
    named_live app m.state (elim m.dead as (λ z. Option Entry) [ None ↦ (if m.built then due_item app m m.work else Some Build) | Some fault ↦ None ]) (Poll t) h
