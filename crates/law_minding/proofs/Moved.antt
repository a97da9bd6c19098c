-- Every move minds a memo whose task it doesn't poll and whose context it leaves.
use Rattle.std.proofs.Common.{ℕ, ◌+◌, ◌≤◌, Bool, true, false, List, [], ◌∷◌, ◌++◌, ◌≡◌, inl, inr, nat_eq}
use Rattle.std.specs.Prelude.{Option, None}
use Rattle.std.specs.List.{AllByRecursion}
use Rattle.rt_model.specs.Lists.{at}
use Rattle.rt_model.specs.Laws.{SameAt, Tests, IsLawful}
use Rattle.rt_model.specs.Tree.{Types}
use Rattle.rt_model.specs.World.{Source, Cell, Error, Context, TaskTarget, Firsts, Command, Spawn, World, Application}
use Rattle.rt_model.specs.State.{Woken, CellRow, ContextRow, TaskRow, State, is_live}
use Rattle.rt_model.specs.Commands.{post, unqueued, command}
use Rattle.rt_model.specs.Run.{with_next}
use Rattle.rt_model.specs.Replay.{Machine}
use Rattle.rt_model.specs.Causes.{Limits}
use Rattle.rt_model.specs.Asides as asides
use Rattle.rt_model.specs.Asides.{Aside, Asked, Marked, AllMarked, Looked, Thinned, Rested, Raised, Passed, Polling, Answered, Advanced, aside_state}
use Rattle.law_moves.specs.Moves.{Move, Moves}
use Rattle.law_behavior.specs.Deeds.{Deed, poll_deeds, move_deeds}
use Rattle.law_behavior.proofs.Frames.{Frame}
use Rattle.law_behavior.proofs.Readers.{post_posts}
use Rattle.law_minding.proofs.Since.{sees, Minding, Minded, Standing, Passes, pass, posts_pass}
use Rattle.law_minding.proofs.Values.{apart}
use Rattle.law_minding.proofs.Tasked.{spawned_passes}
use Rattle.law_minding.proofs.Leaving.{AllLeave, MoveLeaves}
use Rattle.law_minding.proofs.Carried as carried
use Rattle.law_minding.proofs.Carried.{MaySpawn, AllSpawn, GoodCall, AsideGood, minding, move_keeps, aside_keeps}

module _ {K : Types} (last : World K) (t n cell scope : ℕ) (held : CellRow K) (place : K.TaskState) (polled : Bool) (reads : ContextRow K) (target : reads.target ≡ TaskTarget t) (home : reads.scope ≡ scope) where
  abbrev Is : State K → Type 0
  Is w = Minded last t n cell scope held place polled reads target home w

  pub keep_on : (w v : State K) → Passes last t n cell scope held place polled reads target home w v → Is w → Is v
  keep_on w v p h = pass last t n cell scope held place polled reads target home w v p h

  -- numbers that are drawn change nothing of who stands
  pub next_stands : (w : State K) (next : Firsts) → Standing last t n cell scope held place polled reads target home w → Standing last t n cell scope held place polled reads target home (with_next w next)
  next_stands w next (inl none) = inl none
  next_stands w next (inr here) =
      inr
      (record {
        row = here.row;
        is = here.is;
        scope_is = here.scope_is;
        state_is = here.state_is;
        lives = here.lives;
        holds = here.holds;
        context = here.context;
        minds = minds here.minds;
      })
    where
      see : (i : Source) → SameAt last (sees last t n cell scope held place polled reads target home w) i → SameAt last (sees last t n cell scope held place polled reads target home (with_next w next)) i
      see (Cell m) f = f
      see (Error r) f = f
      see (Context k r) f = f

      minds : Minding last t n cell scope held place polled reads target home w → Minding last t n cell scope held place polled reads target home (with_next w next)
      minds (inl owed) = inl owed
      minds (inr current) = inr (current.0, λ i e. see i (current.1 i e))

  pub next_on : (w : State K) (next : Firsts) → t + 1 ≤ next.tasks → Is w → Is (with_next w next)
  next_on w next low h = record { low = low; stands = next_stands w next h.stands }

  -- whom a call may spawn: anyone, since the number of the task is drawn
  abbrev Anyone : State K → ℕ → ℕ → K.TaskState → Type 0
  Anyone w u s a = Unit {0}

  pub spawn_on : (w : State K) (u : ℕ) (x : TaskRow K) → is_live w x.scope ≡ true → t + 1 ≤ u → Anyone w u x.scope x.state → Is w → Is (post (record w { tasks = w.tasks ++ (u, x) ∷ [] }) (Woken u))
  spawn_on w u x live low free h =
      let v : State K = record w { tasks = w.tasks ++ (u, x) ∷ [] } in
      keep_on v (post v (Woken u)) (posts_pass last t n cell scope held place polled reads target home v (post v (Woken u)) (post_posts v (Woken u)))
      (keep_on w v (spawned_passes last t n cell scope held place polled reads target home w u x (apart t u low)) h)

  -- the frame
  pub frame : (app : Application K) → Tests K.Value app.same_value
      → Frame app (λ w. Is w) (λ w. Is w) (t + 1)
      (minding last t n cell scope held place polled reads target home (t + 1) (λ w u s a. Anyone w u s a) (λ w. Is w) (λ w h. h.low) (λ w v p h. keep_on w v p h) (λ w next low h. next_on w next low h) (λ w u x live low free h. spawn_on w u x live low free h))
  frame app tests =
      carried.frame last t n cell scope held place polled reads target home (t + 1) (λ w u s a. Anyone w u s a) (λ w. Is w) (λ w h. h.low) (λ w v p h. keep_on w v p h) (λ w next low h. next_on w next low h) (λ w u x live low free h. spawn_on w u x live low free h)
      app tests

  module _ (app : Application K) (tests : Tests K.Value app.same_value) (lawful : IsLawful K app) where
    abbrev All : State K → ℕ → Option ℕ → List (Command K) → Type 0
    All w s asked cs =
        AllSpawn last t n cell scope held place polled reads target home (t + 1) (λ w u s a. Anyone w u s a) (λ w. Is w) (λ w h. h.low) (λ w v p h. keep_on w v p h) (λ w next low h. next_on w next low h) (λ w u x live low free h. spawn_on w u x live low free h)
        app tests w s asked cs

    -- a command that spawns no one asks for nothing, and neither does one that does
    one_spawns : (w : State K) (s : ℕ) (asked : Option ℕ) (c : Command K) (cs : List (Command K)) → All (command app w s asked c) s asked cs → All w s asked (c ∷ cs)
    one_spawns w s asked c cs h = (by c, h)
      where
        by : (d : Command K) → MaySpawn last t n cell scope held place polled reads target home (t + 1) (λ w u s a. Anyone w u s a) (λ w. Is w) (λ w h. h.low) (λ w v p h. keep_on w v p h) (λ w next low h. next_on w next low h) (λ w u x live low free h. spawn_on w u x live low free h)
            app tests w s d
        by (Spawn u a forever isomorphic) = tt
        by d = tt

    all_spawn : (w : State K) (s : ℕ) (asked : Option ℕ) (cs : List (Command K)) → All w s asked cs
    all_spawn w s asked [] = tt
    all_spawn w s asked (c ∷ cs) = one_spawns w s asked c cs (all_spawn (command app w s asked c) s asked cs)

    deeds_good : (ds : List (Deed K)) → AllByRecursion (λ (d : Deed K). AllLeave last t n cell scope held polled d.wants) ds
        → AllByRecursion
        (
        λ (d : Deed K).
        GoodCall last t n cell scope held place polled reads target home (t + 1) (λ w u s a. Anyone w u s a) (λ w. Is w) (λ w h. h.low) (λ w v p h. keep_on w v p h) (λ w next low h. next_on w next low h) (λ w u x live low free h. spawn_on w u x live low free h)
        app tests d.state d.scope d.polled d.wants
        )
        ds
    deeds_good [] h = tt
    deeds_good (d ∷ ds) h = ((h.0, all_spawn d.state d.scope d.polled d.wants), deeds_good ds h.1)

    -- a move leaves who is there as it stands, where its calls and its entry do
    pub move_minds : (limits : Limits) (m u : Machine K) (move : Move) → Moves app limits m move u
        → AllByRecursion (λ (d : Deed K). AllLeave last t n cell scope held polled d.wants) (move_deeds app m move)
        → MoveLeaves last t n cell scope held polled m.inputs move
        → Is m.state
        → Is u.state
    move_minds limits m u move step deeds leaves h =
        move_keeps last t n cell scope held place polled reads target home (t + 1) (λ w u s a. Anyone w u s a) (λ w. Is w) (λ w h. h.low) (λ w v p h. keep_on w v p h) (λ w next low h. next_on w next low h) (λ w u x live low free h. spawn_on w u x live low free h)
        app tests lawful limits m u move step (deeds_good (move_deeds app m move) deeds) leaves h

    -- such a call leaves the task, its cell and its context alone
    abbrev pub AsideLeaves : State K → Aside K → Type 0
    AsideLeaves w (Asked s next cs) = AllLeave last t n cell scope held polled cs
    AsideLeaves w (Advanced u) =
        (nat_eq u t ≡ false)
        × AllByRecursion (λ (d : Deed K). AllLeave last t n cell scope held polled d.wants) (poll_deeds app (unqueued w u) u (at w.tasks u))
    AsideLeaves w Passed = ⊥
    AsideLeaves w Polling = ⊥
    AsideLeaves w _ = Unit {0}

    aside_good : (w : State K) (x : Aside K) → AsideLeaves w x
        → AsideGood last t n cell scope held place polled reads target home (t + 1) (λ w u s a. Anyone w u s a) (λ w. Is w) (λ w h. h.low) (λ w v p h. keep_on w v p h) (λ w next low h. next_on w next low h) (λ w u x live low free h. spawn_on w u x live low free h) app tests lawful w x
    aside_good w (Asked s next cs) h = (h, all_spawn (with_next w next) s None cs)
    aside_good w (Advanced u) h = (h.0, deeds_good (poll_deeds app (unqueued w u) u (at w.tasks u)) h.1)
    aside_good w Passed h = h
    aside_good w Polling h = h
    aside_good w (Marked s) h = tt
    aside_good w AllMarked h = tt
    aside_good w Looked h = tt
    aside_good w Thinned h = tt
    aside_good w Rested h = tt
    aside_good w (Raised name payload element bubbles prevented) h = tt
    aside_good w Answered h = tt

    -- it leaves who is there as it stands
    pub aside_minds : (w : State K) (x : Aside K) → asides.Allowed w x → AsideLeaves w x → Is w → Is (aside_state app w x)
    aside_minds w x numbers leaves h =
        aside_keeps last t n cell scope held place polled reads target home (t + 1) (λ w u s a. Anyone w u s a) (λ w. Is w) (λ w h. h.low) (λ w v p h. keep_on w v p h) (λ w next low h. next_on w next low h) (λ w u x live low free h. spawn_on w u x live low free h) app tests lawful w x numbers (aside_good w x leaves) h
