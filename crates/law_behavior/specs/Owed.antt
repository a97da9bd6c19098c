-- What is marked runs, and what is woken is polled.
use Rattle.std.specs.Prelude.{ℕ, Bool, true, false, nat_eq, List, None, Some, ◌≡◌, ◌⊎◌}
use Rattle.std.specs.List.{AllByRecursion}
use Rattle.rt_model.specs.Lists.{has}
use Rattle.rt_model.specs.Tree.{Types}
use Rattle.rt_model.specs.World.{Application}
use Rattle.rt_model.specs.State.{Mark, Woken, State, is_live}
use Rattle.rt_model.specs.Next.{is_active, next}
use Rattle.rt_model.specs.Replay.{Entry, Build, Made, Fed, Rerun, Poll, Machine}
use Rattle.rt_model.specs.Causes.{Limits, replay_within}
use Rattle.law_moves.specs.Moves.{Move, entries, IsSettled, Leads}
use Rattle.law_behavior.specs.Marking.{IsPosted}

-- in this entry a scope runs; the build runs the root, and what it makes is new
abbrev pub runs_in : ℕ → Entry → Bool
runs_in s Build = true
runs_in s (Made t) = nat_eq t s
runs_in s (Fed t) = nat_eq t s
runs_in s (Rerun t) = nat_eq t s
runs_in s _ = false

-- in this entry a task is polled
abbrev pub polled_in : ℕ → Entry → Bool
polled_in t (Poll u) = nat_eq u t
polled_in t _ = false

module _ {K : Types} where
  -- a scope has a mark, posted or seen
  abbrev pub IsMarked : State K → ℕ → Type 0
  IsMarked w s = IsPosted w.posted (Mark s) ⊎ (has w.seen s ≡ true)

  -- a task has a wake, posted or queued
  abbrev pub IsWoken : State K → ℕ → Type 0
  IsWoken w t = IsPosted w.posted (Woken t) ⊎ (has w.queued t ≡ true)

  -- a scope has a mark as long as it is live
  abbrev pub OwesRun : State K → ℕ → Type 0
  OwesRun w s = is_live w s ≡ true → IsMarked w s

  -- a task has a wake as long as it is live and not paused
  abbrev pub OwesPoll : State K → ℕ → Type 0
  OwesPoll w t = is_active w t ≡ true → IsWoken w t

module _ {K : Types} (app : Application K) where
  -- a scope that is marked stays so while it lives, until it runs; so where nothing is owed it has run or it is gone
  abbrev pub MarksAreRun : Type 0
  MarksAreRun =
      (limits : Limits) (m v : Machine K) (moves : List Move) (s : ℕ)
      → Leads app limits m moves v
      → v.dead ≡ None
      → IsMarked m.state s
      → AllByRecursion (λ (e : Entry). runs_in s e ≡ false) (entries moves)
      → OwesRun v.state s × (next v.state ≡ None → is_live v.state s ≡ false)

  -- a task that is woken stays so while it is live and active, until it is polled; so where nothing is owed it was polled,
  -- or it is paused or gone
  abbrev pub WakesArePolled : Type 0
  WakesArePolled =
      (limits : Limits) (m v : Machine K) (moves : List Move) (t : ℕ)
      → Leads app limits m moves v
      → v.dead ≡ None
      → IsWoken m.state t
      → AllByRecursion (λ (e : Entry). polled_in t e ≡ false) (entries moves)
      → OwesPoll v.state t × (next v.state ≡ None → is_active v.state t ≡ false)

  -- the same along logs that are accepted within limits, from a machine that waits for an entry
  abbrev pub LoggedMarksAreRun : Type 0
  LoggedMarksAreRun =
      (limits : Limits) (m v : Machine K) (log : List Entry) (s : ℕ)
      → IsSettled m
      → replay_within app limits (Some m) log ≡ Some v
      → v.dead ≡ None
      → IsMarked m.state s
      → AllByRecursion (λ (e : Entry). runs_in s e ≡ false) log
      → OwesRun v.state s × (next v.state ≡ None → is_live v.state s ≡ false)

  -- and of wakes
  abbrev pub LoggedWakesArePolled : Type 0
  LoggedWakesArePolled =
      (limits : Limits) (m v : Machine K) (log : List Entry) (t : ℕ)
      → IsSettled m
      → replay_within app limits (Some m) log ≡ Some v
      → v.dead ≡ None
      → IsWoken m.state t
      → AllByRecursion (λ (e : Entry). polled_in t e ≡ false) log
      → OwesPoll v.state t × (next v.state ≡ None → is_active v.state t ≡ false)
