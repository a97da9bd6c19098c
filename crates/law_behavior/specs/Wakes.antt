-- Which changes wake a task.
use Rattle.std.specs.Prelude.{ℕ, Bool, true, false, not, Option, Some, None, ◌≡◌, is_some}
use Rattle.rt_model.specs.Lists.{at}
use Rattle.rt_model.specs.Tree.{Types}
use Rattle.rt_model.specs.World.{Application}
use Rattle.rt_model.specs.State.{Woken, TaskRow, State, is_live}
use Rattle.rt_model.specs.Commands.{post, activated, spawned}
use Rattle.law_behavior.specs.Marking.{IsPosted}

-- a value that is provided where there was none, or another one, marks the readers of the context
abbrev pub differs : {K : Types} → Application K → K.Value → Option K.Value → Bool
differs app v None = true
differs app v (Some old) = not (app.same_value old v)

-- a wake is posted of a task that hasn't ended, of one that is spawned where a scope is live, and of one that was paused and is resumed
pub record WakesPosted {K : Types} (w : State K) : Type 0 where
  pub woken : (t : ℕ) → is_some (at w.tasks t) ≡ true → IsPosted (post w (Woken t)).posted (Woken t)
  pub spawned_task :
      (polled : Option ℕ) (scope t : ℕ) (begins : K.TaskState) (isomorphic : Bool)
      → is_live w scope ≡ true
      → IsPosted (spawned w polled scope t begins isomorphic).posted (Woken t)
  pub resumed :
      (t : ℕ) (x : TaskRow K)
      → at w.tasks t ≡ Some x
      → x.active ≡ false
      → IsPosted (activated w t true (at w.tasks t)).posted (Woken t)

-- in every state
abbrev pub WakesArePosted : Types → Type 0
WakesArePosted K = (w : State K) → WakesPosted w
