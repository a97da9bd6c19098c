-- The poll of a task whose state was taken out.
use Rattle.std.specs.Prelude.{◌≡◌, ℕ, false, List, Some, Result}
use Rattle.rt_model.specs.Tree.{Types}
use Rattle.rt_model.specs.OneLog.{types}
use Rattle.rt_model.specs.Lists.{at}
use Rattle.rt_model.specs.World.{Application, Command, Meaning, TaskStep}
use Rattle.rt_model.specs.State as model
use Rattle.rt_model.specs.State.{world_of}
use Rattle.rt_model.specs.Run.{called_once}
use Rattle.rt_model.specs.Replay.{left_by_poll, polled_apart_by}
use Rattle.run_state.specs.declared.names.Stop.{Stop}
use Rattle.run_state.specs.declared.state.State.{State}
use Rattle.run_state.specs.Mirror.{Unkept, state_of}
use Rattle.rt_scopes.specs.Counts.{CountsOn}
use Rattle.rt_scopes.specs.Outcomes.{Came, no_work}

module _ {K : Types} where
  -- a task of a scope stands with this state
  pub record StandsWith (w : model.State K) (scope task : ℕ) (state : K.TaskState) (x : model.TaskRow K) : Type 0 where
    pub found : at w.tasks task ≡ Some x
    pub own : x.scope ≡ scope
    pub was : x.state ≡ state

module _ {P C Q V H T E L : Type 0} (app : Application (types C Q V H T E L)) where
  -- the poll of a task of a scope, which stands with this state; no look follows
  abbrev pub PollsApart : {A : Type 0} → State P C Q V H T E L → ℕ → ℕ → ℕ → T → State P C Q V H T E L → ℕ → Result A Stop → Type 0
  PollsApart old old_count scope task state new new_count result =
      (g : Unkept (types C Q V H T E L)) (x : model.TaskRow (types C Q V H T E L))
      → StandsWith (state_of g old) scope task state x
      → (h : Unkept (types C Q V H T E L))
      × Came
      (polled_apart_by app (called_once (state_of g old)) task x (app.poll state (world_of (state_of g old) scope (Some task) false)))
      (state_of h new) no_work result
      × CountsOn old_count g.calls new_count h.calls result

  -- a poll of a task of a scope left another state or the end of the task, and its commands are done
  abbrev pub IsLeft : State P C Q V H T E L → ℕ → ℕ → TaskStep (types C Q V H T E L) → List (Command (types C Q V H T E L))
      → State P C Q V H T E L → Type 0
  IsLeft old scope task step asked new =
      (g : Unkept (types C Q V H T E L)) (x : model.TaskRow (types C Q V H T E L))
      (m : Meaning (types C Q V H T E L) (TaskStep (types C Q V H T E L)))
      → at (state_of g old).tasks task ≡ Some x
      → x.scope ≡ scope
      → m.commands ≡ asked
      → state_of g new ≡ left_by_poll app (state_of g old) task x m step
