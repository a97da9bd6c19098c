-- A run, by what was found of its scope.
use Rattle.std.specs.Prelude.{ℕ, List, if◌then◌else◌}
use Rattle.rt_model.specs.Tree.{Types, VComponent, is_suspense_boundary}
use Rattle.rt_model.specs.World.{Application, before_render_kind}
use Rattle.rt_model.specs.State.{State, Outcome, RowStep, hooks_of, onward}
use Rattle.rt_model.specs.Run.{after_answer, boundary_run, call_body, hooks_called, unmarked}

module _ {K : Types} (app : Application K) where
  -- a body's run, or these steps of a suspense boundary
  abbrev pub run_on : State K → ℕ → VComponent K → List RowStep → Outcome K
  run_on w s c steps =
      if is_suspense_boundary c then boundary_run app w s steps else call_body app w s c (λ v answer. after_answer app v s answer)

  -- a run with this component: its marks go and its hooks are called before it
  abbrev pub run_by : State K → ℕ → VComponent K → List RowStep → Outcome K
  run_by w s c steps =
      onward (hooks_called app before_render_kind (unmarked w s) s (hooks_of (unmarked w s) s)) (λ v. run_on v s c steps)

  -- a run of these steps of a suspense boundary, and one of the body of another component
  abbrev pub steps_run : State K → ℕ → List RowStep → Outcome K
  steps_run w s steps =
      onward (hooks_called app before_render_kind (unmarked w s) s (hooks_of (unmarked w s) s)) (λ v. boundary_run app v s steps)

  abbrev pub body_run : State K → ℕ → VComponent K → Outcome K
  body_run w s c =
      onward (hooks_called app before_render_kind (unmarked w s) s (hooks_of (unmarked w s) s)) (λ v.
      call_body app v s c (λ u answer. after_answer app u s answer))
