-- What polls, effects and listeners answer, as the model has it.
use Rattle.rt_model.specs.OneLog.{types}
use Rattle.rt_model.specs.World as model
use Rattle.tree_nodes.specs.declared.event.Event.{Event}
use Rattle.author_calls.specs.declared.application.TaskStep.{TaskStep}
use Rattle.author_calls.specs.declared.application.TaskStep.TheVariants.{Pending, Ready}

-- what an effect answers
abbrev pub no_answer : Unit {0} → model.Nothing
no_answer u = model.nothing

module _ {C Q V H T E L : Type 0} where
  -- an event on its way through the listeners
  abbrev pub event_of : Event L → model.Event (types C Q V H T E L)
  event_of e = record { payload = e.payload; propagates = e.propagates; prevented = e.prevented }

  -- what a poll answers
  abbrev pub step_of : TaskStep T → model.TaskStep (types C Q V H T E L)
  step_of (Pending state) = model.pending state
  step_of Ready = model.ready
