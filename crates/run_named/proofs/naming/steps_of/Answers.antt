use Rattle.std.proofs.Common.{◌∙◌, map}
use Rattle.run_named.specs.Named.{step_in}
use Rattle.run_named.proofs.Ways.{steps_step, steps_end}
use Rattle.run_named.proofs.naming.steps_of.Goals as goal

pub loop-step-preserved : goal.loop-step-preserved
loop-step-preserved c =
    steps_step c.args.place.now c.loop-step.step-index c.loop-step.slot c.step-item.result (map step_in c.loop-step.steps) (map step_in c.add_step.new.steps) c.slot_after-slot.result c.loop-step-test.true c.step-item.is c.in_ok-add_step.ensures c.slot_after-slot.ensures
    ∙ c.loop-step.invariant

pub returns : goal.returns
returns c = steps_end c.args.place.now c.loop-step.step-index c.loop-step.slot (map step_in c.loop-step.steps) _ c.loop-step-test.false c.loop-step.invariant
