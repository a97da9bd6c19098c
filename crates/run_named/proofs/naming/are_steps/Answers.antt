use Rattle.std.proofs.Common.{◌∙◌, map, take}
use Rattle.run_named.specs.Named.{step_in}
use Rattle.run_named.proofs.Ways.{steps_step}
use Rattle.run_named.proofs.naming.are_steps.Goals as goal

pub loop-step-preserved : goal.loop-step-preserved
loop-step-preserved c =
    steps_step c.args.above.now c.loop-step.step-index c.loop-step.slot c.step-item.result (map step_in (take c.loop-step.told c.args.steps.now)) (map step_in (take c.in-Some.next c.args.steps.now)) c.slot_after-slot.result c.loop-step-test.true c.step-item.is c.in-Some.ensures c.slot_after-slot.ensures
    ∙ c.loop-step.invariant
