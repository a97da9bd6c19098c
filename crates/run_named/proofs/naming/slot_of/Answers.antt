use Rattle.std.proofs.Common.{◌∙◌}
use Rattle.run_named.proofs.Ways.{slot_step, slot_last}
use Rattle.run_named.proofs.naming.slot_of.Goals as goal

pub loop-step-preserved : goal.loop-step-preserved
loop-step-preserved c =
    slot_step c.args.place.now c.loop-step.step-index c.step-item.result c.loop-step.slot c.slot_after-slot.result c.loop-step-test.true c.step-item.is c.slot_after-slot.ensures
    ∙ c.loop-step.invariant

pub returns : goal.returns
returns c = slot_last c.args.place.now c.loop-step.step-index c.loop-step.slot _ c.loop-step-test.false c.loop-step.invariant
