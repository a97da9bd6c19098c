use Rattle.std.proofs.Common.{◌∙◌}
use Rattle.run_named.proofs.Ways.{path_step, path_end}
use Rattle.run_named.proofs.naming.path_of.Goals as goal

pub loop-step-preserved : goal.loop-step-preserved
loop-step-preserved c =
    path_step c.args.place.now c.loop-step.step-index c.step-item.result c.loop-step.path.now c.path_after-path.result.now c.loop-step-test.true c.step-item.is c.path_after-path.ensures
    ∙ c.loop-step.invariant

pub returns : goal.returns
returns c = path_end c.args.place.now c.loop-step.step-index c.loop-step.path.now _ c.loop-step-test.false c.loop-step.invariant
