use Rattle.std.proofs.Common.{◌≡◌}
use Rattle.run_state.proofs.KindsInPlace.{one_lower, all_lower}
use Rattle.run_state.proofs.numbers.place_of.Goals as goal

pub loop-index-preserved : goal.loop-index-preserved
loop-index-preserved c = one_lower c.args.numbers.now c.args.number c.loop-index.index 0 c.loop-index-test.true c.if-number-numbers.false c.loop-index.invariant

pub returns-clause-lower : goal.returns-clause-lower
returns-clause-lower c = all_lower c.args.numbers.now c.args.number c.loop-index.index c.loop-index-test.false c.loop-index.invariant
