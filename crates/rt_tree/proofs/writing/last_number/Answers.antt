-- One number more, and at the end all.
use Rattle.std.proofs.Common.{refl}
use Rattle.rt_tree.specs.Owns.{last_or}
use Rattle.rt_tree.proofs.MarkWrites.{last_done, last_more}
use Rattle.rt_tree.proofs.writing.last_number.Goals as goal

pub loop-number-init : goal.loop-number-init
loop-number-init c = refl

pub loop-number-preserved : goal.loop-number-preserved
loop-number-preserved c = last_more c.args.numbers.now c.loop-number.number-index c.loop-number.last (last_or 0 c.args.numbers.now) _ c.loop-number-test.true refl c.loop-number.invariant

pub returns : goal.returns
returns c = last_done c.args.numbers.now c.loop-number.number-index c.loop-number.last (last_or 0 c.args.numbers.now) c.loop-number-test.false c.loop-number.invariant
