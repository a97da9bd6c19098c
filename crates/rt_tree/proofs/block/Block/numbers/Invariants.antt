-- What was told so far, and what is left, is all.
use Rattle.std.proofs.Common.{◌≡◌, ◌++◌, drop, map}
use Rattle.rt_tree.specs.Blocks.{element_id}
use Rattle.rt_tree.proofs.block.Block.numbers.Given as goal

abbrev pub invariant-loop-number : goal.invariant-loop-number
invariant-loop-number g l = l.numbers ++ map element_id (drop l.number-index l.number-items) ≡ map element_id l.number-items
