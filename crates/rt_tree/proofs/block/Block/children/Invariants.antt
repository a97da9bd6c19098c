-- What was told so far, and what is left, is all.
use Rattle.std.proofs.Common.{◌≡◌, ◌++◌, drop, map}
use Rattle.rt_tree.specs.Blocks.{scope_id}
use Rattle.rt_tree.proofs.block.Block.children.Given as goal

abbrev pub invariant-loop-scope : goal.invariant-loop-scope
invariant-loop-scope g l = l.children ++ map scope_id (drop l.scope-index l.scope-items) ≡ map scope_id l.scope-items
