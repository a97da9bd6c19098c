-- Whether the slots that are left fit.
use Rattle.std.proofs.Common.{◌≡◌, drop}
use Rattle.std.specs.List.{list_all}
use Rattle.tree_nodes.specs.BlockTest.{attribute_fits}
use Rattle.tree_fits.proofs.block.listeners_fit.Given as goal

abbrev pub invariant-loop-slot : goal.invariant-loop-slot
invariant-loop-slot g l = list_all (list_all attribute_fits) l.slots ≡ list_all (list_all attribute_fits) (drop l.slot-index l.slots)
