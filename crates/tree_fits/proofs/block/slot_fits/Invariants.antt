-- Whether the attributes that are left fit.
use Rattle.std.proofs.Common.{◌≡◌, drop}
use Rattle.std.specs.List.{list_all}
use Rattle.tree_nodes.specs.BlockTest.{attribute_fits}
use Rattle.tree_fits.proofs.block.slot_fits.Given as goal

abbrev pub invariant-loop-attribute : goal.invariant-loop-attribute
invariant-loop-attribute g l = list_all attribute_fits l.slot ≡ list_all attribute_fits (drop l.attribute-index l.slot)
