-- The names that are left ascend from the last one as all do.
use Rattle.std.proofs.Common.{◌≡◌, map, drop}
use denote.Shadow.{shadow}
use denote.Text.{Utf8}
use Rattle.tree_nodes.specs.Names.{name_of}
use Rattle.tree_fits.specs.Rising.{risen}
use Rattle.tree_fits.proofs.rising.rise_in_slot.Given as goal

abbrev pub invariant-loop-attribute : goal.invariant-loop-attribute
invariant-loop-attribute g l =
    shadow (Utf8 l.last) × (risen l.last (map name_of (drop l.attribute-index l.slot)) ≡ risen l.fn.last (map name_of l.slot))
