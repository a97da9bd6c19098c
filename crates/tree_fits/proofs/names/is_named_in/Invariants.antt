-- Whether the name is among those passed and those left.
use Rattle.std.proofs.Common.{◌≡◌, map, drop}
use Rattle.std.specs.List.{list_any}
use Rattle.tree_nodes.specs.Names.{same_name, name_of}
use Rattle.tree_fits.proofs.names.is_named_in.Given as goal

abbrev pub invariant-loop-attribute : goal.invariant-loop-attribute
invariant-loop-attribute g l =
    list_any (same_name (l.name, l.namespace)) (map name_of l.slot) ≡
    list_any (same_name (l.name, l.namespace)) (map name_of (drop l.attribute-index l.slot))
