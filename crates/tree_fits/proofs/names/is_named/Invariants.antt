-- Whether the name is among those of the attributes that are left.
use Rattle.std.proofs.Common.{◌≡◌, drop}
use Rattle.std.specs.List.{list_any}
use Rattle.tree_nodes.specs.Names.{same_name, names_in, slot_names}
use Rattle.tree_fits.proofs.names.is_named.Given as goal

abbrev pub invariant-loop-attr : goal.invariant-loop-attr
invariant-loop-attr g l =
    list_any (same_name (l.name, l.namespace)) (names_in (slot_names l.slots) l.attrs) ≡
    list_any (same_name (l.name, l.namespace)) (names_in (slot_names l.slots) (drop l.attr-index l.attrs))
