-- Whether the names that are left are fresh.
use Rattle.std.proofs.Common.{◌≡◌, drop, map}
use Rattle.tree_nodes.specs.Names.{fresh, name_of, names_in, slot_names}
use Rattle.tree_fits.proofs.names.slot_is_fresh.Given as goal

abbrev pub invariant-loop-at : goal.invariant-loop-at
invariant-loop-at g l =
    fresh (map name_of l.slot) (names_in (slot_names l.slots) l.later) ≡
    fresh (map name_of (drop l.at l.slot)) (names_in (slot_names l.slots) l.later)
