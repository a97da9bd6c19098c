-- Whether the names of the attributes that are left differ.
use Rattle.std.proofs.Common.{◌≡◌, drop}
use Rattle.tree_nodes.specs.Names.{distinct, names_in, slot_names}
use Rattle.tree_fits.proofs.names.all_differ.Given as goal

abbrev pub invariant-loop-at : goal.invariant-loop-at
invariant-loop-at g l =
    distinct (names_in (slot_names l.slots) l.attrs) ≡
    distinct (names_in (slot_names l.slots) (drop l.at l.attrs))
