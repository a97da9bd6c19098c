-- The names that are left ascend from the last one as all do.
use Rattle.std.proofs.Common.{◌≡◌, [], drop}
use denote.Shadow.{shadow}
use denote.Text.{Utf8}
use Rattle.tree_nodes.specs.Names.{names_in, slot_names}
use Rattle.tree_fits.specs.Rising.{risen}
use Rattle.tree_fits.proofs.rising.last_name.Given as goal

abbrev pub invariant-loop-attr : goal.invariant-loop-attr
invariant-loop-attr g l =
    shadow (Utf8 l.last) ×
    (risen l.last (names_in (slot_names l.slots) (drop l.attr-index l.attrs)) ≡ risen [] (names_in (slot_names l.slots) l.attrs))
