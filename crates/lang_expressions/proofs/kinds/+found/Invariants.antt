-- The levels fall from a value to what is below it; what is found so far is put among by what comes behind.
use Rattle.std.proofs.Common.{◌≡◌, ◌+◌, ◌*◌, drop}
use Rattle.serde_json.specs.View.{items_view, members_view}
use Rattle.lang_expressions.specs.Names.{texts_of}
use Rattle.lang_expressions.specs.Kinds.{found_in, found_in_items, found_in_members, found_in_each}
use Rattle.lang_expressions.proofs.kinds.+found.Given as goal

abbrev pub decreases-found_in : goal.decreases-found_in
decreases-found_in l = 5 * l.levels

abbrev pub decreases-found_in_items : goal.decreases-found_in_items
decreases-found_in_items l = 5 * l.levels + 1

abbrev pub decreases-found_in_each : goal.decreases-found_in_each
decreases-found_in_each l = 5 * l.levels + 1

abbrev pub decreases-found_at : goal.decreases-found_at
decreases-found_at l = 5 * l.levels + 2

abbrev pub decreases-found_in_members : goal.decreases-found_in_members
decreases-found_in_members l = 5 * l.levels + 3

abbrev pub decreases-found_below : goal.decreases-found_below
decreases-found_below l = 5 * l.levels + 4

abbrev pub invariant-found_in_items-loop-value : goal.invariant-found_in_items-loop-value
invariant-found_in_items-loop-value l =
    found_in_items (found_in l.levels) (items_view l.values) (texts_of l.fn.keys) ≡ found_in_items (found_in l.levels) (items_view (drop l.value-index l.values)) (texts_of l.keys)

abbrev pub invariant-found_in_members-loop-key : goal.invariant-found_in_members-loop-key
invariant-found_in_members-loop-key l =
    found_in_members (found_in l.levels) (members_view l.members.entries) (texts_of l.fn.keys) ≡ found_in_members (found_in l.levels) (members_view l.key-iterator) (texts_of l.keys)

abbrev pub invariant-found_in_each-loop-key : goal.invariant-found_in_each-loop-key
invariant-found_in_each-loop-key l =
    found_in_each (found_in l.levels) (members_view l.members.entries) (texts_of l.fn.keys) ≡ found_in_each (found_in l.levels) (members_view l._key-iterator) (texts_of l.keys)
