-- The nodes passed don't have the number, and nothing has changed.
use Rattle.std.proofs.Common.{◌≡◌, ◌+◌, ◌*◌, false, take, vec_len, length}
use Rattle.rt_edits.specs.Nodes.{has, numbers, numbers_below}
use Rattle.rt_edits.proofs.change.+change.Given as goal

abbrev pub invariant-change_row-loop-at : goal.invariant-change_row-loop-at
invariant-change_row-loop-at l = record {
  passed : has l.number (numbers (take l.at l.row.items)) ≡ false;
  same : l.row.items ≡ l.initial.row.items;
  edit : l.edit ≡ l.fn.edit;
  end : l.at-end ≡ vec_len l.row;
}

-- the nodes that are left to look at, and the calls to a list of them
abbrev pub decreases-change_row : goal.decreases-change_row
decreases-change_row l = 3 * length (numbers l.row.now.items)

abbrev pub decreases-change_below : goal.decreases-change_below
decreases-change_below l = 3 * length (numbers_below l.node.now.kind) + 2

abbrev pub decreases-change_kind : goal.decreases-change_kind
decreases-change_kind l = 3 * length (numbers_below l.kind) + 1
