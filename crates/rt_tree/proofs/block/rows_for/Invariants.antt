-- The rows that were given, and those that are left under the scopes behind them, are all.
use Rattle.std.proofs.Common.{◌≡◌, ◌++◌, drop, length}
use Rattle.std.specs.Vec.Iter.{into_iter_items, into_iter_len}
use Rattle.rt_tree.specs.Rows.{paired}
use Rattle.rt_tree.proofs.block.rows_for.Given as goal

abbrev pub invariant-loop-row : goal.invariant-loop-row
invariant-loop-row l = record {
  rows : l.given.rows ++ paired (drop (length l.given.rows) l.scopes) (into_iter_items l.row-iterator)
      ≡ paired l.scopes l.fn.rows;
  count : into_iter_len l.row-iterator ≡ length (into_iter_items l.row-iterator);
}
