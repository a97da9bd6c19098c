use Rattle.std.proofs.Common.{◌≡◌, ◌++◌, length}
use Rattle.rt_cells.specs.Reads.{readers_of}
use Rattle.run_state.specs.Posts.{posts_of_all, stands_in, targets_in}
use Rattle.run_state.proofs.Posts.{with_owed}
use Rattle.run_state.proofs.posting.post_each.Given as goal

abbrev pub invariant-loop-reader : goal.invariant-loop-reader
invariant-loop-reader g l = record {
  same : l.owed ≡ with_owed l.initial.owed l.owed.posted;
  done : l.owed.posted ++ posts_of_all l.rises (stands_in l.rows) (stands_in l.tasks) (targets_in l.cells.contexts) l.left
      ≡ l.initial.owed.posted ++ posts_of_all l.rises (stands_in l.rows) (stands_in l.tasks) (targets_in l.cells.contexts) (readers_of l.fn.source l.cells.reads);
}

abbrev pub decreases-loop-reader : goal.decreases-loop-reader
decreases-loop-reader g l = length l.left
