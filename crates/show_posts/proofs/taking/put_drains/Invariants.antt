-- The lines so far have been put.
use Rattle.std.proofs.Common.{take, Ok}
use Rattle.rt_model.specs.Lists.{joined}
use Rattle.show_posts.proofs.Messages.{lines_from}
use Rattle.show_streams.specs.Writes.{Writes}
use Rattle.show_posts.proofs.taking.put_drains.Given as goal

abbrev pub invariant-loop-at : goal.invariant-loop-at
invariant-loop-at g l =
    Writes (joined (take l.at (lines_from 1 l.drains))) (g.O.Out.puts l.fn.out) (g.O.Out.puts l.out) (g.O.Out.faults l.fn.out) (g.O.Out.faults l.out) (Ok tt)
