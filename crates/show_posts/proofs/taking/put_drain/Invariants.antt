-- The lines so far have been put.
use Rattle.std.proofs.Common.{take, Ok}
use Rattle.show_posts.proofs.Messages.{lines_in}
use Rattle.show_streams.specs.Writes.{Writes}
use Rattle.show_posts.proofs.taking.put_drain.Given as goal

abbrev pub invariant-loop-message : goal.invariant-loop-message
invariant-loop-message g l =
    Writes (take l.message-index (lines_in l.number l.drain)) (g.O.Out.puts l.fn.out) (g.O.Out.puts l.out) (g.O.Out.faults l.fn.out) (g.O.Out.faults l.out) (Ok tt)
