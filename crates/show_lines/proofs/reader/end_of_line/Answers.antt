-- The line ends at the newline, or where the bytes do.
use Rattle.std.proofs.Common.{arith, length, rules}
use Rattle.show_lines.proofs.Ends.{line_ends_at}
use Rattle.show_lines.proofs.reader.end_of_line.Goals as goal

pub returns-then-bytes-at-eq10-clause-ends : goal.returns-then-bytes-at-eq10-clause-ends
returns-then-bytes-at-eq10-clause-ends c =
    line_ends_at c.args.bytes.now c.args.from c.loop-at.at (omega arith) (omega arith) c.loop-at.invariant (λ less. search rules)

pub returns-clause-ends : goal.returns-clause-ends
returns-clause-ends c =
    line_ends_at c.args.bytes.now c.args.from (length c.args.bytes.now) (omega arith) (omega arith)
    (λ k above below. c.loop-at.invariant k above (omega arith)) (λ less. absurd (omega arith))
