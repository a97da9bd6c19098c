-- Of no report there is no line.
use Rattle.std.proofs.Common.{ℕ, List, [], ◌∷◌, ◌++◌, append-nil, subst}
use Rattle.show_streams.specs.Writes.{Writes}
use Rattle.show_stream.proofs.answers.put_before.Goals as goal

pub returns : goal.returns
returns g c =
    record {
      writes =
          subst
          (λ (lines : List (List ℕ)). Writes (lines ++ c.args.last.now ∷ []) (g.O.Out.puts c.args.out.now) (g.O.Out.puts c.put_ended_printed.new.out)
          (g.O.Out.faults c.args.out.now) (g.O.Out.faults c.put_ended_printed.new.out) c.put_ended_printed.result)
          (append-nil c.args.lines.now)
          c.put_ended_printed.ensures.writes;
    }
