-- The line is that of a refusal.
use Rattle.std.proofs.Common.{rules, ◌≡◌, ℕ, List, [], ◌∷◌, subst}
use Rattle.show_answers.specs.Streamed.{refusal}
use Rattle.show_streams.specs.Writes.{Writes}
use Rattle.show_stream.proofs.answers.put_refusal.Goals as goal

pub returns : goal.returns
returns g c =
    let same : c.as_bytes.result.now ≡ refusal g.T.Tells.form = search rules in
    record {
      writes =
          subst
          (λ (line : List ℕ). Writes (line ∷ []) (g.O.Out.puts c.args.out.now) (g.O.Out.puts c.put.new.self) (g.O.Out.faults c.args.out.now) (g.O.Out.faults c.put.new.self) c.put.result)
          same c.put.ensures.writes;
    }
