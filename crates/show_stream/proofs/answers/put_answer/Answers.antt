-- The last line is the report's, or there was no memory for it.
use Rattle.std.proofs.Common.{rules, ◌≡◌, ℕ, List, [], ◌∷◌, ◌++◌, Err, ◌∙◌, subst}
use Rattle.show_streams.proofs.OnePut.{nothing_put}
use Rattle.show_streams.specs.Writes.{Writes}
use Rattle.show_streams.specs.declared.out.OutError.TheVariants as errors
use Rattle.show_objects.specs.Lines.{report_line_in}
use Rattle.show_stream.proofs.answers.put_answer.Goals as goal

pub returns-in_err-last : goal.returns-in_err-last
returns-in_err-last g c =
    let stopped : c.from_residual.result ≡ Err errors.OutOfMemory = search rules in
    record {
      writes = rw stopped
          (nothing_put (c.args.lines.now ++ report_line_in g.T.Tells.form c.args.number c.args.report.now ∷ []) (g.O.Out.puts c.args.out.now) (g.O.Out.faults c.args.out.now));
    }

pub returns : goal.returns
returns g c =
    let same : c.as_slice.result.now ≡ report_line_in g.T.Tells.form c.args.number c.args.report.now = c.as_slice.ensures.items ∙ c.in_ok-last.ensures.line in
    record {
      writes =
          subst
          (λ (line : List ℕ). Writes (c.args.lines.now ++ line ∷ []) (g.O.Out.puts c.args.out.now) (g.O.Out.puts c.put_before.new.out)
          (g.O.Out.faults c.args.out.now) (g.O.Out.faults c.put_before.new.out) c.put_before.result)
          same c.put_before.ensures.writes;
    }
