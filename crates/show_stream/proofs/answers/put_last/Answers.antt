-- The lines and the fault's, or a front of them.
use Rattle.std.proofs.Common.{rules, ◌≡◌, Some, Err, inl, refl}
use Rattle.std.specs.Prelude.{option_map}
use Rattle.show_answers.specs.Told.{ToldFault}
use Rattle.run_reports.specs.Seen.{fault_of}
use Rattle.show_stream.proofs.Put.{last_put}
use Rattle.show_streams.specs.declared.out.OutError.TheVariants as errors
use Rattle.show_stream.proofs.answers.put_last.Goals as goal

pub returns-in_err-last-clause-puts : goal.returns-in_err-last-clause-puts
returns-in_err-last-clause-puts g c =
    let stopped : c.from_residual.result ≡ Err errors.OutOfMemory = search rules in
    rw stopped (inl refl)

pub returns-in_default-clause-puts : goal.returns-in_default-clause-puts
returns-in_default-clause-puts g c = inl refl

pub returns-clause-puts : goal.returns-clause-puts
returns-clause-puts g c =
    let same : c.as_slice.result.now ≡ c.in-Some.last = search rules in
    let names : Some c.as_slice.result.now ≡ option_map (λ f. g.T.Tells.form (ToldFault f)) (fault_of c.args.fault) = cc (same, c.in-Some.is, c.in_ok-last.ensures.line) in
    last_put g.T.Tells.form c.args.lines.now c.as_slice.result.now (fault_of c.args.fault) _ _ _ _ c.put_before.result names c.put_before.ensures.writes
