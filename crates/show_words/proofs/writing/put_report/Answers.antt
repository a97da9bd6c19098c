-- Without memory for its line nothing is put.
use Rattle.std.proofs.Common.{rules, ◌≡◌, Err}
use Rattle.show_streams.specs.declared.out.OutError.TheVariants as errors
use Rattle.show_streams.proofs.OnePut.{nothing_put}
use Rattle.show_words.proofs.writing.put_report.Goals as goal

pub returns-in_err-line : goal.returns-in_err-line
returns-in_err-line g c =
    let stopped : c.from_residual.result ≡ Err errors.OutOfMemory = search rules in
    record { writes = rw stopped (nothing_put _ _ _) }
