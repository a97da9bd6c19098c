-- A failure is one of the out below, and is counted there.
use Rattle.std.proofs.Common.{rules, ◌≡◌, Ok, Err, subst}
use Rattle.std.specs.Prelude.{Result, IsErrOf}
use Rattle.rt_lemmas.proofs.Numbers.{least as no_more}
use Rattle.show_streams.specs.declared.out.OutError.{OutError}
use Rattle.show_streams.specs.declared.out.OutError.TheVariants as errors
use Rattle.show_streams.proofs.OnePut.{untold}
use Rattle.rt_program.proofs.held.HeldOutOut.put.Goals as goal

pub returns-in_err-extend_from_slice : goal.returns-in_err-extend_from_slice
returns-in_err-extend_from_slice g c =
    let stopped : c.from_residual.result ≡ Err errors.OutOfMemory = search rules in
    record {
      writes = untold _ _ _ c.from_residual.result (no_more _)
          (λ failed. absurd (cc (subst (λ (r : Result (Unit {0}) OutError). IsErrOf r errors.Failed) stopped failed)));
    }

pub returns-then-has_room : goal.returns-then-has_room
returns-then-has_room g c = record { writes = untold _ _ _ (Ok tt) (no_more _) (λ failed. absurd (cc failed)) }

pub returns : goal.returns
returns g c = record { writes = untold _ _ _ c.finish.result c.finish.ensures.later c.finish.ensures.cause }
