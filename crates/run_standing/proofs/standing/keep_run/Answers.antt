use Rattle.std.proofs.Common.{sym, subst}
use Rattle.run_standing.specs.Changes.{AllKept, unless}
use Rattle.run_outside.proofs.Said.{on_ok}
use Rattle.run_standing.proofs.standing.keep_run.Goals as goal

pub returns-clause-kept : goal.returns-clause-kept
returns-clause-kept g c =
    on_ok c.keep.result c.keep.ensures.kept
    (λ h. subst (λ b. AllKept c.keep.new.stood (unless b c.args.child)) (sym c.if-kept.false) (h, tt))
