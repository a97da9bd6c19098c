-- A call of a given number is counted as a failure.
use Rattle.std.proofs.Common.{sym, ◌∙◌}
use Rattle.rt_edits.proofs.Failures.{rises_at}
use Rattle.rt_edits.proofs.failing.FailingMutations.count.Goals as goal

pub returns-then-contains-clause-cause : goal.returns-then-contains-clause-cause
returns-then-contains-clause-cause c =
    let found = rw c.as_slice.ensures.items at c.contains.ensures.value in
    rises_at _ _ (sym found ∙ c.if-contains.true)
