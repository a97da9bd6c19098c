use Rattle.std.proofs.Common.{sym, subst}
use Rattle.run_standing.specs.Changes.{AllKept}
use Rattle.run_standing.specs.Feeds.{leaf_changes}
use Rattle.run_outside.proofs.Said.{on_ok}
use Rattle.run_standing.proofs.standing.keep_leaf.Goals as goal

pub returns-in-Some-clause-kept : goal.returns-in-Some-clause-kept
returns-in-Some-clause-kept g c =
    on_ok c.keep.result c.keep.ensures.kept (λ h. subst (λ o. AllKept c.keep.new.stood (leaf_changes o)) (sym c.in-Some.is) (h, tt))

pub returns-in-None-clause-kept : goal.returns-in-None-clause-kept
returns-in-None-clause-kept g c = subst (λ o. AllKept c.args.stood.now (leaf_changes o)) (sym c.in-None.is) tt
