-- One empty side stands for both where both are empty.
use Rattle.std.proofs.Common.{◌∙◌, sym}
use Rattle.run_standing.proofs.standing.others_standing.Goals as goal

pub returns-then-are_clear-clause-children : goal.returns-then-are_clear-clause-children
returns-then-are_clear-clause-children g c = c.empty.ensures.none ∙ sym (c.are_clear.ensures.children c.if-are_clear.true)

pub returns-then-are_clear-clause-fallback : goal.returns-then-are_clear-clause-fallback
returns-then-are_clear-clause-fallback g c = c.empty.ensures.none ∙ sym (c.are_clear.ensures.fallback c.if-are_clear.true)
