-- They ascend where they were found to.
use Rattle.std.proofs.Common.{rules}
use Rattle.lang_expressions.proofs.context_keys.ContextKeys.from_vec.Goals as goal

pub invariant_of-result : goal.invariant_of-result
invariant_of-result c = λ yes. search (rules, yes)
