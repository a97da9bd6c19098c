-- The closure gives the order of the keys.
use Rattle.std.proofs.Common.{rules}
use Rattle.std.specs.Ordering.{nat_cmp}
use Rattle.std.specs.Cmp.Lexicographic.{slice_cmp}
use Rattle.std.proofs.lemmas.Fn.{always_returns_same}
use Rattle.lang_expressions.proofs.context_keys.key_at.Goals as goal

pub returns-clause-position : goal.returns-clause-position
returns-clause-position c =
    c.binary_search_by.ensures.position (λ other. slice_cmp nat_cmp other c.args.key.now) (always_returns_same _ _ _ (λ a r f called. search rules))
