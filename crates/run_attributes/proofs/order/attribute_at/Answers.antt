-- The closure gives the order of the keys.
use Rattle.std.proofs.Common.{rules}
use Rattle.std.proofs.lemmas.Fn.{always_returns_same}
use Rattle.run_attributes.specs.Order.{key_order}
use Rattle.run_attributes.proofs.order.attribute_at.Goals as goal

pub returns-clause-position : goal.returns-clause-position
returns-clause-position c =
    c.binary_search_by.ensures.position (λ other. key_order other c.args.attribute.now) (always_returns_same _ _ _ (λ a r f called. search rules))
