-- Namespaces are compared as the definitions compare them.
use Rattle.run_attributes.proofs.Orders.{namespace-tested}
use Rattle.run_attributes.proofs.order.is_same_namespace.Goals as goal

pub returns : goal.returns
returns c = namespace-tested c.same.result c.args.namespace.now c.args.other.now c.same.ensures.same.0 c.same.ensures.same.1
