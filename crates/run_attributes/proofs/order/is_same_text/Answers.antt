-- Texts are compared as the definitions compare them.
use Rattle.run_attributes.proofs.Orders.{text-tested}
use Rattle.run_attributes.proofs.order.is_same_text.Goals as goal

pub returns : goal.returns
returns c = text-tested c.same.result c.args.text.now c.args.other.now c.same.ensures.same.0 c.same.ensures.same.1
