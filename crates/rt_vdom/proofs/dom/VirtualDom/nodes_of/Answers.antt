use Rattle.std.proofs.Common.{◌∙◌, sym}
use Rattle.rt_vdom.proofs.dom.VirtualDom.nodes_of.Goals as goal

pub returns-in_ok-nodes_at-clause-live : goal.returns-in_ok-nodes_at-clause-live
returns-in_ok-nodes_at-clause-live g c = λ kept. sym c.if-is_live.true ∙ c.is_live.ensures kept

pub returns-else-is_live-clause-live : goal.returns-else-is_live-clause-live
returns-else-is_live-clause-live g c = λ kept. sym c.if-is_live.false ∙ c.is_live.ensures kept
