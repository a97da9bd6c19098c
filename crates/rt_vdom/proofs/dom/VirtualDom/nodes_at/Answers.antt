use Rattle.std.proofs.Common.{refl}
use Rattle.run_outside.proofs.Said.{if_ok}
use Rattle.rt_vdom.specs.Doms.{StateIn}
use Rattle.rt_vdom.proofs.dom.VirtualDom.nodes_at.Goals as goal

pub returns : goal.returns
returns g c = if_ok c.nodes_of.result c.nodes_of.ensures.nodes (λ nodes are kept. are (StateIn kept c.args.self.now) (c.now-look.ensures.shows (StateIn kept c.args.self.now) refl))
