use Rattle.rt_vdom.proofs.dom.VirtualDom.render_suspense_immediate.Goals as goal

pub returns-in-Built-clause-fails : goal.returns-in-Built-clause-fails
returns-in-Built-clause-fails g c = c.render_suspended.ensures.fails c.in-Built.is
