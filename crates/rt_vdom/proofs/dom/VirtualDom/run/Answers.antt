use Rattle.rt_vdom.proofs.dom.VirtualDom.run.Goals as goal

pub returns-in-Built-clause-fails : goal.returns-in-Built-clause-fails
returns-in-Built-clause-fails g c = c.go_on.ensures.fails c.in-Built.is
