use Rattle.rt_vdom.proofs.dom.VirtualDom.handle_event.Goals as goal

pub returns-in-Ok-clause-fails : goal.returns-in-Ok-clause-fails
returns-in-Ok-clause-fails g c = c.hear.ensures.fails c.in-Built.is
