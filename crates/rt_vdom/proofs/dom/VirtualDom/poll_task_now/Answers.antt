use Rattle.rt_vdom.proofs.dom.VirtualDom.poll_task_now.Goals as goal

pub returns-in-Built-clause-fails : goal.returns-in-Built-clause-fails
returns-in-Built-clause-fails g c = c.poll_at_once.ensures.fails c.in-Built.is
