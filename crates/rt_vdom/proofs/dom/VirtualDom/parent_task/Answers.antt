-- By the row that was found.
use Rattle.std.proofs.Common.{Some, None, ◌∙◌}
use Rattle.run_state.specs.Mirror.{task_of}
use Rattle.run_state.proofs.Each.{found-each}
use Rattle.rt_vdom.specs.Doms.{StateIn}
use Rattle.run_answers.proofs.Looked.{spawner_there, spawner_gone}
use Rattle.rt_vdom.proofs.dom.VirtualDom.parent_task.Goals as goal

pub returns-in-Some : goal.returns-in-Some
returns-in-Some g c =
    record {
      parent =
          λ kept.
          c.named.ensures
          ∙ spawner_there (StateIn kept c.args.self.now) c.args.task.0 (task_of c.in-Some.row.now)
          (found-each task_of ((c.args.self.now.machine).scopes).state.tasks c.args.task.0 (Some c.in-Some.row.now) c.in-Some.ensures.value);
    }

pub returns-in-None : goal.returns-in-None
returns-in-None g c =
    record {
      parent =
          λ kept.
          spawner_gone (StateIn kept c.args.self.now) c.args.task.0
          (found-each task_of ((c.args.self.now.machine).scopes).state.tasks c.args.task.0 None c.in-None.ensures.value);
    }
