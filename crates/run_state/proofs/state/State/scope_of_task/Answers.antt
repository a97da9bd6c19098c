use Rattle.std.specs.Prelude.{Some, None}
use Rattle.run_state.specs.Mirror.{task_of, state_of}
use Rattle.run_state.proofs.Each.{found-each}
use Rattle.run_state.proofs.FoundScopes.{scope_found}
use Rattle.run_state.proofs.state.State.scope_of_task.Goals as goal

pub returns-in-Some : goal.returns-in-Some
returns-in-Some g c = λ kept.
    scope_found (state_of kept c.args.self.now) c.args.task (Some (task_of c.in-Some.row.now)) (found-each task_of c.args.self.now.tasks c.args.task (Some c.in-Some.row.now) c.in-Some.ensures.value)

pub returns-in-None : goal.returns-in-None
returns-in-None g c = λ kept. scope_found (state_of kept c.args.self.now) c.args.task None (found-each task_of c.args.self.now.tasks c.args.task None c.in-None.ensures.value)
