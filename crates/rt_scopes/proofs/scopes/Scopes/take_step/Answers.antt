-- A poll's commands, and another state or the end of the task.
use Rattle.std.proofs.Common.{◌∙◌, ap, map}
use Rattle.std.specs.Prelude.{Some}
use Rattle.rt_model.specs.Commands.{commands, end}
use Rattle.run_records.specs.Records.{command_of}
use Rattle.run_state.specs.Mirror.{state_of}
use Rattle.rt_scopes.proofs.Polled.{left_pending, left_ready}
use Rattle.rt_scopes.proofs.scopes.Scopes.take_step.Goals as goal

pub returns-in_ok-do_commands-in-Pending : goal.returns-in_ok-do_commands-in-Pending
returns-in_ok-do_commands-in-Pending g c =
    rw c.in-Pending.is
    (λ app tests kept x m found own are.
    left_pending app (state_of kept c.args.self.now.state) _ c.args.task c.args.scope c.in-Pending.state x m (map command_of c.args.commands) found own are
    (c.in_ok-do_commands-in-Pending.ensures app tests kept
    ∙ ap (λ w. commands app w c.args.scope (Some c.args.task) (map command_of c.args.commands)) (c.in_ok-keep_state-in-Pending.ensures kept)))

pub returns-in_ok-end-in-Ready : goal.returns-in_ok-end-in-Ready
returns-in_ok-end-in-Ready g c =
    rw c.in-Ready.is
    (λ app tests kept x m found own are.
    left_ready app (state_of kept c.args.self.now.state) _ c.args.task c.args.scope x m (map command_of c.args.commands) own are
    (c.in_ok-end-in-Ready.ensures kept
    ∙ ap (λ w. end w c.args.task) (c.in_ok-do_commands-in-Ready.ensures app tests kept)))
