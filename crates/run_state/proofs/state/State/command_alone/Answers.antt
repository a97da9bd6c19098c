-- What is left comes first.
use Rattle.std.proofs.Common.{[], ◌∷◌, ◌∙◌, ap, sym}
use Rattle.rt_model.specs.Commands.{command}
use Rattle.run_records.specs.Records.{command_of}
use Rattle.run_state.specs.Anew.{left_of}
use Rattle.run_state.specs.Mirror.{state_of}
use Rattle.run_state.proofs.ReadAnew.{commands_append}
use Rattle.run_state.proofs.state.State.command_alone.Goals as goal

pub returns : goal.returns
returns g c = λ app decides kept.
    c.in_ok-command.ensures app decides kept
    ∙ ap (λ w. command app w c.args.scope c.args.polled (command_of c.args.command)) (c.in_ok-reread.ensures kept app c.args.scope c.args.polled)
    ∙ sym (commands_append app (state_of kept c.args.self.now) c.args.scope c.args.polled (left_of c.args.left) (command_of c.args.command ∷ []))
