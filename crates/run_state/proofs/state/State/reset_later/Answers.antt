-- What is left comes first, and a reset alone is left then.
use Rattle.std.proofs.Common.{[], ◌∷◌, ◌∙◌, ap, sym}
use Rattle.rt_model.specs.World.{Reset}
use Rattle.rt_model.specs.Commands.{command, commands}
use Rattle.run_state.specs.Anew.{left_of, read_anew}
use Rattle.run_state.specs.Mirror.{state_of}
use Rattle.run_state.proofs.ReadAnew.{commands_append}
use Rattle.run_state.proofs.state.State.reset_later.Goals as goal

pub returns : goal.returns
returns g c = λ kept app scope polled.
    ap (λ xs. commands app (state_of kept c.reread.new.self) scope polled (read_anew c.args.context xs)) c.new.ensures.empty
    ∙ ap (λ w. command app w scope polled (Reset c.args.context)) (c.in_ok-reread.ensures kept app scope polled)
    ∙ sym (commands_append app (state_of kept c.args.self.now) scope polled (left_of c.args.left) (Reset c.args.context ∷ []))
