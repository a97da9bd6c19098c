-- It is one list of one context, or nothing.
use Rattle.std.proofs.Common.{◌∙◌, ap, refl}
use Rattle.rt_model.specs.Commands.{commands}
use Rattle.run_state.specs.Anew.{read_anew}
use Rattle.run_state.specs.Mirror.{state_of}
use Rattle.run_state.proofs.Changed.{on_ok}
use Rattle.run_state.proofs.state.State.reread.Goals as goal

pub returns-in-Some : goal.returns-in-Some
returns-in-Some g c = rw c.in-Some.is
    (on_ok c.read_anew.result c.read_anew.ensures (λ is kept app scope polled. is kept app scope polled
    ∙ ap (λ xs. commands app (state_of kept c.args.self.now) scope polled (read_anew c.in-Some.found.0 xs)) c.as_slice.ensures.items))

pub returns-in-None : goal.returns-in-None
returns-in-None g c = rw c.in-None.is (λ kept app scope polled. refl)
