-- Into the same context it is one more of those that are left, and else these come first.
use Rattle.std.proofs.Common.{[], ◌∷◌, ◌∙◌, ap, sym}
use Rattle.rt_model.specs.World.{ReadInto}
use Rattle.rt_model.specs.Commands.{command, commands}
use Rattle.run_records.specs.Records.{source_of}
use Rattle.run_state.specs.Anew.{read_anew}
use Rattle.run_state.specs.Mirror.{state_of}
use Rattle.run_state.proofs.Changed.{if_ok}
use Rattle.run_state.proofs.ReadAnew.{commands_append, one_more_read}
use Rattle.run_state.proofs.state.State.read_on.Goals as goal

pub returns-then-former-context : goal.returns-then-former-context
returns-then-former-context g c = λ kept app scope polled.
    ap (λ cs. commands app (state_of kept c.args.self.now) scope polled cs)
    (one_more_read c.args.former c.args.context c.args.sources c.push.new.self c.args.source c.if-former-context.true c.in_ok-push.ensures.ok)

pub returns : goal.returns
returns g c =
    if_ok c.read_alone.result c.read_alone.ensures (λ later is kept app scope polled. is kept app scope polled
    ∙ ap (λ w. command app w scope polled (ReadInto c.args.context (source_of c.args.source)))
    (c.in_ok-read_anew.ensures kept app scope polled
    ∙ ap (λ xs. commands app (state_of kept c.args.self.now) scope polled (read_anew c.args.former xs)) c.as_slice.ensures.items)
    ∙ sym (commands_append app (state_of kept c.args.self.now) scope polled (read_anew c.args.former c.args.sources) (ReadInto c.args.context (source_of c.args.source) ∷ [])))
