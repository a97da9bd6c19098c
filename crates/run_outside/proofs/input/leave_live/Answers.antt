-- Where all scopes are live all stay.
use Rattle.std.proofs.Common.{◌∙◌, ap, sym}
use Rattle.run_state.specs.Mirror.{state_of}
use Rattle.run_shown.specs.Hearing.{listeners_of}
use Rattle.run_outside.specs.Hearings.{live_listeners}
use Rattle.run_outside.proofs.Waiting.{all_wait}
use Rattle.run_outside.proofs.input.leave_live.Goals as goal

pub returns-then-are_live : goal.returns-then-are_live
returns-then-are_live g c =
    λ kept.
    sym (all_wait (state_of kept c.args.state.now) c.scopes.result.now c.args.listeners.now (sym (c.are_live.ensures kept) ∙ c.if-are_live.true) c.scopes.ensures.scopes)

pub returns : goal.returns
returns g c =
    λ kept.
    ap (λ xs. listeners_of xs) c.in_ok-listeners.ensures.items
    ∙ c.in_ok-live.ensures kept
    ∙ ap (λ xs. live_listeners (state_of kept c.args.state.now) (listeners_of xs)) (c.into_list.ensures.items ∙ c.replace-all.ensures.value)
