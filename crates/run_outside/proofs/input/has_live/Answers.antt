use Rattle.std.proofs.Common.{◌∙◌, ap, sym, drop, ◌+◌}
use Rattle.run_state.specs.Mirror.{state_of}
use Rattle.run_shown.specs.Hearing.{listener_in, listeners_of}
use Rattle.run_outside.specs.Hearings.{has_waiting}
use Rattle.run_outside.proofs.Waiting.{next_drop, waits_first, waits_later}
use Rattle.std.proofs.Math.ListN.{drop_of_length-le}
use Rattle.run_outside.proofs.input.has_live.Goals as goal

pub returns-then-is_live : goal.returns-then-is_live
returns-then-is_live g c =
    λ kept.
    let w = state_of kept c.args.state.now in
    sym (waits_first w (listener_in c.listener-item.result) (listeners_of (drop (c.loop-listener.listener-index + 1) c.args.listeners.now)) (sym (c.is_live.ensures kept) ∙ c.if-is_live.true))
    ∙ ap (λ xs. has_waiting w (listeners_of xs)) (sym (next_drop c.args.listeners.now c.loop-listener.listener-index c.listener-item.result c.loop-listener-test.true c.listener-item.is))
    ∙ c.loop-listener.invariant kept

pub loop-listener-preserved : goal.loop-listener-preserved
loop-listener-preserved g c =
    λ kept.
    let w = state_of kept c.args.state.now in
    sym (waits_later w (listener_in c.listener-item.result) (listeners_of (drop (c.loop-listener.listener-index + 1) c.args.listeners.now)) (sym (c.is_live.ensures kept) ∙ c.if-is_live.false))
    ∙ ap (λ xs. has_waiting w (listeners_of xs)) (sym (next_drop c.args.listeners.now c.loop-listener.listener-index c.listener-item.result c.loop-listener-test.true c.listener-item.is))
    ∙ c.loop-listener.invariant kept

pub returns : goal.returns
returns g c =
    λ kept.
    ap (λ xs. has_waiting (state_of kept c.args.state.now) (listeners_of xs)) (sym (drop_of_length-le c.args.listeners.now c.loop-listener-test.false))
    ∙ c.loop-listener.invariant kept
