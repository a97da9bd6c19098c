use Rattle.std.proofs.Common.{◌∙◌, ap, sym, map, drop, ◌+◌}
use Rattle.rt_model.specs.Replay.{post_messages}
use Rattle.run_reports.specs.Seen.{message_of}
use Rattle.run_state.specs.Mirror.{state_of}
use Rattle.std.proofs.Math.ListN.{drop_of_length-le}
use Rattle.run_outside.proofs.Waiting.{next_item}
use Rattle.run_outside.proofs.input.post_messages.Goals as goal

pub loop-message-preserved : goal.loop-message-preserved
loop-message-preserved g c =
    λ kept.
    ap (λ w. post_messages w (map message_of (drop (c.loop-message.message-index + 1) c.args.messages.now))) (c.in_ok-post_message.ensures kept)
    ∙ ap (λ ms. post_messages (state_of kept c.loop-message.state) (map message_of ms)) (sym (next_item c.args.messages.now c.loop-message.message-index _ c.loop-message-test.true))
    ∙ c.loop-message.invariant kept

pub returns : goal.returns
returns g c =
    λ kept.
    ap (λ ms. post_messages (state_of kept c.loop-message.state) (map message_of ms)) (sym (drop_of_length-le c.args.messages.now c.loop-message-test.false))
    ∙ c.loop-message.invariant kept
