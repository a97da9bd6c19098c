-- The messages that are left lead to where all do.
use Rattle.std.proofs.Common.{◌≡◌, drop, map}
use Rattle.rt_model.specs.Replay.{post_messages}
use Rattle.run_reports.specs.Seen.{message_of}
use Rattle.run_state.specs.Mirror.{state_of}
use Rattle.run_outside.proofs.input.post_messages.Given as goal

abbrev pub invariant-loop-message : goal.invariant-loop-message
invariant-loop-message g l =
    (kept : _)
    → post_messages (state_of kept l.state) (map message_of (drop l.message-index l.messages))
    ≡ post_messages (state_of kept l.fn.state) (map message_of l.messages)
