use Rattle.std.proofs.Common.{◌≡◌}
use Rattle.run_state.specs.Mirror.{state_of}
use Rattle.run_answers.proofs.passing.leave_out_task.Goals as goal

pub returns : goal.returns
returns g c =
    λ kept.
    let w = state_of kept c.args.state.now in
    λ i. record w { posted = (c.unqueue.ensures.queued i).posted; seen = (c.unqueue.ensures.queued i).seen; queued = (c.unqueue.ensures.queued i).queued }
