use Rattle.std.proofs.Common.{◌≡◌}
use Rattle.run_state.specs.Mirror.{state_of}
use Rattle.run_answers.proofs.passing.leave_out_scope.Goals as goal

pub returns : goal.returns
returns g c =
    record {
      out = λ kept.
          let w = state_of kept c.args.state.now in
          λ i. record w { posted = (c.unsee.ensures.seen i).posted; seen = (c.unsee.ensures.seen i).seen; queued = (c.unsee.ensures.seen i).queued; skipped = c.in_ok-join.ensures.joined i };
    }
