-- No scope is seen, and no message was left.
use Rattle.std.proofs.Common.{◌&&◌, ap, ◌∙◌}
use Rattle.run_answers.specs.Polls.{answers}
use Rattle.run_answers.proofs.Looked.{none_seen}
use Rattle.run_answers.proofs.waiting.waits.Goals as goal

pub returns : goal.returns
returns g c =
    record {
      waits =
          λ kept.
          c.pending_where.ensures
          ∙ ap (λ b. answers (b && c.args.emptied))
          (none_seen c.sees_none.result (c.args.state.now.owed).seen c.sees_none.ensures.empty);
    }
