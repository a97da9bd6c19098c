-- No scope is seen, a suspended task remains, and no message was left.
use Rattle.std.proofs.Common.{◌&&◌, ap, ◌∙◌}
use Rattle.run_answers.specs.Polls.{answers, sees_none}
use Rattle.run_answers.proofs.Looked.{none_seen}
use Rattle.run_answers.proofs.waiting.waits_suspended.Goals as goal

pub returns : goal.returns
returns g c =
    let seen = (c.args.state.now.owed).seen in
    record {
      waits =
          λ kept.
          c.pending_where.ensures
          ∙ ap (λ b. answers (b && c.suspended_remains.result && c.args.emptied)) (none_seen c.sees_none.result seen c.sees_none.ensures.empty)
          ∙ ap (λ b. answers (sees_none seen && b && c.args.emptied)) (c.suspended_remains.ensures.remains kept);
    }
