-- On the way to an item.
use Rattle.std.proofs.Common.{ap, ◌∙◌}
use Rattle.std.proofs.lemmas.Result.{IfOk-weaker}
use Rattle.run_shown.specs.Ways.{way_of}
use Rattle.run_shown.proofs.Claimed.{until_is}
use Rattle.run_shown.proofs.writing.written_until.Goals as goal

pub returns : goal.returns
returns g c =
    record {
      written =
          IfOk-weaker c.edits_on.result _ _
          (λ edits is. until_is edits c.args.before.now c.args.after.now c.args.refused.now c.as_slice.result.now c.args.scope
          (ap way_of c.as_slice.ensures.items ∙ c.in_ok-way.ensures) is)
          c.edits_on.ensures;
    }
