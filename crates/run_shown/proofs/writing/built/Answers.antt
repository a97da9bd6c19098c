-- The one edit holds what the definitions show.
use Rattle.std.proofs.Common.{ap}
use Rattle.rt_model.specs.Document as doc
use Rattle.rt_model.specs.View.{view}
use Rattle.run_shown.proofs.Claimed.{built_is}
use Rattle.run_shown.proofs.writing.built.Goals as goal

pub returns : goal.returns
returns g c =
    record {
      built = λ app w v shows.
          built_is c.push.new.self c.new-edits.result _ (view v) c.new-edits.ensures.empty c.in_ok-push.ensures.ok (ap (λ f. doc.AppendChildren 0 f) (c.in_ok-view.ensures.view v shows));
    }
