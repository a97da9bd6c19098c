use Rattle.std.proofs.Common.{◌∙◌, ap, sym}
use Rattle.law_behavior.specs.Doms.{left_by}
use Rattle.run_state.specs.Mirror.{state_of}
use Rattle.run_answers.specs.Untils.{until_of}
use Rattle.run_answers.proofs.until.leave.Goals as goal

pub returns-in-Renders : goal.returns-in-Renders
returns-in-Renders g c =
    λ kept. c.drop_paused-next.ensures.dropped kept ∙ ap (λ u. left_by (until_of u) (state_of kept c.args.state.now)) (sym c.in-Renders.is)
