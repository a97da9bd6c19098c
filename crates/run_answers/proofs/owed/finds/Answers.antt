use Rattle.std.proofs.Common.{◌∙◌, sym}
use Rattle.run_state.specs.Mirror.{state_of}
use Rattle.run_answers.proofs.Dues.{finds_is}
use Rattle.run_answers.proofs.owed.finds.Goals as goal

pub returns : goal.returns
returns g c = λ kept. c.comes_up.ensures kept ∙ sym (finds_is (state_of kept c.args.state.now))
