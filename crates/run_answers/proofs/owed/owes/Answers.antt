use Rattle.std.proofs.Common.{◌∙◌, sym}
use Rattle.run_state.specs.Mirror.{state_of}
use Rattle.run_answers.proofs.Dues.{owes_is}
use Rattle.run_answers.proofs.owed.owes.Goals as goal

pub returns : goal.returns
returns g c = λ kept. c.is_owed.ensures kept ∙ sym (owes_is (state_of kept c.args.state.now))
