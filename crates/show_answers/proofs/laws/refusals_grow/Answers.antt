use Rattle.show_answers.proofs.Growing.{refuse, refuse-answered}
use Rattle.show_answers.proofs.laws.refusals_grow.Goals as goal

pub returns-clause-grows : goal.returns-clause-grows
returns-clause-grows c = λ form lines number edits reports are. refuse form lines number edits reports are

pub returns-clause-answered : goal.returns-clause-answered
returns-clause-answered c = λ lines edits reports are. refuse-answered lines edits reports are
