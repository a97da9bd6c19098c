use Rattle.show_answers.proofs.Growing.{grow, grow-answered}
use Rattle.show_answers.proofs.laws.answers_grow.Goals as goal

pub returns-clause-grows : goal.returns-clause-grows
returns-clause-grows c = λ form lines number edits own reports report are h. grow form lines number edits own reports report are h

pub returns-clause-answered : goal.returns-clause-answered
returns-clause-answered c = λ lines edits own reports report are h. grow-answered lines edits own reports report are h
