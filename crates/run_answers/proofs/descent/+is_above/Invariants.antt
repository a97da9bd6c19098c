use Rattle.run_answers.proofs.descent.+is_above.Given as goal

abbrev pub decreases-is_above : goal.decreases-is_above
decreases-is_above g l = l.steps
