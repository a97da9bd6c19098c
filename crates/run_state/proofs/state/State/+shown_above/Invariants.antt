use Rattle.run_state.proofs.state.State.+shown_above.Given as goal

abbrev pub decreases-shown_above : goal.decreases-shown_above
decreases-shown_above g l = l.steps
