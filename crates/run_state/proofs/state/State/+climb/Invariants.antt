use Rattle.run_state.proofs.state.State.+climb.Given as goal

abbrev pub decreases-climb : goal.decreases-climb
decreases-climb g l = l.steps
