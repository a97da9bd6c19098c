use Rattle.run_state.proofs.state.State.+location_from.Given as goal

abbrev pub decreases-location_from : goal.decreases-location_from
decreases-location_from g l = l.steps
