use Rattle.run_state.proofs.state.State.+hider_above.Given as goal

abbrev pub decreases-hider_above : goal.decreases-hider_above
decreases-hider_above g l = l.steps
