-- Each scope above is one step more.
use Rattle.run_shown.proofs.way.+add_above.Given as goal

abbrev pub decreases-add_above : goal.decreases-add_above
decreases-add_above g l = l.steps
