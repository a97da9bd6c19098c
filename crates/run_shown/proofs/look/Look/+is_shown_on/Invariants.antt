-- Each scope above is one step more.
use Rattle.run_shown.proofs.look.Look.+is_shown_on.Given as goal

abbrev pub decreases-is_shown_on : goal.decreases-is_shown_on
decreases-is_shown_on g l = l.steps
