-- Each scope above is one step more.
use Rattle.run_shown.proofs.look.Look.+is_shown_both.Given as goal

abbrev pub decreases-is_shown_both : goal.decreases-is_shown_both
decreases-is_shown_both g l = l.steps
