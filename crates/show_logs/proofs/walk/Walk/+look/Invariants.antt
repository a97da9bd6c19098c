-- The levels fall from a value to those in it.
use Rattle.std.proofs.Common.{◌+◌, ◌*◌}
use Rattle.show_logs.proofs.walk.Walk.+look.Given as goal

abbrev pub decreases-look : goal.decreases-look
decreases-look l = 5 * l.levels + 4

abbrev pub decreases-expression : goal.decreases-expression
decreases-expression l = 5 * l.levels + 3

abbrev pub decreases-object : goal.decreases-object
decreases-object l = 5 * l.levels + 2

abbrev pub decreases-entries : goal.decreases-entries
decreases-entries l = 5 * l.levels + 1

abbrev pub decreases-entry : goal.decreases-entry
decreases-entry l = 5 * l.levels

abbrev pub decreases-row : goal.decreases-row
decreases-row l = 5 * l.levels + 2

abbrev pub decreases-items : goal.decreases-items
decreases-items l = 5 * l.levels + 1

abbrev pub decreases-members : goal.decreases-members
decreases-members l = 5 * l.levels + 2
