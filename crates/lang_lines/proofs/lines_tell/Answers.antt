-- The line of a report tells all that it counts.
use Rattle.lang_lines.proofs.Reports.{lines_tell}
use Rattle.lang_lines.proofs.lines_tell.Goals as goal

pub returns : goal.returns
returns c = lines_tell
