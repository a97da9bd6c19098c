-- The text of a run tells whether a fault ended it.
use Rattle.lang_lines.proofs.Items.{ends_tell}
use Rattle.lang_lines.proofs.ends_tell.Goals as goal

pub returns : goal.returns
returns c = ends_tell
