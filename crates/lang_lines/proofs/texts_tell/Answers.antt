-- The text of a run tells its edits and reports.
use Rattle.lang_lines.proofs.Items.{texts_tell}
use Rattle.lang_lines.proofs.texts_tell.Goals as goal

pub returns : goal.returns
returns c = texts_tell
