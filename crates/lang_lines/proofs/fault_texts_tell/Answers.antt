-- The text of a run that came to a fault tells all of it.
use Rattle.lang_lines.proofs.Items.{fault_texts_tell}
use Rattle.lang_lines.proofs.fault_texts_tell.Goals as goal

pub returns : goal.returns
returns c = fault_texts_tell
