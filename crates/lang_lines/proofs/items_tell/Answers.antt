-- What has one line is the same.
use Rattle.lang_lines.proofs.Items.{items_tell}
use Rattle.lang_lines.proofs.items_tell.Goals as goal

pub returns : goal.returns
returns c = items_tell
