-- What has the same lines, one after another, is the same list.
use Rattle.lang_lines.proofs.Items.{runs_tell}
use Rattle.lang_lines.proofs.runs_tell.Goals as goal

pub returns : goal.returns
returns c = runs_tell
