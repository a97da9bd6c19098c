-- Equal props are those that the test finds equal.
use Rattle.lang_script.proofs.Meant.{same-props}
use Rattle.lang_script.proofs.script.ScriptApp.memoize.Goals as goal

pub returns : goal.returns
returns c = record { means = same-props c.same.result c.args.old.now c.args.new.now c.same.ensures.same }
