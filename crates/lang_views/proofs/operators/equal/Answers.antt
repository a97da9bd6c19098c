use Rattle.std.proofs.Common.{◌∙◌, ap}
use Rattle.rt_language.specs.Values.{flag}
use Rattle.lang_views.proofs.Sameness.{same-decides}
use Rattle.lang_views.proofs.operators.equal.Goals as goal

-- src/operators.rt:48:1
pub returns : goal.returns
returns c = c.flag.ensures ∙ ap flag (same-decides c.same.result c.args.left.now c.args.right.now c.same.ensures.same)
