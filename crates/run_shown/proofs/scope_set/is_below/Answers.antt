-- By the set.
use Rattle.std.proofs.Common.{◌∙◌}
use Rattle.run_shown.proofs.Members.{is_in}
use Rattle.run_shown.proofs.scope_set.is_below.Goals as goal

pub returns : goal.returns
returns c = c.contains.ensures ∙ is_in c.args.numbers.now.keys c.args.scope
