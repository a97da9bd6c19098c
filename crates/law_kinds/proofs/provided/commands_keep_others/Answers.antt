-- The law.
use Rattle.law_kinds.proofs.Untouched.{commands_keep_others}
use Rattle.law_kinds.proofs.provided.commands_keep_others.Goals as goal

pub returns : goal.returns
returns g c = commands_keep_others _
