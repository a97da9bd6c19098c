-- The law.
use Rattle.law_kinds.proofs.Untouched.{programs_keep_others}
use Rattle.law_kinds.proofs.provided.programs_keep_others.Goals as goal

pub returns : goal.returns
returns g c = programs_keep_others _ _
