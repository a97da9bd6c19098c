-- A law.
use Rattle.author_derived.proofs.Telling.{current_derived_show}
use Rattle.author_derived.proofs.laws.current_derived_show.Goals as goal

pub returns : goal.returns
returns g c = current_derived_show _ _ _ _ _ _
