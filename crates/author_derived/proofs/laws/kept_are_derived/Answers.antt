-- A law.
use Rattle.author_derived.proofs.Derives.{kept_are_derived}
use Rattle.author_derived.proofs.laws.kept_are_derived.Goals as goal

pub returns : goal.returns
returns g c = kept_are_derived
