use Rattle.law_patch.proofs.Appended.{appended_agrees}
use Rattle.law_patch.proofs.serving.appended_agrees.Goals as goal

pub returns : goal.returns
returns g c = λ s t f rows numbers children spot e d h. appended_agrees s t f rows numbers children spot e d h
