use Rattle.law_elm.proofs.Ending.{elm_folds}
use Rattle.law_elm.proofs.rooting.elm_folds.Goals as goal

pub returns : goal.returns
returns g c = λ k a calm lawful props inputs limits taken reports h. elm_folds _ c.roots_last.ensures k a calm lawful props inputs limits taken reports h
