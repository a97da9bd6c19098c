-- The application is an Elm program, so its cells are those of the fold.
use Rattle.std.proofs.Common.{ℕ, List, ◌∷◌, subst}
use Rattle.rt_author.specs.Programs.{ProgramFolds}
use Rattle.rt_author.specs.Told.{Told}
use Rattle.examples_template.proofs.Unfailing.{is_elm}
use Rattle.examples_template.specs.Meaning.{OwnTypes, answers, decides, keeping, nothing}
use Rattle.examples_template.proofs.laws.cells_fold.Goals as goal

pub returns : goal.returns
returns k =
    λ inputs limits taken build reports first rest s h told root cells.
    let folds = subst (λ (ts : List (Told OwnTypes)). ProgramFolds keeping answers nothing inputs (build ∷ reports) ts) told
    (k.elm_programs_fold.ensures keeping answers is_elm (k.pages_are_lawful.ensures keeping answers decides) nothing inputs limits taken (build ∷ reports) h) in
    (folds s root cells).2
