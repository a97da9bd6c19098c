-- The one cell of the button's scope is all that its page and its listener read.
use Rattle.std.proofs.Common.{ℕ, List, ◌∷◌, refl, subst}
use Rattle.rt_author.specs.Elm.{OwnShows, Owned}
use Rattle.rt_author.specs.Told.{Told}
use Rattle.examples_template.proofs.Numbers.{alone, among_itself}
use Rattle.examples_template.specs.Meaning.{OwnTypes, answers, decides, keeping, nothing}
use Rattle.examples_template.proofs.laws.button_shows_fold.Goals as goal

pub returns : goal.returns
returns k =
    λ inputs limits taken build reports first rest s h told run reads owned stays.
    let n : ℕ = run.first.given.given.next.cells in
    let shows = subst (λ (ts : List (Told OwnTypes)). OwnShows keeping answers inputs (build ∷ reports) ts) told
    (k.own_pages_show.ensures keeping answers (λ i. refl) (k.pages_are_lawful.ensures keeping answers decides) nothing inputs limits taken (build ∷ reports) h) in
    shows s nothing nothing run reads (λ q. (among_itself n, tt)) (λ q. refl)
    (λ m is. subst (λ (i : ℕ). Owned first.machine.state i s) (alone n m is) owned)
    stays
