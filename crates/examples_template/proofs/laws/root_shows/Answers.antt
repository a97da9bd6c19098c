-- The one cell of the button's scope is all that its page reads, and the application is an Elm program.
use Rattle.std.proofs.Common.{ℕ, List, ◌∷◌, refl, subst}
use Rattle.rt_author.specs.Elm.{Owned}
use Rattle.rt_author.specs.Programs.{ProgramShows}
use Rattle.rt_author.specs.Told.{Told}
use Rattle.examples_template.proofs.Numbers.{alone, among_itself}
use Rattle.examples_template.proofs.Unfailing.{is_elm}
use Rattle.examples_template.specs.Meaning.{OwnTypes, answers, decides, keeping, nothing}
use Rattle.examples_template.proofs.laws.root_shows.Goals as goal

pub returns : goal.returns
returns k =
    λ inputs limits taken build reports first rest s h told root run owned.
    let n : ℕ = run.first.given.given.next.cells in
    let shows = subst (λ (ts : List (Told OwnTypes)). ProgramShows keeping answers nothing inputs (build ∷ reports) ts) told
    (k.elm_programs_show.ensures keeping answers (λ i. refl) is_elm (k.pages_are_lawful.ensures keeping answers decides) nothing inputs limits taken (build ∷ reports) h) in
    shows s nothing root run (λ q. (among_itself n, tt)) (λ m is. subst (λ (i : ℕ). Owned first.machine.state i s) (alone n m is) owned)
