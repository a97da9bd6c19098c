use Rattle.author_programs.specs.Pages.{meaning_of_pages}
use Rattle.law_reduce.proofs.Runs.{runs_are_given}
use Rattle.law_reduce.proofs.keeping.runs_are_given.Goals as goal

pub returns : goal.returns
returns g c = λ k a lawful limits props inputs m v moves s x comp p own known leads alive none stays there page keeps same runs last e.
    runs_are_given _
    (λ keeping pages. c.fed_fit.ensures (meaning_of_pages keeping pages))
    (λ keeping pages. c.components_last.ensures (meaning_of_pages keeping pages))
    k a lawful limits props inputs m v moves s x comp p own known leads alive none stays there page keeps same runs last e
