use Rattle.author_programs.specs.Pages.{meaning_of_pages}
use Rattle.law_reduce.proofs.Elm.{own_pages_show}
use Rattle.law_reduce.proofs.showing.own_pages_show.Goals as goal

pub returns : goal.returns
returns g c = λ k a back lawful props inputs limits taken reports h.
    own_pages_show _
    (λ keeping pages. c.marks_are_run.ensures (meaning_of_pages keeping pages))
    (λ keeping pages. c.fed_fit.ensures (meaning_of_pages keeping pages))
    (λ keeping pages. c.components_last.ensures (meaning_of_pages keeping pages))
    (λ keeping pages. c.cells_are_drawn.ensures (meaning_of_pages keeping pages))
    k a back lawful props inputs limits taken reports h
