use Rattle.author_programs.specs.Pages.{meaning_of_pages}
use Rattle.law_elm.proofs.Presenting.{elm_programs_show}
use Rattle.law_elm.proofs.folding.elm_programs_show.Goals as goal

pub returns : goal.returns
returns g c = λ k a back elm lawful props inputs limits taken reports h.
    elm_programs_show _
    (λ keeping pages. c.marks_are_run.ensures (meaning_of_pages keeping pages))
    (λ keeping pages. c.fed_fit.ensures (meaning_of_pages keeping pages))
    (λ keeping pages. c.components_last.ensures (meaning_of_pages keeping pages))
    (λ keeping pages. c.cells_are_drawn.ensures (meaning_of_pages keeping pages))
    (λ keeping pages. c.children_fit_slots.ensures (meaning_of_pages keeping pages))
    (λ keeping pages. c.root_stays.ensures (meaning_of_pages keeping pages))
    c.elm_programs_fold.ensures
    k a back elm lawful props inputs limits taken reports h
