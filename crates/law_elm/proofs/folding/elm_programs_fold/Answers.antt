use Rattle.author_programs.specs.Pages.{meaning_of_pages}
use Rattle.law_elm.proofs.Programs.{elm_programs_fold}
use Rattle.law_elm.proofs.folding.elm_programs_fold.Goals as goal

pub returns : goal.returns
returns g c = λ k a elm lawful props inputs limits taken reports h.
    elm_programs_fold _
    (λ keeping pages. c.children_fit_slots.ensures (meaning_of_pages keeping pages))
    (λ keeping pages. c.root_stays.ensures (meaning_of_pages keeping pages))
    k a elm lawful props inputs limits taken reports h
