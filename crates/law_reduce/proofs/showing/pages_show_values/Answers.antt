use Rattle.author_programs.specs.Pages.{meaning_of_pages}
use Rattle.law_reduce.proofs.Values.{pages_show_values}
use Rattle.law_reduce.proofs.showing.pages_show_values.Goals as goal

pub returns : goal.returns
returns g c = λ k a back lawful props inputs limits taken reports h.
    pages_show_values _
    (λ keeping pages. c.marks_are_run.ensures (meaning_of_pages keeping pages))
    (λ keeping pages. c.fed_fit.ensures (meaning_of_pages keeping pages))
    (λ keeping pages. c.components_last.ensures (meaning_of_pages keeping pages))
    k a back lawful props inputs limits taken reports h
