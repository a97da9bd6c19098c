use Rattle.author_programs.specs.Pages.{meaning_of_pages}
use Rattle.law_elm.proofs.Ending.{roots_last}
use Rattle.law_elm.proofs.rooting.roots_last.Goals as goal

pub returns : goal.returns
returns g c = λ k a calm lawful props inputs limits taken reports h.
    roots_last _
    (λ keeping pages. c.children_fit_slots.ensures (meaning_of_pages keeping pages))
    (λ keeping pages. c.root_stays.ensures (meaning_of_pages keeping pages))
    k a calm lawful props inputs limits taken reports h
