use Rattle.author_programs.specs.Pages.{meaning_of_pages}
use Rattle.law_reduce.proofs.Reports.{unrun_reads_stay}
use Rattle.law_reduce.proofs.keeping.unrun_reads_stay.Goals as goal

pub returns : goal.returns
returns g c = λ k a props inputs limits taken reports ran.
    unrun_reads_stay _ (λ keeping pages. c.marks_are_run.ensures (meaning_of_pages keeping pages)) k a props inputs limits taken reports ran
