-- The report leaves what the click makes of the number.
use Rattle.std.proofs.Common.{List, ◌∷◌, subst, ◌∙◌}
use Rattle.rt_author.specs.Reduces.{EachReduces}
use Rattle.rt_author.specs.Told.{Told}
use Rattle.examples_template.specs.Meaning.{OwnTypes, answers, keeping, nothing}
use Rattle.examples_template.specs.Sentences.{click}
use Rattle.examples_template.proofs.laws.report_raises.Goals as goal

pub returns : goal.returns
returns k =
    λ element cell inputs limits taken build report reports first second rest row ran told one there stays.
    let each = subst (λ (ts : List (Told OwnTypes)). EachReduces answers (click element ∷ inputs) (build ∷ report ∷ reports) ts) told
    (k.reports_reduce.ensures keeping answers nothing (click element ∷ inputs) limits taken (build ∷ report ∷ reports) ran) in
    each.0 cell row there stays
    ∙ k.click_raises.ensures first.machine.state element cell row one there
