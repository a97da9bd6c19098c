-- The logs are told, each to where nothing is owed: that computes.
use Rattle.std.proofs.Common.{List, [], ◌∷◌, refl, subst}
use Rattle.std.specs.Fmt.{digits}
use Rattle.std.specs.Prelude.{Some, None}
use Rattle.rt_author.specs.Pages.{meaning_of_pages}
use Rattle.rt_author.specs.Ran.{Ran}
use Rattle.rt_author.specs.Replay.{start}
use Rattle.rt_author.specs.Sequence.{go_on}
use Rattle.rt_author.specs.Told.{Told, tell_reports}
use Rattle.rt_author.specs.Words.{Pages}
use Rattle.rt_author.specs.World.{Application}
use Rattle.examples_template.proofs.Plain.{plain, same}
use Rattle.examples_template.specs.Meaning.{OwnTypes, keeping, nothing}
use Rattle.examples_template.specs.Sentences.{click, click_logs}
use Rattle.examples_template.proofs.laws.one_click.Goals as goal

-- the application whose trees compute
abbrev clear : Application OwnTypes
clear = meaning_of_pages keeping plain

-- what is told of the logs
abbrev told : List (Told OwnTypes)
told = elim (tell_reports clear (start clear nothing (click 1 ∷ [])) click_logs) as (λ z. List (Told OwnTypes)) [ None ↦ [] | Some rs ↦ rs ]

pub returns : goal.returns
unfolding digits go_on
returns k =
    λ limits taken reports ran.
    (k.rows_are_sessions.ensures clear nothing (click 1 ∷ []) click_logs told refl ((refl, refl), ((refl, refl), tt)) (refl, (refl, tt)) limits taken reports
    (subst (λ (a : Pages OwnTypes). Ran (meaning_of_pages keeping a) nothing (click 1 ∷ []) limits taken reports) same ran)).0
