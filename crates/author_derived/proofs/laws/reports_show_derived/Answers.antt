-- A law.
use Rattle.author_deriving.specs.Task.{as_task}
use Rattle.author_derived.specs.Derived.{formulas_of, meaning_of_derived}
use Rattle.author_derived.proofs.Telling.{reports_show_derived}
use Rattle.author_derived.proofs.laws.reports_show_derived.Goals as goal

pub returns : goal.returns
returns g c = reports_show_derived _ _ _ _ _ _ (λ k a. c.sessions_keep_memos.ensures (meaning_of_derived k a) (formulas_of a) (λ task. as_task task))
