-- Neither is so where the answer is no.
use Rattle.std.proofs.Common.{false, sym, ◌∙◌}
use Rattle.std.specs.Prelude.{is_some}
use Rattle.std.proofs.lemmas.Bool.{both_ways}
use Rattle.rt_lemmas.proofs.Options.{none_of as no_number}
use Rattle.run_state.proofs.state.State.is_at_work.Goals as goal

pub returns-then-sees : goal.returns-then-sees
returns-then-sees g c = record { unseen = λ no. sym c.sees.ensures.seen ∙ no; no_tasks = λ no. absurd (both_ways c.sees.result no c.if-sees.true) }

pub returns-else-sees : goal.returns-else-sees
returns-else-sees g c =
    record {
      unseen = λ no. sym c.sees.ensures.seen ∙ c.if-sees.false;
      no_tasks = λ no. sym c.first_task.ensures.first ∙ no_number c.first_task.result (sym c.is_some.ensures ∙ no);
    }
