use Rattle.std.proofs.Common.{ap, ◌∙◌}
use Rattle.std.specs.Prelude.{OnOk, Result, Ok, Err}
use Rattle.run_answers.specs.Barred.{every_task_passed}
use Rattle.run_answers.proofs.passing.polling_rest.Goals as goal

pub returns : goal.returns
returns g c = record { rests = on c.pass_tasks.result c.pass_tasks.ensures.passed (λ passed kept. passed kept ∙ ap (λ w. every_task_passed w) (c.in_ok-look.ensures.looked kept)) }
  where
    on : {A E : Type 0} {X Y : Type 0} (r : Result A E) → OnOk r X → (X → Y) → OnOk r Y
    on (Ok a) h f = f h
    on (Err e) h f = tt
