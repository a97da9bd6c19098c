-- A template's step tells nothing, and an item's the next one.
use Rattle.std.proofs.Common.{◌∙◌, ◌++◌, ap, sym, map, take, append-nil}
use Rattle.run_places.specs.Places.{step_of}
use Rattle.run_named.specs.Named.{step_in, steps_at}
use Rattle.run_named.proofs.naming.told_on.Goals as goal

pub returns-in-Inside : goal.returns-in-Inside
returns-in-Inside c =
    sym (append-nil (map step_in (take c.args.told c.args.steps.now)))
    ∙ ap (λ s. map step_in (take c.args.told c.args.steps.now) ++ steps_at c.args.slot (step_of s)) (sym c.in-Inside.is)
