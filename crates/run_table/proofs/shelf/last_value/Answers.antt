use Rattle.std.proofs.Common.{ap, sym, ◌∙◌}
use Rattle.std.specs.Option.{option_copied}
use Rattle.run_table.proofs.Lives.{last-if}
use Rattle.run_table.proofs.shelf.last_value.Goals as goal

pub returns-in-Some : goal.returns-in-Some
returns-in-Some g c =
    last-if c.args.rows.now c.in-Some.last.now (option_copied c.as_ref.result) c.in-Some.ensures.item.3.0
    (ap (λ r. r.1) (sym (c.in-Some.ensures.item.3.1 c.in-Some.last.now)) ∙ sym c.as_ref.ensures.value)
