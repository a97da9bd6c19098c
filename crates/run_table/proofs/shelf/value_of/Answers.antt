-- The row that answers has the value.
use Rattle.std.proofs.Common.{sym, ◌∙◌}
use Rattle.run_table.proofs.shelf.value_of.Goals as goal

pub returns-in-Some : goal.returns-in-Some
returns-in-Some g c = c.as_ref.ensures.value ∙ c.in-Some.ensures.value c.index-rows-index.result

pub returns-in-None : goal.returns-in-None
returns-in-None g c = sym c.in-None.ensures.absent
