-- The value at the index of a kind.
use Rattle.std.proofs.Common.{◌∙◌}
use Rattle.run_records.proofs.KindPlaces.{value_at_place, no_value}
use Rattle.run_records.proofs.provisions.Provisions.get.Goals as goal

pub returns-in-Some : goal.returns-in-Some
returns-in-Some g c =
    let is = c.as_slice.ensures.items in
    record { value = c.value_at.ensures ∙ rw (is, c.self.view_is) (value_at_place c.args.self.now c.args.kind c.in-Some.at c.in-Some.ensures) }

pub returns-in-None : goal.returns-in-None
returns-in-None g c = record { value = no_value c.args.self.now c.args.kind c.in-None.ensures }
