-- The index that is kept of a kind.
use Rattle.std.proofs.Common.{◌∙◌}
use Rattle.run_records.proofs.provisions.Provisions.place.Goals as goal

pub returns-in-Some : goal.returns-in-Some
returns-in-Some g c = rw (← c.self.view_is) (c.in-Some.ensures.value ∙ c.self.invariant c.args.kind)

pub returns-in-None : goal.returns-in-None
returns-in-None g c = rw (← c.self.view_is) (c.in-None.ensures.value ∙ c.self.invariant c.args.kind)
