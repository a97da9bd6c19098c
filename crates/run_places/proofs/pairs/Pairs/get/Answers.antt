use Rattle.std.proofs.Common.{◌∙◌, ap}
use Rattle.std.specs.Prelude.{get_or, None}
use Rattle.run_places.proofs.pairs.Pairs.get.Goals as goal

pub returns : goal.returns
returns c = rw (← c.self.view_is) (c.number_at.ensures ∙ ap (λ xs. get_or xs c.args.spot None) c.as_slice.ensures.value ∙ c.self.invariant c.args.spot)
