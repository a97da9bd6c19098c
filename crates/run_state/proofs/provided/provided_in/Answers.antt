use Rattle.std.proofs.Common.{◌∙◌}
use Rattle.run_records.proofs.KindPlaces.{provided-is}
use Rattle.run_state.proofs.provided.provided_in.Goals as goal

pub returns : goal.returns
returns g c = c.get.ensures.value ∙ provided-is c.args.contexts.now c.args.kind
