-- The place that is kept of a node tells its scope.
use Rattle.std.proofs.Common.{ap, ◌∙◌}
use Rattle.std.specs.Prelude.{Option, option_map}
use Rattle.rt_model.specs.Queries.{node_place}
use Rattle.run_state.specs.Mirror.{state_of}
use Rattle.run_outside.proofs.Holders.{scope_named, told_scope}
use Rattle.run_outside.proofs.input.holder_of.Goals as goal

pub returns-in-Some : goal.returns-in-Some
returns-in-Some g c = λ kept. ap (λ o. told_scope o) (c.in-Some.ensures.place kept) ∙ scope_named (node_place (state_of kept c.args.state.now) c.args.number)

pub returns-in-None : goal.returns-in-None
returns-in-None g c = λ kept. ap (λ o. told_scope o) (c.in-None.ensures.place kept) ∙ scope_named (node_place (state_of kept c.args.state.now) c.args.number)
