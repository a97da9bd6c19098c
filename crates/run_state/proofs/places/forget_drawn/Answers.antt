-- Where none stays, all of them go.
use Rattle.std.proofs.Common.{◌∙◌}
use Rattle.run_state.proofs.Behind.{none_stays}
use Rattle.run_state.proofs.places.forget_drawn.Goals as goal

pub returns-then-is_empty : goal.returns-then-is_empty
returns-then-is_empty c =
    c.forget_all.ensures
    ∙ none_stays c.args.nodes.now c.args.places.now c.args.drawn.now c.args.stay.now c.is_empty.result c.is_empty.ensures c.if-is_empty.true
