-- The tree of the template of one slot.
use Rattle.run_state.proofs.Changed.{if_ok}
use Rattle.rt_scopes.proofs.TreesAnswered.{one_slot_is}
use Rattle.rt_scopes.proofs.trees.one_slot.Goals as goal

pub returns : goal.returns
returns g c = if_ok c.block_of.result c.block_of.ensures (λ t is. one_slot_is t c.args.value is)
