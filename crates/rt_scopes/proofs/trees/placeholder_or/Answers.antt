-- One placeholder in the place of a tree.
use Rattle.std.proofs.Common.{◌∙◌, sym}
use Rattle.run_state.proofs.Changed.{if_ok}
use Rattle.rt_scopes.proofs.TreesAnswered.{no_tree_shown, placeholder_is}
use Rattle.rt_scopes.proofs.trees.placeholder_or.Goals as goal

pub returns : goal.returns
returns g c = rw c.in-Err.is (if_ok c.placeholder.result c.placeholder.ensures.tree (λ t is. placeholder_is t is ∙ sym (no_tree_shown g.row.P.Denot _ _ _ _ _ _ _ c.in-Err.field-0)))
