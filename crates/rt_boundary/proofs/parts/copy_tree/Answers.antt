-- The tree that was copied, or one placeholder.
use Rattle.std.proofs.Common.{◌∙◌, ap, sym}
use Rattle.tree_mirror.specs.Sealed.{tree_of}
use Rattle.run_state.proofs.Changed.{if_ok}
use Rattle.rt_scopes.proofs.TreesAnswered.{no_tree_shown, placeholder_is}
use Rattle.rt_boundary.proofs.parts.copy_tree.Goals as goal

pub returns-in-Ok : goal.returns-in-Ok
returns-in-Ok g c = rw c.in-Ok.is (if_ok c.copy.result c.copy.ensures (λ t is. ap tree_of is))

pub returns-in-Err : goal.returns-in-Err
returns-in-Err g c = rw c.in-Err.is (if_ok c.placeholder.result c.placeholder.ensures.tree (λ t is. placeholder_is t is ∙ sym (no_tree_shown g.row.P.Denot _ _ _ _ _ _ _ c.in-Err.field-0)))
