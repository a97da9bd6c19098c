-- A fragment of the children, or one placeholder.
use Rattle.std.proofs.Common.{◌∙◌, [], ◌∷◌, map, ap, sym}
use Rattle.rt_model.specs.Tree.{fragment_slot, one_slot}
use Rattle.tree_mirror.specs.Mirror.{trees_from}
use Rattle.tree_mirror.specs.Sealed.{tree_of}
use Rattle.tree_mirror.proofs.SealedTrees.{slot_Fragment}
use Rattle.run_state.proofs.Changed.{if_ok}
use Rattle.rt_scopes.proofs.TreesAnswered.{no_children, placeholder_is}
use Rattle.rt_scopes.proofs.trees.children_tree.Goals as goal

pub returns-in_ok-items-in-Ok : goal.returns-in_ok-items-in-Ok
returns-in_ok-items-in-Ok g c =
    rw c.in-Ok.is
    (if_ok c.one_slot.result c.one_slot.ensures
    (λ t is.
    is
    ∙ ap one_slot (slot_Fragment c.in_ok-items-in-Ok.items)
    ∙ ap (λ ts. one_slot (fragment_slot (trees_from (map tree_of ts)))) (c.in_ok-items-in-Ok.ensures.one ∙ ap (λ x. x ∷ []) c.in_ok-copy-in-Ok.ensures)))

pub returns-in-Err : goal.returns-in-Err
returns-in-Err g c = rw c.in-Err.is (if_ok c.placeholder.result c.placeholder.ensures.tree (λ t is. placeholder_is t is ∙ sym (no_children g.row.P.Denot _ _ _ _ _ _ _ c.in-Err.field-0)))
