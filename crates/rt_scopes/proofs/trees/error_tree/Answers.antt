-- The error's text in its element, in a fragment, in a red element.
use Rattle.std.proofs.Common.{◌∙◌, [], ◌∷◌, map, ap}
use Rattle.std.specs.Prelude.{None, codes}
use Rattle.tree_nodes.specs.declared.vnode.DynamicNode.TheVariants as s
use Rattle.rt_model.specs.Tree.{element_node, slot_node, no_nodes, fragment_slot, text_slot, more_trees, no_trees}
use Rattle.tree_mirror.specs.Mirror.{attribute_in, trees_from}
use Rattle.tree_mirror.specs.Sealed.{tree_of}
use Rattle.tree_mirror.proofs.SealedTrees.{slot_Fragment, slot_Text}
use Rattle.run_state.proofs.Changed.{if_ok}
use Rattle.rt_scopes.proofs.TreesAnswered.{block_is, round_slot}
use Rattle.rt_scopes.proofs.trees.error_tree.Goals as goal

pub returns : goal.returns
returns g c =
    let inner =
    block_is c.in_ok-inner.inner c.in_ok-root.root (0 ∷ 0 ∷ []) (s.Text c.args.text) _ (text_slot c.args.text) c.in_ok-inner.ensures
    (round_slot c.in_ok-root.root (codes "pre") _ c.in_ok-root.ensures ∙ ap (λ given. element_node (codes "pre") None (map attribute_in given) (slot_node 0 no_nodes) no_nodes) c.empty.ensures.empty)
    (slot_Text g.row.P.Denot c.args.text) in
    if_ok c.block_of-2.result c.block_of-2.ensures
    (λ t is.
    block_is t c.in_ok-root-2.root (0 ∷ 0 ∷ []) (s.Fragment c.in_ok-items.items) _ _ is
    (round_slot c.in_ok-root-2.root (codes "div") _ c.in_ok-root-2.ensures
    ∙ ap (λ given. element_node (codes "div") None (map attribute_in given) (slot_node 0 no_nodes) no_nodes) (c.in_ok-red.ensures.one ∙ ap (λ a. a ∷ []) c.in_ok-fixed.ensures))
    (slot_Fragment c.in_ok-items.items ∙ ap (λ ts. fragment_slot (trees_from (map tree_of ts))) c.in_ok-items.ensures.one ∙ ap (λ m. fragment_slot (more_trees m no_trees)) inner))
