-- The mirror of a tree goes through its parts.
use Rattle.std.proofs.Common.{map, ◌≡◌}
use Rattle.tree_nodes.specs.declared.vnode.VNode.{VNode}
use Rattle.tree_nodes.specs.declared.vnode.DynamicNode.TheFolds.{fold_out-VNode, fold-DynamicNode}
use Rattle.rt_model.specs.OneLog.{types}
use Rattle.rt_model.specs.Tree.{Tree, block, Slot, VComponent}
use Rattle.tree_mirror.specs.Mirror.{template_of, attribute_of, slots_from, slot_step, component_step, error_boundary_step, fragment_step, suspense_boundary_step, tree_step, tree_of}

module _ {P C Q V H T E L : Type 0} where
  pub tree-out : (tree : VNode P C Q V H T E L) → tree_of tree ≡ block (template_of tree.template) (map (map attribute_of) tree.dynamic_attrs)
      (slots_from (map (fold-DynamicNode P C Q V H T E L (Slot (types C Q V H T E L)) (VComponent (types C Q V H T E L)) (VComponent (types C Q V H T E L)) (VComponent (types C Q V H T E L)) (VComponent (types C Q V H T E L)) (Tree (types C Q V H T E L)) slot_step component_step error_boundary_step fragment_step suspense_boundary_step tree_step) tree.dynamic_nodes))
  tree-out tree = fold_out-VNode P C Q V H T E L (Slot (types C Q V H T E L)) (VComponent (types C Q V H T E L)) (VComponent (types C Q V H T E L)) (VComponent (types C Q V H T E L)) (VComponent (types C Q V H T E L)) (Tree (types C Q V H T E L)) slot_step component_step error_boundary_step fragment_step suspense_boundary_step tree_step tree
