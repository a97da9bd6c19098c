-- The value of a tree goes through its parts.
use Rattle.std.specs.Prelude.{◌≡◌, map}
use Rattle.tree_nodes.specs.declared.vnode.VNode.{VNode}
use Rattle.tree_nodes.specs.declared.vnode.DynamicNode.{DynamicNode}
use Rattle.tree_nodes.specs.declared.vnode.DynamicNode.TheFolds.{fold-DynamicNode}
use Rattle.rt_model.specs.OneLog.{types}
use Rattle.rt_model.specs.Tree.{Tree, block, Slot, VComponent}
use Rattle.tree_mirror.specs.Mirror.{template_of, attribute_of, slots_from, slot_step, component_step, error_boundary_step, fragment_step, suspense_boundary_step, tree_step, tree_of}

module _ {P C Q V H T E L : Type 0} where
  -- what stands in a slot
  abbrev pub slot_of : DynamicNode P C Q V H T E L → Slot (types C Q V H T E L)
  slot_of = fold-DynamicNode P C Q V H T E L (Slot (types C Q V H T E L)) (VComponent (types C Q V H T E L))
      (VComponent (types C Q V H T E L)) (VComponent (types C Q V H T E L)) (VComponent (types C Q V H T E L)) (Tree (types C Q V H T E L))
      slot_step component_step error_boundary_step fragment_step suspense_boundary_step tree_step

  -- a tree is a block of its template, its attributes, and what stands in its slots
  abbrev pub TreeByParts : VNode P C Q V H T E L → Type 0
  TreeByParts tree = tree_of tree
      ≡ block (template_of tree.template) (map (map attribute_of) tree.dynamic_attrs) (slots_from (map slot_of tree.dynamic_nodes))
