-- Trees and what stands in their slots at the mirror, one by one.
use Rattle.std.proofs.Common.{ℕ, List, ◌≡◌, sym, ap, ◌∙◌, map}
use Rattle.tree_nodes.specs.declared.vnode.DynamicNode.{DynamicNode}
use Rattle.tree_nodes.specs.declared.vnode.DynamicNode.TheVariants as slots
use Rattle.tree_nodes.specs.declared.vnode.DynamicNode.TheOpen.{DynamicNode-F}
use Rattle.tree_nodes.specs.declared.vnode.DynamicNode.TheFolds.{fold_out-VNode, fold-roll-DynamicNode}
use Rattle.tree_nodes.specs.declared.vnode.VComponent.{VComponent as CodeComponent}
use Rattle.tree_nodes.specs.declared.vnode.VNode.{VNode}
use Rattle.rt_model.specs.OneLog.{types}
use Rattle.rt_model.specs.Tree.{Tree, block, Slot, text_slot, placeholder_slot, component_slot, fragment_slot, VComponent}
use Rattle.tree_mirror.specs.Mirror.{attribute_of, slots_from, trees_from, slot_step, component_step, error_boundary_step, fragment_step, suspense_boundary_step, tree_step}
use Rattle.tree_mirror.specs.Sealed.{node_before, template_of, tree_of, slot_of, component_of}

-- those that name no type of the trees' own
module _ {C Q V H T E L : Type 0} (P : Type 0) where
  pub slot_Text : (text : List ℕ) → slot_of {P = P} {C = C} {Q = Q} {V = V} {H = H} {T = T} {E = E} {L = L} (slots.Text text) ≡ text_slot text
  unfolding slot_of
  slot_Text text =
      ap slot_of (sym (slots.rolls-Text text)) ∙
      fold-roll-DynamicNode P C Q V H T E L (Slot (types C Q V H T E L)) (VComponent (types C Q V H T E L)) (VComponent (types C Q V H T E L)) (VComponent (types C Q V H T E L)) (VComponent (types C Q V H T E L)) (Tree (types C Q V H T E L)) slot_step component_step error_boundary_step fragment_step suspense_boundary_step tree_step (DynamicNode-F.Text text)

  pub slot_Placeholder : slot_of {P = P} {C = C} {Q = Q} {V = V} {H = H} {T = T} {E = E} {L = L} slots.Placeholder ≡ placeholder_slot
  unfolding slot_of
  slot_Placeholder =
      ap slot_of (sym slots.rolls-Placeholder) ∙
      fold-roll-DynamicNode P C Q V H T E L (Slot (types C Q V H T E L)) (VComponent (types C Q V H T E L)) (VComponent (types C Q V H T E L)) (VComponent (types C Q V H T E L)) (VComponent (types C Q V H T E L)) (Tree (types C Q V H T E L)) slot_step component_step error_boundary_step fragment_step suspense_boundary_step tree_step DynamicNode-F.Placeholder

module _ {P C Q V H T E L : Type 0} where
  pub tree_out : (tree : VNode P C Q V H T E L) → tree_of tree ≡ block (template_of tree.template) (map (map attribute_of) tree.dynamic_attrs) (slots_from (map slot_of tree.dynamic_nodes))
  unfolding tree_of slot_of node_before
  tree_out tree =
      fold_out-VNode P C Q V H T E L (Slot (types C Q V H T E L)) (VComponent (types C Q V H T E L)) (VComponent (types C Q V H T E L)) (VComponent (types C Q V H T E L)) (VComponent (types C Q V H T E L)) (Tree (types C Q V H T E L)) slot_step component_step error_boundary_step fragment_step suspense_boundary_step tree_step tree

  pub slot_Component : (c : CodeComponent P C Q V H T E L) → slot_of (slots.Component c) ≡ component_slot (component_of c)
  unfolding slot_of component_of
  slot_Component c =
      ap slot_of (sym (slots.rolls-Component c)) ∙
      fold-roll-DynamicNode P C Q V H T E L (Slot (types C Q V H T E L)) (VComponent (types C Q V H T E L)) (VComponent (types C Q V H T E L)) (VComponent (types C Q V H T E L)) (VComponent (types C Q V H T E L)) (Tree (types C Q V H T E L)) slot_step component_step error_boundary_step fragment_step suspense_boundary_step tree_step (DynamicNode-F.Component c)

  pub slot_Fragment : (trees : List (VNode P C Q V H T E L)) → slot_of (slots.Fragment trees) ≡ fragment_slot (trees_from (map tree_of trees))
  unfolding slot_of tree_of
  slot_Fragment trees =
      ap slot_of (sym (slots.rolls-Fragment trees)) ∙
      fold-roll-DynamicNode P C Q V H T E L (Slot (types C Q V H T E L)) (VComponent (types C Q V H T E L)) (VComponent (types C Q V H T E L)) (VComponent (types C Q V H T E L)) (VComponent (types C Q V H T E L)) (Tree (types C Q V H T E L)) slot_step component_step error_boundary_step fragment_step suspense_boundary_step tree_step (DynamicNode-F.DynamicNode::Fragment trees)
