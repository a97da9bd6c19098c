-- What is written at a slot that the old tree doesn't have.
use Rattle.std.proofs.Common.{[], ◌≡◌, map, refl, ap, ◌∙◌, sym}
use Rattle.tree_nodes.specs.declared.vnode.DynamicNode.{DynamicNode}
use Rattle.tree_nodes.specs.declared.vnode.DynamicNode.TheOpen.{DynamicNode-F}
use Rattle.tree_nodes.specs.declared.vnode.DynamicNode.TheVariants as values
use Rattle.tree_nodes.specs.declared.vnode.DynamicNode.TheViews.{out-DynamicNode, roll-DynamicNode, roll-out-DynamicNode}
use Rattle.tree_nodes.specs.declared.vnode.ErrorBoundaryProps.{ErrorBoundaryProps}
use Rattle.tree_nodes.specs.declared.vnode.FragmentProps.{FragmentProps}
use Rattle.tree_nodes.specs.declared.vnode.SuspenseBoundaryProps.{SuspenseBoundaryProps}
use Rattle.tree_nodes.specs.declared.vnode.VComponent.{VComponent}
use Rattle.tree_nodes.specs.declared.vnode.VNode.{VNode}
use Rattle.rt_model.specs.OneLog.{types}
use Rattle.rt_model.specs.Tree.{Place, Slot, text_slot, placeholder_slot, component_slot, fragment_slot, no_trees, more_trees}
use Rattle.rt_model.specs.World.{Application}
use Rattle.tree_mirror.specs.Mirror.{trees_from}
use Rattle.tree_mirror.specs.Sealed.{component_of, slot_of, tree_of}
use Rattle.tree_mirror.proofs.SealedTrees.{slot_Component, slot_Fragment, slot_Placeholder, slot_Text}
use Rattle.tree_marks.specs.Marks.{lone, slot_way}
use Rattle.tree_marks.specs.Writing.{mark_writes}
use Rattle.rt_tree.specs.declared.patch.Patch.{Patch}
use Rattle.rt_tree.specs.Served.{both_now}

module _ {P C Q V H T E L : Type 0} (app : Application (types C Q V H T E L)) (p : Patch P C Q V H T E L) (place : Place) where
  -- a placeholder is written as if it had stayed
  pub placeholder_alone : (next : DynamicNode P C Q V H T E L) → next ≡ values.Placeholder → mark_writes app (both_now p) (lone place (slot_of next)) ≡ []
  placeholder_alone next is = ap (λ (v : Slot (types C Q V H T E L)). mark_writes app (both_now p) (lone place v)) (ap slot_of is ∙ slot_Placeholder P)

  -- what stands in the place of none
  abbrev nothing : DynamicNode P C Q V H T E L
  nothing = values.Placeholder

  nothing_is : slot_of nothing ≡ placeholder_slot
  nothing_is = slot_Placeholder P

  by_slot : (v : Slot (types C Q V H T E L)) → (v ≡ placeholder_slot → ⊥) → mark_writes app (both_now p) (lone place v) ≡ mark_writes app (both_now p) (slot_way place v placeholder_slot)
  by_slot (text_slot t) other = refl
  by_slot placeholder_slot other = absurd (other refl)
  by_slot (component_slot c) other = refl
  by_slot (fragment_slot no_trees) other = refl
  by_slot (fragment_slot (more_trees t ts)) other = refl

  -- anything else gives way to none
  pub alone_writes : (next : DynamicNode P C Q V H T E L) → (next ≡ values.Placeholder → ⊥)
      → mark_writes app (both_now p) (lone place (slot_of next)) ≡ mark_writes app (both_now p) (slot_way place (slot_of next) (slot_of nothing))
  alone_writes next other = by (out-DynamicNode P C Q V H T E L next) (roll-out-DynamicNode P C Q V H T E L next)
    where
      at_end : (v : Slot (types C Q V H T E L)) → slot_of next ≡ v → (v ≡ placeholder_slot → ⊥)
          → mark_writes app (both_now p) (lone place (slot_of next)) ≡ mark_writes app (both_now p) (slot_way place (slot_of next) (slot_of nothing))
      at_end v is apart =
          ap (λ (w : Slot (types C Q V H T E L)). mark_writes app (both_now p) (lone place w)) is
          ∙ by_slot v apart
          ∙ (λ t. mark_writes app (both_now p) (slot_way place (sym is t) (sym nothing_is t)))

      by : (y : DynamicNode-F P C Q V H T E L (DynamicNode P C Q V H T E L) (VComponent P C Q V H T E L) (ErrorBoundaryProps P C Q V H T E L) (FragmentProps P C Q V H T E L) (SuspenseBoundaryProps P C Q V H T E L) (VNode P C Q V H T E L))
          → roll-DynamicNode P C Q V H T E L y ≡ next
          → mark_writes app (both_now p) (lone place (slot_of next)) ≡ mark_writes app (both_now p) (slot_way place (slot_of next) (slot_of nothing))
      by (DynamicNode-F.Text t) is = at_end (text_slot t) (ap slot_of (sym is ∙ values.rolls-Text t) ∙ slot_Text P t) (λ h. let absurdity : ⊥ = cc h in absurdity)
      by DynamicNode-F.Placeholder is = absurd (other (sym is ∙ values.rolls-Placeholder))
      by (DynamicNode-F.Component c) is =
          at_end (component_slot (component_of c)) (ap slot_of (sym is ∙ values.rolls-Component c) ∙ slot_Component c) (λ h. let absurdity : ⊥ = cc h in absurdity)
      by (DynamicNode-F.DynamicNode::Fragment ts) is =
          at_end (fragment_slot (trees_from (map tree_of ts))) (ap slot_of (sym is ∙ values.rolls-Fragment ts) ∙ slot_Fragment ts) (λ h. let absurdity : ⊥ = cc h in absurdity)
