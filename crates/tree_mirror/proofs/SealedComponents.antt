-- Components at the mirror, one by one; of the built-in ones what their children are is left in one word.
use Rattle.std.proofs.Common.{[], ◌≡◌, sym, ap, ◌∙◌}
use Rattle.std.specs.Prelude.{Option, None}
use Rattle.tree_nodes.specs.declared.vnode.VComponent.TheVariants as components
use Rattle.tree_nodes.specs.declared.vnode.FragmentProps.{FragmentProps}
use Rattle.tree_nodes.specs.declared.vnode.ErrorBoundaryProps.{ErrorBoundaryProps}
use Rattle.tree_nodes.specs.declared.vnode.SuspenseBoundaryProps.{SuspenseBoundaryProps}
use Rattle.tree_nodes.specs.declared.vnode.RootProps.{RootProps}
use Rattle.tree_nodes.specs.declared.vnode.DynamicNode.TheOpen.{VComponent-F}
use Rattle.tree_nodes.specs.declared.vnode.DynamicNode.TheFolds.{fold-FragmentProps, fold-ErrorBoundaryProps, fold-SuspenseBoundaryProps, fold-roll-VComponent, fold_out-FragmentProps, fold_out-ErrorBoundaryProps, fold_out-SuspenseBoundaryProps}
use Rattle.rt_model.specs.OneLog.{types}
use Rattle.rt_model.specs.Tree.{Types, Tree, Slot, VComponent, Own, Root, Fragment, ErrorBoundary, SuspenseBoundary, Element, failed}
use Rattle.tree_mirror.specs.Mirror.{slot_step, component_step, error_boundary_step, fragment_step, suspense_boundary_step, tree_step}
use Rattle.tree_mirror.specs.Sealed.{component_of}

module _ {K : Types} where
  -- the children of a built-in component
  abbrev children_in : VComponent K → Element K
  children_in (Fragment children) = children
  children_in (ErrorBoundary children handler) = children
  children_in (SuspenseBoundary children fallback) = children
  children_in (Own component props) = failed (record { serial = 0; text = [] })
  children_in (Root component props) = failed (record { serial = 0; text = [] })

  -- what a boundary shows in their place
  abbrev handler_in : VComponent K → Option (K.Component × K.Props)
  handler_in (ErrorBoundary children handler) = handler
  handler_in (SuspenseBoundary children fallback) = fallback
  handler_in (Own component props) = None
  handler_in (Root component props) = None
  handler_in (Fragment children) = None

  a_fragment : (c : VComponent K) (e : Element K) → c ≡ Fragment e → c ≡ Fragment (children_in c)
  a_fragment c e h = h ∙ ap (λ x. Fragment (children_in x)) (sym h)

  an_error_boundary : (c : VComponent K) (e : Element K) (o : Option (K.Component × K.Props)) → c ≡ ErrorBoundary e o → c ≡ ErrorBoundary (children_in c) (handler_in c)
  an_error_boundary c e o h = h ∙ ap (λ x. ErrorBoundary (children_in x) (handler_in x)) (sym h)

  a_suspense_boundary : (c : VComponent K) (e : Element K) (o : Option (K.Component × K.Props)) → c ≡ SuspenseBoundary e o → c ≡ SuspenseBoundary (children_in c) (handler_in c)
  a_suspense_boundary c e o h = h ∙ ap (λ x. SuspenseBoundary (children_in x) (handler_in x)) (sym h)

-- one that names no type of the trees' own
module _ {C Q V H T E L : Type 0} (P : Type 0) where
  pub component_App : (a : C) (q : Q) → component_of {P = P} {C = C} {Q = Q} {V = V} {H = H} {T = T} {E = E} {L = L} (components.App a q) ≡ Own a q
  unfolding component_of
  component_App a q =
      ap component_of (sym (components.rolls-App a q)) ∙
      fold-roll-VComponent P C Q V H T E L (Slot (types C Q V H T E L)) (VComponent (types C Q V H T E L)) (VComponent (types C Q V H T E L)) (VComponent (types C Q V H T E L)) (VComponent (types C Q V H T E L)) (Tree (types C Q V H T E L)) slot_step component_step error_boundary_step fragment_step suspense_boundary_step tree_step (VComponent-F.App a q)

module _ {P C Q V H T E L : Type 0} where
  pub component_Root : (props : RootProps P C Q V H T E L) → component_of (components.Root props) ≡ Root props.component props.props
  unfolding component_of
  component_Root props =
      ap component_of (sym (components.rolls-Root props)) ∙
      fold-roll-VComponent P C Q V H T E L (Slot (types C Q V H T E L)) (VComponent (types C Q V H T E L)) (VComponent (types C Q V H T E L)) (VComponent (types C Q V H T E L)) (VComponent (types C Q V H T E L)) (Tree (types C Q V H T E L)) slot_step component_step error_boundary_step fragment_step suspense_boundary_step tree_step (VComponent-F.Root props)

  -- the props at the mirror
  unfoldable pub fragment_seen : FragmentProps P C Q V H T E L → VComponent (types C Q V H T E L)
  fragment_seen props = fold-FragmentProps P C Q V H T E L (Slot (types C Q V H T E L)) (VComponent (types C Q V H T E L)) (VComponent (types C Q V H T E L)) (VComponent (types C Q V H T E L)) (VComponent (types C Q V H T E L)) (Tree (types C Q V H T E L)) slot_step component_step error_boundary_step fragment_step suspense_boundary_step tree_step props

  pub component_Fragment : (props : FragmentProps P C Q V H T E L) → component_of (components.Fragment props) ≡ Fragment (children_in (fragment_seen props))
  unfolding component_of fragment_seen
  component_Fragment props =
      ap component_of (sym (components.rolls-Fragment props)) ∙
      fold-roll-VComponent P C Q V H T E L (Slot (types C Q V H T E L)) (VComponent (types C Q V H T E L)) (VComponent (types C Q V H T E L)) (VComponent (types C Q V H T E L)) (VComponent (types C Q V H T E L)) (Tree (types C Q V H T E L)) slot_step component_step error_boundary_step fragment_step suspense_boundary_step tree_step (VComponent-F.VComponent::Fragment props) ∙
      a_fragment _ _ (fold_out-FragmentProps P C Q V H T E L (Slot (types C Q V H T E L)) (VComponent (types C Q V H T E L)) (VComponent (types C Q V H T E L)) (VComponent (types C Q V H T E L)) (VComponent (types C Q V H T E L)) (Tree (types C Q V H T E L)) slot_step component_step error_boundary_step fragment_step suspense_boundary_step tree_step props)

  -- the props at the mirror
  unfoldable pub error_boundary_seen : ErrorBoundaryProps P C Q V H T E L → VComponent (types C Q V H T E L)
  error_boundary_seen props = fold-ErrorBoundaryProps P C Q V H T E L (Slot (types C Q V H T E L)) (VComponent (types C Q V H T E L)) (VComponent (types C Q V H T E L)) (VComponent (types C Q V H T E L)) (VComponent (types C Q V H T E L)) (Tree (types C Q V H T E L)) slot_step component_step error_boundary_step fragment_step suspense_boundary_step tree_step props

  pub component_ErrorBoundary : (props : ErrorBoundaryProps P C Q V H T E L) → component_of (components.ErrorBoundary props) ≡ ErrorBoundary (children_in (error_boundary_seen props)) (handler_in (error_boundary_seen props))
  unfolding component_of error_boundary_seen
  component_ErrorBoundary props =
      ap component_of (sym (components.rolls-ErrorBoundary props)) ∙
      fold-roll-VComponent P C Q V H T E L (Slot (types C Q V H T E L)) (VComponent (types C Q V H T E L)) (VComponent (types C Q V H T E L)) (VComponent (types C Q V H T E L)) (VComponent (types C Q V H T E L)) (Tree (types C Q V H T E L)) slot_step component_step error_boundary_step fragment_step suspense_boundary_step tree_step (VComponent-F.ErrorBoundary props) ∙
      an_error_boundary _ _ _ (fold_out-ErrorBoundaryProps P C Q V H T E L (Slot (types C Q V H T E L)) (VComponent (types C Q V H T E L)) (VComponent (types C Q V H T E L)) (VComponent (types C Q V H T E L)) (VComponent (types C Q V H T E L)) (Tree (types C Q V H T E L)) slot_step component_step error_boundary_step fragment_step suspense_boundary_step tree_step props)

  -- the props at the mirror
  unfoldable pub suspense_boundary_seen : SuspenseBoundaryProps P C Q V H T E L → VComponent (types C Q V H T E L)
  suspense_boundary_seen props = fold-SuspenseBoundaryProps P C Q V H T E L (Slot (types C Q V H T E L)) (VComponent (types C Q V H T E L)) (VComponent (types C Q V H T E L)) (VComponent (types C Q V H T E L)) (VComponent (types C Q V H T E L)) (Tree (types C Q V H T E L)) slot_step component_step error_boundary_step fragment_step suspense_boundary_step tree_step props

  pub component_SuspenseBoundary : (props : SuspenseBoundaryProps P C Q V H T E L) → component_of (components.SuspenseBoundary props) ≡ SuspenseBoundary (children_in (suspense_boundary_seen props)) (handler_in (suspense_boundary_seen props))
  unfolding component_of suspense_boundary_seen
  component_SuspenseBoundary props =
      ap component_of (sym (components.rolls-SuspenseBoundary props)) ∙
      fold-roll-VComponent P C Q V H T E L (Slot (types C Q V H T E L)) (VComponent (types C Q V H T E L)) (VComponent (types C Q V H T E L)) (VComponent (types C Q V H T E L)) (VComponent (types C Q V H T E L)) (Tree (types C Q V H T E L)) slot_step component_step error_boundary_step fragment_step suspense_boundary_step tree_step (VComponent-F.SuspenseBoundary props) ∙
      a_suspense_boundary _ _ _ (fold_out-SuspenseBoundaryProps P C Q V H T E L (Slot (types C Q V H T E L)) (VComponent (types C Q V H T E L)) (VComponent (types C Q V H T E L)) (VComponent (types C Q V H T E L)) (VComponent (types C Q V H T E L)) (Tree (types C Q V H T E L)) slot_step component_step error_boundary_step fragment_step suspense_boundary_step tree_step props)
