-- The built-in components at the mirror, with what their children and their handlers are; and components by what they are.
use Rattle.std.proofs.Common.{ℕ, List, ◌≡◌, Result, Ok, Err, sym, ap, ◌∙◌, subst}
use Rattle.tree_nodes.specs.declared.error.RenderError.{RenderError}
use Rattle.tree_nodes.specs.declared.error.RenderError.TheVariants as errors
use Rattle.tree_nodes.specs.declared.vnode.VNode.{VNode}
use Rattle.tree_nodes.specs.declared.vnode.VComponent.{VComponent as CodeComponent}
use Rattle.tree_nodes.specs.declared.vnode.VComponent.TheVariants as c
use Rattle.tree_nodes.specs.declared.vnode.FragmentProps.{FragmentProps}
use Rattle.tree_nodes.specs.declared.vnode.ErrorBoundaryProps.{ErrorBoundaryProps}
use Rattle.tree_nodes.specs.declared.vnode.SuspenseBoundaryProps.{SuspenseBoundaryProps}
use Rattle.tree_nodes.specs.declared.vnode.RootProps.{RootProps}
use Rattle.tree_nodes.specs.declared.vnode.ErrorHandler.{ErrorHandler}
use Rattle.tree_nodes.specs.declared.vnode.Fallback.{Fallback}
use Rattle.tree_nodes.specs.declared.vnode.DynamicNode.{DynamicNode}
use Rattle.tree_nodes.specs.declared.vnode.DynamicNode.TheVariants as s
use Rattle.tree_nodes.specs.declared.vnode.DynamicNode.TheOpen.{DynamicNode-F, VComponent-F}
use Rattle.tree_nodes.specs.declared.vnode.DynamicNode.TheViews.{out-DynamicNode, roll-DynamicNode, roll-out-DynamicNode, out-VComponent, roll-VComponent, roll-out-VComponent, out-FragmentProps, roll-FragmentProps, roll-out-FragmentProps, out-ErrorBoundaryProps, roll-ErrorBoundaryProps, roll-out-ErrorBoundaryProps, out-SuspenseBoundaryProps, roll-SuspenseBoundaryProps, roll-out-SuspenseBoundaryProps}
use Rattle.tree_nodes.specs.declared.vnode.DynamicNode.TheFolds.{fold-FragmentProps, fold-ErrorBoundaryProps, fold-SuspenseBoundaryProps, fold-roll-VComponent, fold-roll-FragmentProps, fold-roll-ErrorBoundaryProps, fold-roll-SuspenseBoundaryProps}
use Rattle.rt_model.specs.OneLog.{types}
use Rattle.rt_model.specs.Tree.{Tree, Slot, VComponent, Fragment, ErrorBoundary, SuspenseBoundary}
use Rattle.tree_mirror.specs.Mirror.{slot_step, component_step, error_boundary_step, fragment_step, suspense_boundary_step, tree_step, handler_of, fallback_of}
use Rattle.tree_mirror.specs.Sealed.{component_of, element_of, tree_of}

module _ {P C Q V H T E L : Type 0} where
  value-layer : (R : DynamicNode P C Q V H T E L → Type 0) → ((text : List ℕ) → R (s.Text text)) → R s.Placeholder → ((component : CodeComponent P C Q V H T E L) → R (s.Component component)) → ((trees : List (VNode P C Q V H T E L)) → R (s.Fragment trees))
      → (y : DynamicNode-F P C Q V H T E L (DynamicNode P C Q V H T E L) (CodeComponent P C Q V H T E L) (ErrorBoundaryProps P C Q V H T E L) (FragmentProps P C Q V H T E L) (SuspenseBoundaryProps P C Q V H T E L) (VNode P C Q V H T E L)) → R (roll-DynamicNode P C Q V H T E L y)
  value-layer R f g h k (DynamicNode-F.Text text) = subst R (sym (s.rolls-Text text)) (f text)
  value-layer R f g h k DynamicNode-F.Placeholder = subst R (sym s.rolls-Placeholder) g
  value-layer R f g h k (DynamicNode-F.Component component) = subst R (sym (s.rolls-Component component)) (h component)
  value-layer R f g h k (DynamicNode-F.DynamicNode::Fragment trees) = subst R (sym (s.rolls-Fragment trees)) (k trees)

  -- what stands in a slot, by what it is
  pub by-value : (R : DynamicNode P C Q V H T E L → Type 0) → ((text : List ℕ) → R (s.Text text)) → R s.Placeholder → ((component : CodeComponent P C Q V H T E L) → R (s.Component component)) → ((trees : List (VNode P C Q V H T E L)) → R (s.Fragment trees))
      → (value : DynamicNode P C Q V H T E L) → R value
  by-value R f g h k value = subst R (roll-out-DynamicNode P C Q V H T E L value) (value-layer R f g h k (out-DynamicNode P C Q V H T E L value))

  component-layer : (R : CodeComponent P C Q V H T E L → Type 0) → ((a : C) (q : Q) → R (c.App a q)) → ((props : FragmentProps P C Q V H T E L) → R (c.Fragment props)) → ((props : ErrorBoundaryProps P C Q V H T E L) → R (c.ErrorBoundary props)) → ((props : SuspenseBoundaryProps P C Q V H T E L) → R (c.SuspenseBoundary props)) → ((props : RootProps P C Q V H T E L) → R (c.Root props))
      → (y : VComponent-F P C Q V H T E L (DynamicNode P C Q V H T E L) (CodeComponent P C Q V H T E L) (ErrorBoundaryProps P C Q V H T E L) (FragmentProps P C Q V H T E L) (SuspenseBoundaryProps P C Q V H T E L) (VNode P C Q V H T E L)) → R (roll-VComponent P C Q V H T E L y)
  component-layer R f g h k l (VComponent-F.App a q) = subst R (sym (c.rolls-App a q)) (f a q)
  component-layer R f g h k l (VComponent-F.VComponent::Fragment props) = subst R (sym (c.rolls-Fragment props)) (g props)
  component-layer R f g h k l (VComponent-F.ErrorBoundary props) = subst R (sym (c.rolls-ErrorBoundary props)) (h props)
  component-layer R f g h k l (VComponent-F.SuspenseBoundary props) = subst R (sym (c.rolls-SuspenseBoundary props)) (k props)
  component-layer R f g h k l (VComponent-F.Root props) = subst R (sym (c.rolls-Root props)) (l props)

  -- a component, by what it is
  pub by-component : (R : CodeComponent P C Q V H T E L → Type 0) → ((a : C) (q : Q) → R (c.App a q)) → ((props : FragmentProps P C Q V H T E L) → R (c.Fragment props)) → ((props : ErrorBoundaryProps P C Q V H T E L) → R (c.ErrorBoundary props)) → ((props : SuspenseBoundaryProps P C Q V H T E L) → R (c.SuspenseBoundary props)) → ((props : RootProps P C Q V H T E L) → R (c.Root props))
      → (component : CodeComponent P C Q V H T E L) → R component
  by-component R f g h k l component = subst R (roll-out-VComponent P C Q V H T E L component) (component-layer R f g h k l (out-VComponent P C Q V H T E L component))

  -- the children of such props
  abbrev pub fragment_children : FragmentProps P C Q V H T E L → Result (VNode P C Q V H T E L) RenderError
  fragment_children props = (out-FragmentProps P C Q V H T E L props).children

  fragment-rolled : (children : Result (VNode P C Q V H T E L) RenderError) → fold-FragmentProps P C Q V H T E L (Slot (types C Q V H T E L)) (VComponent (types C Q V H T E L)) (VComponent (types C Q V H T E L)) (VComponent (types C Q V H T E L)) (VComponent (types C Q V H T E L)) (Tree (types C Q V H T E L)) slot_step component_step error_boundary_step fragment_step suspense_boundary_step tree_step (roll-FragmentProps P C Q V H T E L (record { children = children })) ≡ Fragment (element_of children)
  unfolding tree_of
  fragment-rolled (Ok tree) = fold-roll-FragmentProps P C Q V H T E L (Slot (types C Q V H T E L)) (VComponent (types C Q V H T E L)) (VComponent (types C Q V H T E L)) (VComponent (types C Q V H T E L)) (VComponent (types C Q V H T E L)) (Tree (types C Q V H T E L)) slot_step component_step error_boundary_step fragment_step suspense_boundary_step tree_step (record { children = Ok tree })
  fragment-rolled (Err (errors.Error e)) = fold-roll-FragmentProps P C Q V H T E L (Slot (types C Q V H T E L)) (VComponent (types C Q V H T E L)) (VComponent (types C Q V H T E L)) (VComponent (types C Q V H T E L)) (VComponent (types C Q V H T E L)) (Tree (types C Q V H T E L)) slot_step component_step error_boundary_step fragment_step suspense_boundary_step tree_step (record { children = Err (errors.Error e) })
  fragment-rolled (Err (errors.Suspended f)) = fold-roll-FragmentProps P C Q V H T E L (Slot (types C Q V H T E L)) (VComponent (types C Q V H T E L)) (VComponent (types C Q V H T E L)) (VComponent (types C Q V H T E L)) (VComponent (types C Q V H T E L)) (Tree (types C Q V H T E L)) slot_step component_step error_boundary_step fragment_step suspense_boundary_step tree_step (record { children = Err (errors.Suspended f) })

  -- a fragment of its children
  pub fragment_is : (props : FragmentProps P C Q V H T E L) → component_of (c.Fragment props) ≡ Fragment (element_of (fragment_children props))
  unfolding component_of
  fragment_is props =
      ap component_of (sym (c.rolls-Fragment props)) ∙
      fold-roll-VComponent P C Q V H T E L (Slot (types C Q V H T E L)) (VComponent (types C Q V H T E L)) (VComponent (types C Q V H T E L)) (VComponent (types C Q V H T E L)) (VComponent (types C Q V H T E L)) (Tree (types C Q V H T E L)) slot_step component_step error_boundary_step fragment_step suspense_boundary_step tree_step (VComponent-F.VComponent::Fragment props) ∙
      ap (λ p. fold-FragmentProps P C Q V H T E L (Slot (types C Q V H T E L)) (VComponent (types C Q V H T E L)) (VComponent (types C Q V H T E L)) (VComponent (types C Q V H T E L)) (VComponent (types C Q V H T E L)) (Tree (types C Q V H T E L)) slot_step component_step error_boundary_step fragment_step suspense_boundary_step tree_step p) (sym (roll-out-FragmentProps P C Q V H T E L props)) ∙
      fragment-rolled (fragment_children props)

  -- the children of such props
  abbrev pub error_boundary_children : ErrorBoundaryProps P C Q V H T E L → Result (VNode P C Q V H T E L) RenderError
  error_boundary_children props = (out-ErrorBoundaryProps P C Q V H T E L props).children

  error_boundary-rolled : (children : Result (VNode P C Q V H T E L) RenderError) (h : ErrorHandler P C Q V H T E L) → fold-ErrorBoundaryProps P C Q V H T E L (Slot (types C Q V H T E L)) (VComponent (types C Q V H T E L)) (VComponent (types C Q V H T E L)) (VComponent (types C Q V H T E L)) (VComponent (types C Q V H T E L)) (Tree (types C Q V H T E L)) slot_step component_step error_boundary_step fragment_step suspense_boundary_step tree_step (roll-ErrorBoundaryProps P C Q V H T E L (record { children = children; handle_error = h })) ≡ ErrorBoundary (element_of children) (handler_of h)
  unfolding tree_of
  error_boundary-rolled (Ok tree) h = fold-roll-ErrorBoundaryProps P C Q V H T E L (Slot (types C Q V H T E L)) (VComponent (types C Q V H T E L)) (VComponent (types C Q V H T E L)) (VComponent (types C Q V H T E L)) (VComponent (types C Q V H T E L)) (Tree (types C Q V H T E L)) slot_step component_step error_boundary_step fragment_step suspense_boundary_step tree_step (record { children = Ok tree; handle_error = h })
  error_boundary-rolled (Err (errors.Error e)) h = fold-roll-ErrorBoundaryProps P C Q V H T E L (Slot (types C Q V H T E L)) (VComponent (types C Q V H T E L)) (VComponent (types C Q V H T E L)) (VComponent (types C Q V H T E L)) (VComponent (types C Q V H T E L)) (Tree (types C Q V H T E L)) slot_step component_step error_boundary_step fragment_step suspense_boundary_step tree_step (record { children = Err (errors.Error e); handle_error = h })
  error_boundary-rolled (Err (errors.Suspended f)) h = fold-roll-ErrorBoundaryProps P C Q V H T E L (Slot (types C Q V H T E L)) (VComponent (types C Q V H T E L)) (VComponent (types C Q V H T E L)) (VComponent (types C Q V H T E L)) (VComponent (types C Q V H T E L)) (Tree (types C Q V H T E L)) slot_step component_step error_boundary_step fragment_step suspense_boundary_step tree_step (record { children = Err (errors.Suspended f); handle_error = h })

  -- what shows an error there
  abbrev pub error_boundary_handler : ErrorBoundaryProps P C Q V H T E L → ErrorHandler P C Q V H T E L
  error_boundary_handler props = (out-ErrorBoundaryProps P C Q V H T E L props).handle_error

  -- an error boundary round its children, with its handler
  pub error_boundary_is : (props : ErrorBoundaryProps P C Q V H T E L) → component_of (c.ErrorBoundary props) ≡ ErrorBoundary (element_of (error_boundary_children props)) (handler_of (error_boundary_handler props))
  unfolding component_of
  error_boundary_is props =
      ap component_of (sym (c.rolls-ErrorBoundary props)) ∙
      fold-roll-VComponent P C Q V H T E L (Slot (types C Q V H T E L)) (VComponent (types C Q V H T E L)) (VComponent (types C Q V H T E L)) (VComponent (types C Q V H T E L)) (VComponent (types C Q V H T E L)) (Tree (types C Q V H T E L)) slot_step component_step error_boundary_step fragment_step suspense_boundary_step tree_step (VComponent-F.ErrorBoundary props) ∙
      ap (λ p. fold-ErrorBoundaryProps P C Q V H T E L (Slot (types C Q V H T E L)) (VComponent (types C Q V H T E L)) (VComponent (types C Q V H T E L)) (VComponent (types C Q V H T E L)) (VComponent (types C Q V H T E L)) (Tree (types C Q V H T E L)) slot_step component_step error_boundary_step fragment_step suspense_boundary_step tree_step p) (sym (roll-out-ErrorBoundaryProps P C Q V H T E L props)) ∙
      error_boundary-rolled (error_boundary_children props) (error_boundary_handler props)

  -- the children of such props
  abbrev pub suspense_boundary_children : SuspenseBoundaryProps P C Q V H T E L → Result (VNode P C Q V H T E L) RenderError
  suspense_boundary_children props = (out-SuspenseBoundaryProps P C Q V H T E L props).children

  suspense_boundary-rolled : (children : Result (VNode P C Q V H T E L) RenderError) (f : Fallback P C Q V H T E L) → fold-SuspenseBoundaryProps P C Q V H T E L (Slot (types C Q V H T E L)) (VComponent (types C Q V H T E L)) (VComponent (types C Q V H T E L)) (VComponent (types C Q V H T E L)) (VComponent (types C Q V H T E L)) (Tree (types C Q V H T E L)) slot_step component_step error_boundary_step fragment_step suspense_boundary_step tree_step (roll-SuspenseBoundaryProps P C Q V H T E L (record { children = children; fallback = f })) ≡ SuspenseBoundary (element_of children) (fallback_of f)
  unfolding tree_of
  suspense_boundary-rolled (Ok tree) f = fold-roll-SuspenseBoundaryProps P C Q V H T E L (Slot (types C Q V H T E L)) (VComponent (types C Q V H T E L)) (VComponent (types C Q V H T E L)) (VComponent (types C Q V H T E L)) (VComponent (types C Q V H T E L)) (Tree (types C Q V H T E L)) slot_step component_step error_boundary_step fragment_step suspense_boundary_step tree_step (record { children = Ok tree; fallback = f })
  suspense_boundary-rolled (Err (errors.Error e)) f = fold-roll-SuspenseBoundaryProps P C Q V H T E L (Slot (types C Q V H T E L)) (VComponent (types C Q V H T E L)) (VComponent (types C Q V H T E L)) (VComponent (types C Q V H T E L)) (VComponent (types C Q V H T E L)) (Tree (types C Q V H T E L)) slot_step component_step error_boundary_step fragment_step suspense_boundary_step tree_step (record { children = Err (errors.Error e); fallback = f })
  suspense_boundary-rolled (Err (errors.Suspended e)) f = fold-roll-SuspenseBoundaryProps P C Q V H T E L (Slot (types C Q V H T E L)) (VComponent (types C Q V H T E L)) (VComponent (types C Q V H T E L)) (VComponent (types C Q V H T E L)) (VComponent (types C Q V H T E L)) (Tree (types C Q V H T E L)) slot_step component_step error_boundary_step fragment_step suspense_boundary_step tree_step (record { children = Err (errors.Suspended e); fallback = f })

  -- what shows there while a task holds it
  abbrev pub suspense_boundary_fallback : SuspenseBoundaryProps P C Q V H T E L → Fallback P C Q V H T E L
  suspense_boundary_fallback props = (out-SuspenseBoundaryProps P C Q V H T E L props).fallback

  -- a suspense boundary round its children, with its fallback
  pub suspense_boundary_is : (props : SuspenseBoundaryProps P C Q V H T E L) → component_of (c.SuspenseBoundary props) ≡ SuspenseBoundary (element_of (suspense_boundary_children props)) (fallback_of (suspense_boundary_fallback props))
  unfolding component_of
  suspense_boundary_is props =
      ap component_of (sym (c.rolls-SuspenseBoundary props)) ∙
      fold-roll-VComponent P C Q V H T E L (Slot (types C Q V H T E L)) (VComponent (types C Q V H T E L)) (VComponent (types C Q V H T E L)) (VComponent (types C Q V H T E L)) (VComponent (types C Q V H T E L)) (Tree (types C Q V H T E L)) slot_step component_step error_boundary_step fragment_step suspense_boundary_step tree_step (VComponent-F.SuspenseBoundary props) ∙
      ap (λ p. fold-SuspenseBoundaryProps P C Q V H T E L (Slot (types C Q V H T E L)) (VComponent (types C Q V H T E L)) (VComponent (types C Q V H T E L)) (VComponent (types C Q V H T E L)) (VComponent (types C Q V H T E L)) (Tree (types C Q V H T E L)) slot_step component_step error_boundary_step fragment_step suspense_boundary_step tree_step p) (sym (roll-out-SuspenseBoundaryProps P C Q V H T E L props)) ∙
      suspense_boundary-rolled (suspense_boundary_children props) (suspense_boundary_fallback props)

  -- an error boundary that is made
  pub error_boundary_made : (children : Result (VNode P C Q V H T E L) RenderError) (h : ErrorHandler P C Q V H T E L)
      → component_of (c.ErrorBoundary (roll-ErrorBoundaryProps P C Q V H T E L (record { children = children; handle_error = h }))) ≡ ErrorBoundary (element_of children) (handler_of h)
  unfolding component_of
  error_boundary_made children h =
      ap component_of (sym (c.rolls-ErrorBoundary (roll-ErrorBoundaryProps P C Q V H T E L (record { children = children; handle_error = h })))) ∙
      fold-roll-VComponent P C Q V H T E L (Slot (types C Q V H T E L)) (VComponent (types C Q V H T E L)) (VComponent (types C Q V H T E L)) (VComponent (types C Q V H T E L)) (VComponent (types C Q V H T E L)) (Tree (types C Q V H T E L)) slot_step component_step error_boundary_step fragment_step suspense_boundary_step tree_step (VComponent-F.ErrorBoundary (roll-ErrorBoundaryProps P C Q V H T E L (record { children = children; handle_error = h }))) ∙
      error_boundary-rolled children h

  -- a suspense boundary that is made
  pub suspense_boundary_made : (children : Result (VNode P C Q V H T E L) RenderError) (f : Fallback P C Q V H T E L)
      → component_of (c.SuspenseBoundary (roll-SuspenseBoundaryProps P C Q V H T E L (record { children = children; fallback = f }))) ≡ SuspenseBoundary (element_of children) (fallback_of f)
  unfolding component_of
  suspense_boundary_made children f =
      ap component_of (sym (c.rolls-SuspenseBoundary (roll-SuspenseBoundaryProps P C Q V H T E L (record { children = children; fallback = f })))) ∙
      fold-roll-VComponent P C Q V H T E L (Slot (types C Q V H T E L)) (VComponent (types C Q V H T E L)) (VComponent (types C Q V H T E L)) (VComponent (types C Q V H T E L)) (VComponent (types C Q V H T E L)) (Tree (types C Q V H T E L)) slot_step component_step error_boundary_step fragment_step suspense_boundary_step tree_step (VComponent-F.SuspenseBoundary (roll-SuspenseBoundaryProps P C Q V H T E L (record { children = children; fallback = f }))) ∙
      suspense_boundary-rolled children f
