-- Back from the mirror: it loses nothing of a tree, so two values that are one at the mirror are one.
use Rattle.std.proofs.Common.{ℕ, List, [], ◌∷◌, ◌≡◌, refl, sym, ap, ◌∙◌, subst, map, Result, Ok, Err}
use Rattle.std.specs.Prelude.{Option, Some, None}
use Rattle.tree_nodes.specs.declared.attribute.Attribute.{Attribute}
use Rattle.tree_nodes.specs.declared.attribute.AttributeValue.{AttributeValue}
use Rattle.tree_nodes.specs.declared.attribute.AttributeValue.TheVariants as values
use Rattle.tree_nodes.specs.declared.error.CapturedError.{CapturedError}
use Rattle.tree_nodes.specs.declared.template.TemplateParts.{TemplateParts as Template}
use Rattle.tree_nodes.specs.declared.error.RenderError.{RenderError}
use Rattle.tree_nodes.specs.declared.error.RenderError.TheVariants as errors
use Rattle.tree_nodes.specs.declared.vnode.ErrorHandler.{ErrorHandler}
use Rattle.tree_nodes.specs.declared.vnode.ErrorHandler.TheVariants as handlers
use Rattle.tree_nodes.specs.declared.vnode.Fallback.{Fallback}
use Rattle.tree_nodes.specs.declared.vnode.Fallback.TheVariants as fallbacks
use Rattle.tree_nodes.specs.declared.vnode.VNode.{VNode}
use Rattle.tree_nodes.specs.declared.vnode.VComponent.{VComponent as CodeComponent}
use Rattle.tree_nodes.specs.declared.vnode.DynamicNode.{DynamicNode}
use Rattle.tree_nodes.specs.declared.vnode.FragmentProps.{FragmentProps}
use Rattle.tree_nodes.specs.declared.vnode.ErrorBoundaryProps.{ErrorBoundaryProps}
use Rattle.tree_nodes.specs.declared.vnode.SuspenseBoundaryProps.{SuspenseBoundaryProps}
use Rattle.tree_nodes.specs.declared.vnode.DynamicNode.TheOpen.{DynamicNode-F, VComponent-F, FragmentProps-F, ErrorBoundaryProps-F, SuspenseBoundaryProps-F, VNode-F}
use Rattle.tree_nodes.specs.declared.vnode.DynamicNode.TheViews.{roll-DynamicNode, roll-VComponent, roll-FragmentProps, roll-ErrorBoundaryProps, roll-SuspenseBoundaryProps, roll-VNode}
use Rattle.tree_nodes.specs.declared.vnode.DynamicNode.TheFolds.{fold-DynamicNode, fold-VComponent, fold-FragmentProps, fold-ErrorBoundaryProps, fold-SuspenseBoundaryProps, fold-VNode, fold-roll-DynamicNode, fold-roll-VComponent, fold-roll-FragmentProps, fold-roll-ErrorBoundaryProps, fold-roll-SuspenseBoundaryProps, fold-roll-VNode, map-DynamicNode, map-VComponent, map-FragmentProps, map-ErrorBoundaryProps, map-SuspenseBoundaryProps, map-VNode, ind-VComponent}
use Rattle.rt_model.specs.OneLog.{types}
use Rattle.rt_model.specs.Tree as model
use Rattle.rt_model.specs.Tree.{text_value, no_value, listener, Tree, block, Slots, no_slots, more_slots, Slot, text_slot, placeholder_slot, component_slot, fragment_slot, Trees, no_trees, more_trees, VComponent, Own, Root, Fragment, ErrorBoundary, SuspenseBoundary, Element, rendered, failed, suspended}
use Rattle.tree_mirror.specs.Mirror.{value_of, attribute_of, error_of, handler_of, fallback_of, slots_from, trees_from, answer_from, template_of, slot_step, component_step, error_boundary_step, fragment_step, suspense_boundary_step, tree_step}
use Rattle.tree_mirror.specs.Sealed.{component_of}
use Rattle.tree_mirror.proofs.SealedNodes.{template_back, template-back, roots-are}

abbrev error_back : model.CapturedError → CapturedError
error_back e = record { serial = e.serial; text = e.text }

template_is : (t : Template) → template_back (template_of t) ≡ t
template_is t = ap (λ roots. template_back (record { roots = roots; node_paths = t.node_paths; attribute_paths = t.attr_paths })) (sym (roots-are t.roots)) ∙ template-back t

module _ {P C Q V H T E L : Type 0} where
  abbrev value_back : model.AttributeValue (types C Q V H T E L) → AttributeValue P C Q V H T E L
  value_back (text_value text) = values.Text text
  value_back no_value = values.None
  value_back (listener origin handler) = values.Listener (record { origin = record { 0 = origin }; handler = handler })

  abbrev attribute_back : model.Attribute (types C Q V H T E L) → Attribute P C Q V H T E L
  attribute_back a = record { name = a.name; namespace = a.namespace; value = value_back a.value }

  abbrev handler_back : Option (C × Q) → ErrorHandler P C Q V H T E L
  handler_back None = handlers.Default
  handler_back (Some h) = handlers.Component h.0 h.1

  abbrev fallback_back : Option (C × Q) → Fallback P C Q V H T E L
  fallback_back None = fallbacks.Placeholder
  fallback_back (Some h) = fallbacks.Component h.0 h.1

  abbrev mutual
    tree_back : Tree (types C Q V H T E L) → VNode P C Q V H T E L
    tree_back (block template given slots) = roll-VNode P C Q V H T E L (record { template = template_back template; dynamic_nodes = slots_back slots; dynamic_attrs = map (map attribute_back) given })

    slots_back : Slots (types C Q V H T E L) → List (DynamicNode P C Q V H T E L)
    slots_back no_slots = []
    slots_back (more_slots v vs) = slot_back v ∷ slots_back vs

    slot_back : Slot (types C Q V H T E L) → DynamicNode P C Q V H T E L
    slot_back (text_slot text) = roll-DynamicNode P C Q V H T E L (DynamicNode-F.Text text)
    slot_back placeholder_slot = roll-DynamicNode P C Q V H T E L DynamicNode-F.Placeholder
    slot_back (component_slot c) = roll-DynamicNode P C Q V H T E L (DynamicNode-F.Component (component_back c))
    slot_back (fragment_slot ts) = roll-DynamicNode P C Q V H T E L (DynamicNode-F.DynamicNode::Fragment (trees_back ts))

    trees_back : Trees (types C Q V H T E L) → List (VNode P C Q V H T E L)
    trees_back no_trees = []
    trees_back (more_trees t ts) = tree_back t ∷ trees_back ts

    component_back : VComponent (types C Q V H T E L) → CodeComponent P C Q V H T E L
    component_back (Own c q) = roll-VComponent P C Q V H T E L (VComponent-F.App c q)
    component_back (Root c q) = roll-VComponent P C Q V H T E L (VComponent-F.Root (record { component = c; props = q }))
    component_back (Fragment e) = roll-VComponent P C Q V H T E L (VComponent-F.VComponent::Fragment (roll-FragmentProps P C Q V H T E L (record { children = element_back e })))
    component_back (ErrorBoundary e h) = roll-VComponent P C Q V H T E L (VComponent-F.ErrorBoundary (roll-ErrorBoundaryProps P C Q V H T E L (record { children = element_back e; handle_error = handler_back h })))
    component_back (SuspenseBoundary e f) = roll-VComponent P C Q V H T E L (VComponent-F.SuspenseBoundary (roll-SuspenseBoundaryProps P C Q V H T E L (record { children = element_back e; fallback = fallback_back f })))

    element_back : Element (types C Q V H T E L) → Result (VNode P C Q V H T E L) RenderError
    element_back (rendered t) = Ok (tree_back t)
    element_back (failed e) = Err (errors.Error (error_back e))
    element_back (suspended s t) = Err (errors.Suspended (record { origin = record { 0 = s }; task = record { 0 = t } }))

  abbrev value_at : DynamicNode P C Q V H T E L → Slot (types C Q V H T E L)
  value_at = fold-DynamicNode P C Q V H T E L (Slot (types C Q V H T E L)) (VComponent (types C Q V H T E L)) (VComponent (types C Q V H T E L)) (VComponent (types C Q V H T E L)) (VComponent (types C Q V H T E L)) (Tree (types C Q V H T E L)) slot_step component_step error_boundary_step fragment_step suspense_boundary_step tree_step

  abbrev component_at : CodeComponent P C Q V H T E L → VComponent (types C Q V H T E L)
  component_at = fold-VComponent P C Q V H T E L (Slot (types C Q V H T E L)) (VComponent (types C Q V H T E L)) (VComponent (types C Q V H T E L)) (VComponent (types C Q V H T E L)) (VComponent (types C Q V H T E L)) (Tree (types C Q V H T E L)) slot_step component_step error_boundary_step fragment_step suspense_boundary_step tree_step

  abbrev error_boundary_at : ErrorBoundaryProps P C Q V H T E L → VComponent (types C Q V H T E L)
  error_boundary_at = fold-ErrorBoundaryProps P C Q V H T E L (Slot (types C Q V H T E L)) (VComponent (types C Q V H T E L)) (VComponent (types C Q V H T E L)) (VComponent (types C Q V H T E L)) (VComponent (types C Q V H T E L)) (Tree (types C Q V H T E L)) slot_step component_step error_boundary_step fragment_step suspense_boundary_step tree_step

  abbrev fragment_at : FragmentProps P C Q V H T E L → VComponent (types C Q V H T E L)
  fragment_at = fold-FragmentProps P C Q V H T E L (Slot (types C Q V H T E L)) (VComponent (types C Q V H T E L)) (VComponent (types C Q V H T E L)) (VComponent (types C Q V H T E L)) (VComponent (types C Q V H T E L)) (Tree (types C Q V H T E L)) slot_step component_step error_boundary_step fragment_step suspense_boundary_step tree_step

  abbrev suspense_boundary_at : SuspenseBoundaryProps P C Q V H T E L → VComponent (types C Q V H T E L)
  suspense_boundary_at = fold-SuspenseBoundaryProps P C Q V H T E L (Slot (types C Q V H T E L)) (VComponent (types C Q V H T E L)) (VComponent (types C Q V H T E L)) (VComponent (types C Q V H T E L)) (VComponent (types C Q V H T E L)) (Tree (types C Q V H T E L)) slot_step component_step error_boundary_step fragment_step suspense_boundary_step tree_step

  abbrev tree_at : VNode P C Q V H T E L → Tree (types C Q V H T E L)
  tree_at = fold-VNode P C Q V H T E L (Slot (types C Q V H T E L)) (VComponent (types C Q V H T E L)) (VComponent (types C Q V H T E L)) (VComponent (types C Q V H T E L)) (VComponent (types C Q V H T E L)) (Tree (types C Q V H T E L)) slot_step component_step error_boundary_step fragment_step suspense_boundary_step tree_step

  -- each comes back
  abbrev ValueBack : DynamicNode P C Q V H T E L → Type 0
  ValueBack v = slot_back (value_at v) ≡ v

  abbrev ComponentBack : CodeComponent P C Q V H T E L → Type 0
  ComponentBack c = component_back (component_at c) ≡ c

  abbrev ErrorBoundaryBack : ErrorBoundaryProps P C Q V H T E L → Type 0
  ErrorBoundaryBack e = component_back (error_boundary_at e) ≡ roll-VComponent P C Q V H T E L (VComponent-F.ErrorBoundary e)

  abbrev FragmentBack : FragmentProps P C Q V H T E L → Type 0
  FragmentBack f = component_back (fragment_at f) ≡ roll-VComponent P C Q V H T E L (VComponent-F.VComponent::Fragment f)

  abbrev SuspenseBoundaryBack : SuspenseBoundaryProps P C Q V H T E L → Type 0
  SuspenseBoundaryBack s = component_back (suspense_boundary_at s) ≡ roll-VComponent P C Q V H T E L (VComponent-F.SuspenseBoundary s)

  abbrev TreeBack : VNode P C Q V H T E L → Type 0
  TreeBack t = tree_back (tree_at t) ≡ t

  abbrev value_bare : DynamicNode-F P C Q V H T E L ((x : DynamicNode P C Q V H T E L) × ValueBack x) ((x : CodeComponent P C Q V H T E L) × ComponentBack x) ((x : ErrorBoundaryProps P C Q V H T E L) × ErrorBoundaryBack x) ((x : FragmentProps P C Q V H T E L) × FragmentBack x) ((x : SuspenseBoundaryProps P C Q V H T E L) × SuspenseBoundaryBack x) ((x : VNode P C Q V H T E L) × TreeBack x) → DynamicNode-F P C Q V H T E L (DynamicNode P C Q V H T E L) (CodeComponent P C Q V H T E L) (ErrorBoundaryProps P C Q V H T E L) (FragmentProps P C Q V H T E L) (SuspenseBoundaryProps P C Q V H T E L) (VNode P C Q V H T E L)
  value_bare y = map-DynamicNode P C Q V H T E L ((x : DynamicNode P C Q V H T E L) × ValueBack x) ((x : CodeComponent P C Q V H T E L) × ComponentBack x) ((x : ErrorBoundaryProps P C Q V H T E L) × ErrorBoundaryBack x) ((x : FragmentProps P C Q V H T E L) × FragmentBack x) ((x : SuspenseBoundaryProps P C Q V H T E L) × SuspenseBoundaryBack x) ((x : VNode P C Q V H T E L) × TreeBack x) (DynamicNode P C Q V H T E L) (CodeComponent P C Q V H T E L) (ErrorBoundaryProps P C Q V H T E L) (FragmentProps P C Q V H T E L) (SuspenseBoundaryProps P C Q V H T E L) (VNode P C Q V H T E L) (λ x. x.0) (λ x. x.0) (λ x. x.0) (λ x. x.0) (λ x. x.0) (λ x. x.0) y

  abbrev value_below : DynamicNode-F P C Q V H T E L (DynamicNode P C Q V H T E L) (CodeComponent P C Q V H T E L) (ErrorBoundaryProps P C Q V H T E L) (FragmentProps P C Q V H T E L) (SuspenseBoundaryProps P C Q V H T E L) (VNode P C Q V H T E L) → DynamicNode-F P C Q V H T E L (Slot (types C Q V H T E L)) (VComponent (types C Q V H T E L)) (VComponent (types C Q V H T E L)) (VComponent (types C Q V H T E L)) (VComponent (types C Q V H T E L)) (Tree (types C Q V H T E L))
  value_below x = map-DynamicNode P C Q V H T E L (DynamicNode P C Q V H T E L) (CodeComponent P C Q V H T E L) (ErrorBoundaryProps P C Q V H T E L) (FragmentProps P C Q V H T E L) (SuspenseBoundaryProps P C Q V H T E L) (VNode P C Q V H T E L) (Slot (types C Q V H T E L)) (VComponent (types C Q V H T E L)) (VComponent (types C Q V H T E L)) (VComponent (types C Q V H T E L)) (VComponent (types C Q V H T E L)) (Tree (types C Q V H T E L)) (λ x. value_at x) (λ x. component_at x) (λ x. error_boundary_at x) (λ x. fragment_at x) (λ x. suspense_boundary_at x) (λ x. tree_at x) x

  abbrev component_bare : VComponent-F P C Q V H T E L ((x : DynamicNode P C Q V H T E L) × ValueBack x) ((x : CodeComponent P C Q V H T E L) × ComponentBack x) ((x : ErrorBoundaryProps P C Q V H T E L) × ErrorBoundaryBack x) ((x : FragmentProps P C Q V H T E L) × FragmentBack x) ((x : SuspenseBoundaryProps P C Q V H T E L) × SuspenseBoundaryBack x) ((x : VNode P C Q V H T E L) × TreeBack x) → VComponent-F P C Q V H T E L (DynamicNode P C Q V H T E L) (CodeComponent P C Q V H T E L) (ErrorBoundaryProps P C Q V H T E L) (FragmentProps P C Q V H T E L) (SuspenseBoundaryProps P C Q V H T E L) (VNode P C Q V H T E L)
  component_bare y = map-VComponent P C Q V H T E L ((x : DynamicNode P C Q V H T E L) × ValueBack x) ((x : CodeComponent P C Q V H T E L) × ComponentBack x) ((x : ErrorBoundaryProps P C Q V H T E L) × ErrorBoundaryBack x) ((x : FragmentProps P C Q V H T E L) × FragmentBack x) ((x : SuspenseBoundaryProps P C Q V H T E L) × SuspenseBoundaryBack x) ((x : VNode P C Q V H T E L) × TreeBack x) (DynamicNode P C Q V H T E L) (CodeComponent P C Q V H T E L) (ErrorBoundaryProps P C Q V H T E L) (FragmentProps P C Q V H T E L) (SuspenseBoundaryProps P C Q V H T E L) (VNode P C Q V H T E L) (λ x. x.0) (λ x. x.0) (λ x. x.0) (λ x. x.0) (λ x. x.0) (λ x. x.0) y

  abbrev component_below : VComponent-F P C Q V H T E L (DynamicNode P C Q V H T E L) (CodeComponent P C Q V H T E L) (ErrorBoundaryProps P C Q V H T E L) (FragmentProps P C Q V H T E L) (SuspenseBoundaryProps P C Q V H T E L) (VNode P C Q V H T E L) → VComponent-F P C Q V H T E L (Slot (types C Q V H T E L)) (VComponent (types C Q V H T E L)) (VComponent (types C Q V H T E L)) (VComponent (types C Q V H T E L)) (VComponent (types C Q V H T E L)) (Tree (types C Q V H T E L))
  component_below x = map-VComponent P C Q V H T E L (DynamicNode P C Q V H T E L) (CodeComponent P C Q V H T E L) (ErrorBoundaryProps P C Q V H T E L) (FragmentProps P C Q V H T E L) (SuspenseBoundaryProps P C Q V H T E L) (VNode P C Q V H T E L) (Slot (types C Q V H T E L)) (VComponent (types C Q V H T E L)) (VComponent (types C Q V H T E L)) (VComponent (types C Q V H T E L)) (VComponent (types C Q V H T E L)) (Tree (types C Q V H T E L)) (λ x. value_at x) (λ x. component_at x) (λ x. error_boundary_at x) (λ x. fragment_at x) (λ x. suspense_boundary_at x) (λ x. tree_at x) x

  abbrev error_boundary_bare : ErrorBoundaryProps-F P C Q V H T E L ((x : DynamicNode P C Q V H T E L) × ValueBack x) ((x : CodeComponent P C Q V H T E L) × ComponentBack x) ((x : ErrorBoundaryProps P C Q V H T E L) × ErrorBoundaryBack x) ((x : FragmentProps P C Q V H T E L) × FragmentBack x) ((x : SuspenseBoundaryProps P C Q V H T E L) × SuspenseBoundaryBack x) ((x : VNode P C Q V H T E L) × TreeBack x) → ErrorBoundaryProps-F P C Q V H T E L (DynamicNode P C Q V H T E L) (CodeComponent P C Q V H T E L) (ErrorBoundaryProps P C Q V H T E L) (FragmentProps P C Q V H T E L) (SuspenseBoundaryProps P C Q V H T E L) (VNode P C Q V H T E L)
  error_boundary_bare y = map-ErrorBoundaryProps P C Q V H T E L ((x : DynamicNode P C Q V H T E L) × ValueBack x) ((x : CodeComponent P C Q V H T E L) × ComponentBack x) ((x : ErrorBoundaryProps P C Q V H T E L) × ErrorBoundaryBack x) ((x : FragmentProps P C Q V H T E L) × FragmentBack x) ((x : SuspenseBoundaryProps P C Q V H T E L) × SuspenseBoundaryBack x) ((x : VNode P C Q V H T E L) × TreeBack x) (DynamicNode P C Q V H T E L) (CodeComponent P C Q V H T E L) (ErrorBoundaryProps P C Q V H T E L) (FragmentProps P C Q V H T E L) (SuspenseBoundaryProps P C Q V H T E L) (VNode P C Q V H T E L) (λ x. x.0) (λ x. x.0) (λ x. x.0) (λ x. x.0) (λ x. x.0) (λ x. x.0) y

  abbrev error_boundary_below : ErrorBoundaryProps-F P C Q V H T E L (DynamicNode P C Q V H T E L) (CodeComponent P C Q V H T E L) (ErrorBoundaryProps P C Q V H T E L) (FragmentProps P C Q V H T E L) (SuspenseBoundaryProps P C Q V H T E L) (VNode P C Q V H T E L) → ErrorBoundaryProps-F P C Q V H T E L (Slot (types C Q V H T E L)) (VComponent (types C Q V H T E L)) (VComponent (types C Q V H T E L)) (VComponent (types C Q V H T E L)) (VComponent (types C Q V H T E L)) (Tree (types C Q V H T E L))
  error_boundary_below x = map-ErrorBoundaryProps P C Q V H T E L (DynamicNode P C Q V H T E L) (CodeComponent P C Q V H T E L) (ErrorBoundaryProps P C Q V H T E L) (FragmentProps P C Q V H T E L) (SuspenseBoundaryProps P C Q V H T E L) (VNode P C Q V H T E L) (Slot (types C Q V H T E L)) (VComponent (types C Q V H T E L)) (VComponent (types C Q V H T E L)) (VComponent (types C Q V H T E L)) (VComponent (types C Q V H T E L)) (Tree (types C Q V H T E L)) (λ x. value_at x) (λ x. component_at x) (λ x. error_boundary_at x) (λ x. fragment_at x) (λ x. suspense_boundary_at x) (λ x. tree_at x) x

  abbrev fragment_bare : FragmentProps-F P C Q V H T E L ((x : DynamicNode P C Q V H T E L) × ValueBack x) ((x : CodeComponent P C Q V H T E L) × ComponentBack x) ((x : ErrorBoundaryProps P C Q V H T E L) × ErrorBoundaryBack x) ((x : FragmentProps P C Q V H T E L) × FragmentBack x) ((x : SuspenseBoundaryProps P C Q V H T E L) × SuspenseBoundaryBack x) ((x : VNode P C Q V H T E L) × TreeBack x) → FragmentProps-F P C Q V H T E L (DynamicNode P C Q V H T E L) (CodeComponent P C Q V H T E L) (ErrorBoundaryProps P C Q V H T E L) (FragmentProps P C Q V H T E L) (SuspenseBoundaryProps P C Q V H T E L) (VNode P C Q V H T E L)
  fragment_bare y = map-FragmentProps P C Q V H T E L ((x : DynamicNode P C Q V H T E L) × ValueBack x) ((x : CodeComponent P C Q V H T E L) × ComponentBack x) ((x : ErrorBoundaryProps P C Q V H T E L) × ErrorBoundaryBack x) ((x : FragmentProps P C Q V H T E L) × FragmentBack x) ((x : SuspenseBoundaryProps P C Q V H T E L) × SuspenseBoundaryBack x) ((x : VNode P C Q V H T E L) × TreeBack x) (DynamicNode P C Q V H T E L) (CodeComponent P C Q V H T E L) (ErrorBoundaryProps P C Q V H T E L) (FragmentProps P C Q V H T E L) (SuspenseBoundaryProps P C Q V H T E L) (VNode P C Q V H T E L) (λ x. x.0) (λ x. x.0) (λ x. x.0) (λ x. x.0) (λ x. x.0) (λ x. x.0) y

  abbrev fragment_below : FragmentProps-F P C Q V H T E L (DynamicNode P C Q V H T E L) (CodeComponent P C Q V H T E L) (ErrorBoundaryProps P C Q V H T E L) (FragmentProps P C Q V H T E L) (SuspenseBoundaryProps P C Q V H T E L) (VNode P C Q V H T E L) → FragmentProps-F P C Q V H T E L (Slot (types C Q V H T E L)) (VComponent (types C Q V H T E L)) (VComponent (types C Q V H T E L)) (VComponent (types C Q V H T E L)) (VComponent (types C Q V H T E L)) (Tree (types C Q V H T E L))
  fragment_below x = map-FragmentProps P C Q V H T E L (DynamicNode P C Q V H T E L) (CodeComponent P C Q V H T E L) (ErrorBoundaryProps P C Q V H T E L) (FragmentProps P C Q V H T E L) (SuspenseBoundaryProps P C Q V H T E L) (VNode P C Q V H T E L) (Slot (types C Q V H T E L)) (VComponent (types C Q V H T E L)) (VComponent (types C Q V H T E L)) (VComponent (types C Q V H T E L)) (VComponent (types C Q V H T E L)) (Tree (types C Q V H T E L)) (λ x. value_at x) (λ x. component_at x) (λ x. error_boundary_at x) (λ x. fragment_at x) (λ x. suspense_boundary_at x) (λ x. tree_at x) x

  abbrev suspense_boundary_bare : SuspenseBoundaryProps-F P C Q V H T E L ((x : DynamicNode P C Q V H T E L) × ValueBack x) ((x : CodeComponent P C Q V H T E L) × ComponentBack x) ((x : ErrorBoundaryProps P C Q V H T E L) × ErrorBoundaryBack x) ((x : FragmentProps P C Q V H T E L) × FragmentBack x) ((x : SuspenseBoundaryProps P C Q V H T E L) × SuspenseBoundaryBack x) ((x : VNode P C Q V H T E L) × TreeBack x) → SuspenseBoundaryProps-F P C Q V H T E L (DynamicNode P C Q V H T E L) (CodeComponent P C Q V H T E L) (ErrorBoundaryProps P C Q V H T E L) (FragmentProps P C Q V H T E L) (SuspenseBoundaryProps P C Q V H T E L) (VNode P C Q V H T E L)
  suspense_boundary_bare y = map-SuspenseBoundaryProps P C Q V H T E L ((x : DynamicNode P C Q V H T E L) × ValueBack x) ((x : CodeComponent P C Q V H T E L) × ComponentBack x) ((x : ErrorBoundaryProps P C Q V H T E L) × ErrorBoundaryBack x) ((x : FragmentProps P C Q V H T E L) × FragmentBack x) ((x : SuspenseBoundaryProps P C Q V H T E L) × SuspenseBoundaryBack x) ((x : VNode P C Q V H T E L) × TreeBack x) (DynamicNode P C Q V H T E L) (CodeComponent P C Q V H T E L) (ErrorBoundaryProps P C Q V H T E L) (FragmentProps P C Q V H T E L) (SuspenseBoundaryProps P C Q V H T E L) (VNode P C Q V H T E L) (λ x. x.0) (λ x. x.0) (λ x. x.0) (λ x. x.0) (λ x. x.0) (λ x. x.0) y

  abbrev suspense_boundary_below : SuspenseBoundaryProps-F P C Q V H T E L (DynamicNode P C Q V H T E L) (CodeComponent P C Q V H T E L) (ErrorBoundaryProps P C Q V H T E L) (FragmentProps P C Q V H T E L) (SuspenseBoundaryProps P C Q V H T E L) (VNode P C Q V H T E L) → SuspenseBoundaryProps-F P C Q V H T E L (Slot (types C Q V H T E L)) (VComponent (types C Q V H T E L)) (VComponent (types C Q V H T E L)) (VComponent (types C Q V H T E L)) (VComponent (types C Q V H T E L)) (Tree (types C Q V H T E L))
  suspense_boundary_below x = map-SuspenseBoundaryProps P C Q V H T E L (DynamicNode P C Q V H T E L) (CodeComponent P C Q V H T E L) (ErrorBoundaryProps P C Q V H T E L) (FragmentProps P C Q V H T E L) (SuspenseBoundaryProps P C Q V H T E L) (VNode P C Q V H T E L) (Slot (types C Q V H T E L)) (VComponent (types C Q V H T E L)) (VComponent (types C Q V H T E L)) (VComponent (types C Q V H T E L)) (VComponent (types C Q V H T E L)) (Tree (types C Q V H T E L)) (λ x. value_at x) (λ x. component_at x) (λ x. error_boundary_at x) (λ x. fragment_at x) (λ x. suspense_boundary_at x) (λ x. tree_at x) x

  abbrev tree_bare : VNode-F P C Q V H T E L ((x : DynamicNode P C Q V H T E L) × ValueBack x) ((x : CodeComponent P C Q V H T E L) × ComponentBack x) ((x : ErrorBoundaryProps P C Q V H T E L) × ErrorBoundaryBack x) ((x : FragmentProps P C Q V H T E L) × FragmentBack x) ((x : SuspenseBoundaryProps P C Q V H T E L) × SuspenseBoundaryBack x) ((x : VNode P C Q V H T E L) × TreeBack x) → VNode-F P C Q V H T E L (DynamicNode P C Q V H T E L) (CodeComponent P C Q V H T E L) (ErrorBoundaryProps P C Q V H T E L) (FragmentProps P C Q V H T E L) (SuspenseBoundaryProps P C Q V H T E L) (VNode P C Q V H T E L)
  tree_bare y = map-VNode P C Q V H T E L ((x : DynamicNode P C Q V H T E L) × ValueBack x) ((x : CodeComponent P C Q V H T E L) × ComponentBack x) ((x : ErrorBoundaryProps P C Q V H T E L) × ErrorBoundaryBack x) ((x : FragmentProps P C Q V H T E L) × FragmentBack x) ((x : SuspenseBoundaryProps P C Q V H T E L) × SuspenseBoundaryBack x) ((x : VNode P C Q V H T E L) × TreeBack x) (DynamicNode P C Q V H T E L) (CodeComponent P C Q V H T E L) (ErrorBoundaryProps P C Q V H T E L) (FragmentProps P C Q V H T E L) (SuspenseBoundaryProps P C Q V H T E L) (VNode P C Q V H T E L) (λ x. x.0) (λ x. x.0) (λ x. x.0) (λ x. x.0) (λ x. x.0) (λ x. x.0) y

  abbrev tree_below : VNode-F P C Q V H T E L (DynamicNode P C Q V H T E L) (CodeComponent P C Q V H T E L) (ErrorBoundaryProps P C Q V H T E L) (FragmentProps P C Q V H T E L) (SuspenseBoundaryProps P C Q V H T E L) (VNode P C Q V H T E L) → VNode-F P C Q V H T E L (Slot (types C Q V H T E L)) (VComponent (types C Q V H T E L)) (VComponent (types C Q V H T E L)) (VComponent (types C Q V H T E L)) (VComponent (types C Q V H T E L)) (Tree (types C Q V H T E L))
  tree_below x = map-VNode P C Q V H T E L (DynamicNode P C Q V H T E L) (CodeComponent P C Q V H T E L) (ErrorBoundaryProps P C Q V H T E L) (FragmentProps P C Q V H T E L) (SuspenseBoundaryProps P C Q V H T E L) (VNode P C Q V H T E L) (Slot (types C Q V H T E L)) (VComponent (types C Q V H T E L)) (VComponent (types C Q V H T E L)) (VComponent (types C Q V H T E L)) (VComponent (types C Q V H T E L)) (Tree (types C Q V H T E L)) (λ x. value_at x) (λ x. component_at x) (λ x. error_boundary_at x) (λ x. fragment_at x) (λ x. suspense_boundary_at x) (λ x. tree_at x) x

  values_are : (vs : List ((x : DynamicNode P C Q V H T E L) × ValueBack x)) → slots_back (slots_from (map (λ x. value_at x) (map (λ x. x.0) vs))) ≡ map (λ x. x.0) vs
  values_are [] = refl
  values_are (v ∷ vs) = ap (λ x. x ∷ slots_back (slots_from (map (λ x. value_at x) (map (λ x. x.0) vs)))) v.1 ∙ ap (λ xs. v.0 ∷ xs) (values_are vs)

  trees_are : (ts : List ((x : VNode P C Q V H T E L) × TreeBack x)) → trees_back (trees_from (map (λ x. tree_at x) (map (λ x. x.0) ts))) ≡ map (λ x. x.0) ts
  trees_are [] = refl
  trees_are (t ∷ ts) = ap (λ x. x ∷ trees_back (trees_from (map (λ x. tree_at x) (map (λ x. x.0) ts)))) t.1 ∙ ap (λ xs. t.0 ∷ xs) (trees_are ts)

  attributes_are : (ats : List (Attribute P C Q V H T E L)) → map attribute_back (map attribute_of ats) ≡ ats
  attributes_are [] = refl
  attributes_are (a ∷ ats) = ap (λ v. record a { value = v } ∷ map attribute_back (map attribute_of ats)) (value_is a.value) ∙ ap (λ xs. a ∷ xs) (attributes_are ats)
    where
      value_is : (v : AttributeValue P C Q V H T E L) → value_back (value_of v) ≡ v
      value_is (values.Text text) = refl
      value_is values.None = refl
      value_is (values.Listener l) = refl

  given_are : (gs : List (List (Attribute P C Q V H T E L))) → map (map attribute_back) (map (map attribute_of) gs) ≡ gs
  given_are [] = refl
  given_are (g ∷ gs) = ap (λ x. x ∷ map (map attribute_back) (map (map attribute_of) gs)) (attributes_are g) ∙ ap (λ xs. g ∷ xs) (given_are gs)

  value_level : (y : DynamicNode-F P C Q V H T E L ((x : DynamicNode P C Q V H T E L) × ValueBack x) ((x : CodeComponent P C Q V H T E L) × ComponentBack x) ((x : ErrorBoundaryProps P C Q V H T E L) × ErrorBoundaryBack x) ((x : FragmentProps P C Q V H T E L) × FragmentBack x) ((x : SuspenseBoundaryProps P C Q V H T E L) × SuspenseBoundaryBack x) ((x : VNode P C Q V H T E L) × TreeBack x)) → slot_back (slot_step (value_below (value_bare y))) ≡ roll-DynamicNode P C Q V H T E L (value_bare y)
  value_level (DynamicNode-F.Text text) = refl
  value_level DynamicNode-F.Placeholder = refl
  value_level (DynamicNode-F.Component c) = ap (λ x. roll-DynamicNode P C Q V H T E L (DynamicNode-F.Component x)) c.1
  value_level (DynamicNode-F.DynamicNode::Fragment ts) = ap (λ xs. roll-DynamicNode P C Q V H T E L (DynamicNode-F.DynamicNode::Fragment xs)) (trees_are ts)

  component_level : (y : VComponent-F P C Q V H T E L ((x : DynamicNode P C Q V H T E L) × ValueBack x) ((x : CodeComponent P C Q V H T E L) × ComponentBack x) ((x : ErrorBoundaryProps P C Q V H T E L) × ErrorBoundaryBack x) ((x : FragmentProps P C Q V H T E L) × FragmentBack x) ((x : SuspenseBoundaryProps P C Q V H T E L) × SuspenseBoundaryBack x) ((x : VNode P C Q V H T E L) × TreeBack x)) → component_back (component_step (component_below (component_bare y))) ≡ roll-VComponent P C Q V H T E L (component_bare y)
  component_level (VComponent-F.App c q) = refl
  component_level (VComponent-F.Root props) = refl
  component_level (VComponent-F.VComponent::Fragment f) = f.1
  component_level (VComponent-F.ErrorBoundary e) = e.1
  component_level (VComponent-F.SuspenseBoundary s) = s.1

  fragment_level : (c : Result ((x : VNode P C Q V H T E L) × TreeBack x) RenderError) → component_back (fragment_step (fragment_below (fragment_bare (record { children = c })))) ≡ roll-VComponent P C Q V H T E L (VComponent-F.VComponent::Fragment (roll-FragmentProps P C Q V H T E L (fragment_bare (record { children = c }))))
  fragment_level (Ok t) = ap (λ x. roll-VComponent P C Q V H T E L (VComponent-F.VComponent::Fragment (roll-FragmentProps P C Q V H T E L (record { children = Ok x })))) t.1
  fragment_level (Err (errors.Error e)) = refl
  fragment_level (Err (errors.Suspended f)) = refl

  error_boundary_level : (c : Result ((x : VNode P C Q V H T E L) × TreeBack x) RenderError) (h : ErrorHandler P C Q V H T E L) → component_back (error_boundary_step (error_boundary_below (error_boundary_bare (record { children = c; handle_error = h })))) ≡ roll-VComponent P C Q V H T E L (VComponent-F.ErrorBoundary (roll-ErrorBoundaryProps P C Q V H T E L (error_boundary_bare (record { children = c; handle_error = h }))))
  error_boundary_level (Ok t) handlers.Default = ap (λ x. roll-VComponent P C Q V H T E L (VComponent-F.ErrorBoundary (roll-ErrorBoundaryProps P C Q V H T E L (record { children = Ok x; handle_error = handlers.Default })))) t.1
  error_boundary_level (Ok t) (handlers.Component a q) = ap (λ x. roll-VComponent P C Q V H T E L (VComponent-F.ErrorBoundary (roll-ErrorBoundaryProps P C Q V H T E L (record { children = Ok x; handle_error = handlers.Component a q })))) t.1
  error_boundary_level (Err (errors.Error e)) handlers.Default = refl
  error_boundary_level (Err (errors.Error e)) (handlers.Component a q) = refl
  error_boundary_level (Err (errors.Suspended f)) handlers.Default = refl
  error_boundary_level (Err (errors.Suspended f)) (handlers.Component a q) = refl

  suspense_boundary_level : (c : Result ((x : VNode P C Q V H T E L) × TreeBack x) RenderError) (h : Fallback P C Q V H T E L) → component_back (suspense_boundary_step (suspense_boundary_below (suspense_boundary_bare (record { children = c; fallback = h })))) ≡ roll-VComponent P C Q V H T E L (VComponent-F.SuspenseBoundary (roll-SuspenseBoundaryProps P C Q V H T E L (suspense_boundary_bare (record { children = c; fallback = h }))))
  suspense_boundary_level (Ok t) fallbacks.Placeholder = ap (λ x. roll-VComponent P C Q V H T E L (VComponent-F.SuspenseBoundary (roll-SuspenseBoundaryProps P C Q V H T E L (record { children = Ok x; fallback = fallbacks.Placeholder })))) t.1
  suspense_boundary_level (Ok t) (fallbacks.Component a q) = ap (λ x. roll-VComponent P C Q V H T E L (VComponent-F.SuspenseBoundary (roll-SuspenseBoundaryProps P C Q V H T E L (record { children = Ok x; fallback = fallbacks.Component a q })))) t.1
  suspense_boundary_level (Err (errors.Error e)) fallbacks.Placeholder = refl
  suspense_boundary_level (Err (errors.Error e)) (fallbacks.Component a q) = refl
  suspense_boundary_level (Err (errors.Suspended f)) fallbacks.Placeholder = refl
  suspense_boundary_level (Err (errors.Suspended f)) (fallbacks.Component a q) = refl

  tree_level : (y : VNode-F P C Q V H T E L ((x : DynamicNode P C Q V H T E L) × ValueBack x) ((x : CodeComponent P C Q V H T E L) × ComponentBack x) ((x : ErrorBoundaryProps P C Q V H T E L) × ErrorBoundaryBack x) ((x : FragmentProps P C Q V H T E L) × FragmentBack x) ((x : SuspenseBoundaryProps P C Q V H T E L) × SuspenseBoundaryBack x) ((x : VNode P C Q V H T E L) × TreeBack x)) → tree_back (tree_step (tree_below (tree_bare y))) ≡ roll-VNode P C Q V H T E L (tree_bare y)
  tree_level y =
      ap (λ t. roll-VNode P C Q V H T E L (record { template = t; dynamic_nodes = slots_back (slots_from (map (λ x. value_at x) (map (λ x. x.0) y.dynamic_nodes))); dynamic_attrs = map (map attribute_back) (map (map attribute_of) y.dynamic_attrs) })) (template_is y.template)
      ∙ ap (λ vs. roll-VNode P C Q V H T E L (record { template = y.template; dynamic_nodes = vs; dynamic_attrs = map (map attribute_back) (map (map attribute_of) y.dynamic_attrs) })) (values_are y.dynamic_nodes)
      ∙ ap (λ gs. roll-VNode P C Q V H T E L (record { template = y.template; dynamic_nodes = map (λ x. x.0) y.dynamic_nodes; dynamic_attrs = gs })) (given_are y.dynamic_attrs)

  component_comes_back : (c : CodeComponent P C Q V H T E L) → ComponentBack c
  component_comes_back =
      ind-VComponent P C Q V H T E L (λ v. ValueBack v) (λ c. ComponentBack c) (λ e. ErrorBoundaryBack e) (λ f. FragmentBack f) (λ s. SuspenseBoundaryBack s) (λ t. TreeBack t)
      (λ x y is.
      ap (λ z. slot_back z) (fold-roll-DynamicNode P C Q V H T E L (Slot (types C Q V H T E L)) (VComponent (types C Q V H T E L)) (VComponent (types C Q V H T E L)) (VComponent (types C Q V H T E L)) (VComponent (types C Q V H T E L)) (Tree (types C Q V H T E L)) slot_step component_step error_boundary_step fragment_step suspense_boundary_step tree_step x)
      ∙ subst (λ (z : DynamicNode-F P C Q V H T E L (DynamicNode P C Q V H T E L) (CodeComponent P C Q V H T E L) (ErrorBoundaryProps P C Q V H T E L) (FragmentProps P C Q V H T E L) (SuspenseBoundaryProps P C Q V H T E L) (VNode P C Q V H T E L)). slot_back (slot_step (value_below z)) ≡ roll-DynamicNode P C Q V H T E L z) is (value_level y))
      (λ x y is.
      ap (λ z. component_back z) (fold-roll-VComponent P C Q V H T E L (Slot (types C Q V H T E L)) (VComponent (types C Q V H T E L)) (VComponent (types C Q V H T E L)) (VComponent (types C Q V H T E L)) (VComponent (types C Q V H T E L)) (Tree (types C Q V H T E L)) slot_step component_step error_boundary_step fragment_step suspense_boundary_step tree_step x)
      ∙ subst (λ (z : VComponent-F P C Q V H T E L (DynamicNode P C Q V H T E L) (CodeComponent P C Q V H T E L) (ErrorBoundaryProps P C Q V H T E L) (FragmentProps P C Q V H T E L) (SuspenseBoundaryProps P C Q V H T E L) (VNode P C Q V H T E L)). component_back (component_step (component_below z)) ≡ roll-VComponent P C Q V H T E L z) is (component_level y))
      (λ x y is.
      ap (λ z. component_back z) (fold-roll-ErrorBoundaryProps P C Q V H T E L (Slot (types C Q V H T E L)) (VComponent (types C Q V H T E L)) (VComponent (types C Q V H T E L)) (VComponent (types C Q V H T E L)) (VComponent (types C Q V H T E L)) (Tree (types C Q V H T E L)) slot_step component_step error_boundary_step fragment_step suspense_boundary_step tree_step x)
      ∙ subst (λ (z : ErrorBoundaryProps-F P C Q V H T E L (DynamicNode P C Q V H T E L) (CodeComponent P C Q V H T E L) (ErrorBoundaryProps P C Q V H T E L) (FragmentProps P C Q V H T E L) (SuspenseBoundaryProps P C Q V H T E L) (VNode P C Q V H T E L)). component_back (error_boundary_step (error_boundary_below z)) ≡ roll-VComponent P C Q V H T E L (VComponent-F.ErrorBoundary (roll-ErrorBoundaryProps P C Q V H T E L z))) is (error_boundary_level y.children y.handle_error))
      (λ x y is.
      ap (λ z. component_back z) (fold-roll-FragmentProps P C Q V H T E L (Slot (types C Q V H T E L)) (VComponent (types C Q V H T E L)) (VComponent (types C Q V H T E L)) (VComponent (types C Q V H T E L)) (VComponent (types C Q V H T E L)) (Tree (types C Q V H T E L)) slot_step component_step error_boundary_step fragment_step suspense_boundary_step tree_step x)
      ∙ subst (λ (z : FragmentProps-F P C Q V H T E L (DynamicNode P C Q V H T E L) (CodeComponent P C Q V H T E L) (ErrorBoundaryProps P C Q V H T E L) (FragmentProps P C Q V H T E L) (SuspenseBoundaryProps P C Q V H T E L) (VNode P C Q V H T E L)). component_back (fragment_step (fragment_below z)) ≡ roll-VComponent P C Q V H T E L (VComponent-F.VComponent::Fragment (roll-FragmentProps P C Q V H T E L z))) is (fragment_level y.children))
      (λ x y is.
      ap (λ z. component_back z) (fold-roll-SuspenseBoundaryProps P C Q V H T E L (Slot (types C Q V H T E L)) (VComponent (types C Q V H T E L)) (VComponent (types C Q V H T E L)) (VComponent (types C Q V H T E L)) (VComponent (types C Q V H T E L)) (Tree (types C Q V H T E L)) slot_step component_step error_boundary_step fragment_step suspense_boundary_step tree_step x)
      ∙ subst (λ (z : SuspenseBoundaryProps-F P C Q V H T E L (DynamicNode P C Q V H T E L) (CodeComponent P C Q V H T E L) (ErrorBoundaryProps P C Q V H T E L) (FragmentProps P C Q V H T E L) (SuspenseBoundaryProps P C Q V H T E L) (VNode P C Q V H T E L)). component_back (suspense_boundary_step (suspense_boundary_below z)) ≡ roll-VComponent P C Q V H T E L (VComponent-F.SuspenseBoundary (roll-SuspenseBoundaryProps P C Q V H T E L z))) is (suspense_boundary_level y.children y.fallback))
      (λ x y is.
      ap (λ z. tree_back z) (fold-roll-VNode P C Q V H T E L (Slot (types C Q V H T E L)) (VComponent (types C Q V H T E L)) (VComponent (types C Q V H T E L)) (VComponent (types C Q V H T E L)) (VComponent (types C Q V H T E L)) (Tree (types C Q V H T E L)) slot_step component_step error_boundary_step fragment_step suspense_boundary_step tree_step x)
      ∙ subst (λ (z : VNode-F P C Q V H T E L (DynamicNode P C Q V H T E L) (CodeComponent P C Q V H T E L) (ErrorBoundaryProps P C Q V H T E L) (FragmentProps P C Q V H T E L) (SuspenseBoundaryProps P C Q V H T E L) (VNode P C Q V H T E L)). tree_back (tree_step (tree_below z)) ≡ roll-VNode P C Q V H T E L z) is (tree_level y))

  -- components that are one at the mirror are one
  pub components_are_one : (c d : CodeComponent P C Q V H T E L) → component_of c ≡ component_of d → c ≡ d
  unfolding component_of
  components_are_one c d h = sym (component_comes_back c) ∙ ap component_back h ∙ component_comes_back d
