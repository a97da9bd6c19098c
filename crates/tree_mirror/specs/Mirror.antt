-- Templates, trees and answers of code as those of the model.
use Rattle.std.specs.Prelude.{List, [], ◌∷◌, map, Option, Some, None, Result, Ok, Err}
use Rattle.tree_nodes.specs.declared.attribute.Attribute.{Attribute}
use Rattle.tree_nodes.specs.declared.attribute.AttributeValue.{AttributeValue}
use Rattle.tree_nodes.specs.declared.attribute.AttributeValue.TheVariants as values
use Rattle.tree_nodes.specs.declared.error.CapturedError.{CapturedError}
use Rattle.tree_nodes.specs.declared.error.RenderError.{RenderError}
use Rattle.tree_nodes.specs.declared.error.RenderError.TheVariants as errors
use Rattle.tree_nodes.specs.declared.template.TemplateParts.{TemplateParts as Template}
use Rattle.tree_nodes.specs.declared.template.TemplateAttribute.{TemplateAttribute}
use Rattle.tree_nodes.specs.declared.template.TemplateAttribute.TheVariants as attributes
use Rattle.tree_nodes.specs.declared.template.TemplateNode.{TemplateNode}
use Rattle.tree_nodes.specs.declared.template.TemplateNode.TheOpen.{TemplateNode-F}
use Rattle.tree_nodes.specs.declared.template.TemplateNode.TheFolds.{fold-TemplateNode}
use Rattle.tree_nodes.specs.declared.vnode.ErrorHandler.{ErrorHandler}
use Rattle.tree_nodes.specs.declared.vnode.ErrorHandler.TheVariants as handlers
use Rattle.tree_nodes.specs.declared.vnode.Fallback.{Fallback}
use Rattle.tree_nodes.specs.declared.vnode.Fallback.TheVariants as fallbacks
use Rattle.tree_nodes.specs.declared.vnode.VNode.{VNode}
use Rattle.tree_nodes.specs.declared.vnode.DynamicNode.TheOpen.{DynamicNode-F, VComponent-F, FragmentProps-F, ErrorBoundaryProps-F, SuspenseBoundaryProps-F, VNode-F}
use Rattle.tree_nodes.specs.declared.vnode.DynamicNode.TheFolds.{fold-VNode}
use Rattle.rt_model.specs.OneLog.{types}
use Rattle.rt_model.specs.Tree as model
use Rattle.rt_model.specs.Tree.{TemplateNodes, no_nodes, element_node, text_node, slot_node, fixed, from_slot, text_value, no_value, listener, Tree, block, Slots, no_slots, more_slots, Slot, text_slot, placeholder_slot, component_slot, fragment_slot, Trees, no_trees, more_trees, VComponent, Own, Root, Fragment, ErrorBoundary, SuspenseBoundary, Element, rendered, failed, suspended}

-- an attribute of a template
abbrev pub attribute_in : TemplateAttribute → model.TemplateAttribute
attribute_in (attributes.Static name namespace value) = fixed name namespace value
attribute_in (attributes.Dynamic id) = from_slot id

-- several nodes, one after another, before those that come after them
abbrev pub all_before : List (TemplateNodes → TemplateNodes) → TemplateNodes → TemplateNodes
all_before [] rest = rest
all_before (node ∷ nodes) rest = node (all_before nodes rest)

-- one level of a template, before the nodes that come after it
abbrev pub before_step : TemplateNode-F (TemplateNodes → TemplateNodes) → TemplateNodes → TemplateNodes
before_step (TemplateNode-F.Element tag namespace attrs children) rest =
    element_node tag namespace (map attribute_in attrs) (all_before children no_nodes) rest
before_step (TemplateNode-F.Text text) rest = text_node text rest
before_step (TemplateNode-F.Dynamic id) rest = slot_node id rest

-- a node of a template, before the nodes that come after it
abbrev pub node_before : TemplateNode → TemplateNodes → TemplateNodes
node_before = fold-TemplateNode (TemplateNodes → TemplateNodes) before_step

-- the nodes of a template with these roots
abbrev pub nodes_of : List TemplateNode → TemplateNodes
nodes_of roots = all_before (map node_before roots) no_nodes

-- a template with its paths
abbrev pub template_of : Template → model.Template
template_of t = record { roots = nodes_of t.roots; node_paths = t.node_paths; attribute_paths = t.attr_paths }

-- a caught error
abbrev pub error_of : CapturedError → model.CapturedError
error_of e = record { serial = e.serial; text = e.text }

module _ {P C Q V H T E L : Type 0} where
  -- the value of an attribute
  abbrev pub value_of : AttributeValue P C Q V H T E L → model.AttributeValue (types C Q V H T E L)
  value_of (values.Text text) = text_value text
  value_of values.None = no_value
  value_of (values.Listener l) = listener l.origin.0 l.handler

  -- an attribute that stands in a slot
  abbrev pub attribute_of : Attribute P C Q V H T E L → model.Attribute (types C Q V H T E L)
  attribute_of a = record { name = a.name; namespace = a.namespace; value = value_of a.value }

  -- the component that shows a caught error, where one is named
  abbrev pub handler_of : ErrorHandler P C Q V H T E L → Option (C × Q)
  handler_of handlers.Default = None
  handler_of (handlers.Component c q) = Some (c, q)

  -- the component that shows while a boundary is held, where one is named
  abbrev pub fallback_of : Fallback P C Q V H T E L → Option (C × Q)
  fallback_of fallbacks.Placeholder = None
  fallback_of (fallbacks.Component c q) = Some (c, q)

module _ {K : model.Types} where
  -- the slots of a tree, in order
  abbrev pub slots_from : List (Slot K) → Slots K
  slots_from [] = no_slots
  slots_from (v ∷ vs) = more_slots v (slots_from vs)

  -- the items of a fragment, in order
  abbrev pub trees_from : List (Tree K) → Trees K
  trees_from [] = no_trees
  trees_from (t ∷ ts) = more_trees t (trees_from ts)

  -- an answer whose tree is the model's already
  abbrev pub answer_from : Result (Tree K) RenderError → Element K
  answer_from (Ok tree) = rendered tree
  answer_from (Err (errors.Error e)) = failed (error_of e)
  answer_from (Err (errors.Suspended f)) = suspended f.origin.0 f.task.0

module _ {P C Q V H T E L : Type 0} where
  -- what stands in a slot, with what is below it done already
  abbrev pub slot_step :
      DynamicNode-F P C Q V H T E L (Slot (types C Q V H T E L)) (VComponent (types C Q V H T E L)) (VComponent (types C Q V H T E L))
      (VComponent (types C Q V H T E L)) (VComponent (types C Q V H T E L)) (Tree (types C Q V H T E L)) → Slot (types C Q V H T E L)
  slot_step (DynamicNode-F.Text text) = text_slot text
  slot_step DynamicNode-F.Placeholder = placeholder_slot
  slot_step (DynamicNode-F.Component c) = component_slot c
  slot_step (DynamicNode-F.DynamicNode::Fragment trees) = fragment_slot (trees_from trees)

  -- a component, with the children of a built-in one done already
  abbrev pub component_step :
      VComponent-F P C Q V H T E L (Slot (types C Q V H T E L)) (VComponent (types C Q V H T E L)) (VComponent (types C Q V H T E L))
      (VComponent (types C Q V H T E L)) (VComponent (types C Q V H T E L)) (Tree (types C Q V H T E L)) → VComponent (types C Q V H T E L)
  component_step (VComponent-F.App c q) = Own c q
  component_step (VComponent-F.VComponent::Fragment c) = c
  component_step (VComponent-F.ErrorBoundary c) = c
  component_step (VComponent-F.SuspenseBoundary c) = c
  component_step (VComponent-F.Root props) = Root props.component props.props

  -- an error boundary round children that are done already
  abbrev pub error_boundary_step :
      ErrorBoundaryProps-F P C Q V H T E L (Slot (types C Q V H T E L)) (VComponent (types C Q V H T E L))
      (VComponent (types C Q V H T E L)) (VComponent (types C Q V H T E L)) (VComponent (types C Q V H T E L)) (Tree (types C Q V H T E L))
      → VComponent (types C Q V H T E L)
  error_boundary_step props = ErrorBoundary (answer_from props.children) (handler_of props.handle_error)

  -- a fragment of children that are done already
  abbrev pub fragment_step :
      FragmentProps-F P C Q V H T E L (Slot (types C Q V H T E L)) (VComponent (types C Q V H T E L)) (VComponent (types C Q V H T E L))
      (VComponent (types C Q V H T E L)) (VComponent (types C Q V H T E L)) (Tree (types C Q V H T E L)) → VComponent (types C Q V H T E L)
  fragment_step props = Fragment (answer_from props.children)

  -- a suspense boundary round children that are done already
  abbrev pub suspense_boundary_step :
      SuspenseBoundaryProps-F P C Q V H T E L (Slot (types C Q V H T E L)) (VComponent (types C Q V H T E L))
      (VComponent (types C Q V H T E L)) (VComponent (types C Q V H T E L)) (VComponent (types C Q V H T E L)) (Tree (types C Q V H T E L))
      → VComponent (types C Q V H T E L)
  suspense_boundary_step props = SuspenseBoundary (answer_from props.children) (fallback_of props.fallback)

  -- a tree, with what stands in its slots done already
  abbrev pub tree_step :
      VNode-F P C Q V H T E L (Slot (types C Q V H T E L)) (VComponent (types C Q V H T E L)) (VComponent (types C Q V H T E L))
      (VComponent (types C Q V H T E L)) (VComponent (types C Q V H T E L)) (Tree (types C Q V H T E L)) → Tree (types C Q V H T E L)
  tree_step tree = block (template_of tree.template) (map (map attribute_of) tree.dynamic_attrs) (slots_from tree.dynamic_nodes)

  -- a tree
  abbrev pub tree_of : VNode P C Q V H T E L → Tree (types C Q V H T E L)
  tree_of = fold-VNode P C Q V H T E L (Slot (types C Q V H T E L)) (VComponent (types C Q V H T E L)) (VComponent (types C Q V H T E L))
      (VComponent (types C Q V H T E L)) (VComponent (types C Q V H T E L)) (Tree (types C Q V H T E L)) slot_step component_step
      error_boundary_step fragment_step suspense_boundary_step tree_step

  -- a body's answer
  abbrev pub element_of : Result (VNode P C Q V H T E L) RenderError → Element (types C Q V H T E L)
  element_of (Ok tree) = rendered (tree_of tree)
  element_of (Err (errors.Error e)) = failed (error_of e)
  element_of (Err (errors.Suspended f)) = suspended f.origin.0 f.task.0
