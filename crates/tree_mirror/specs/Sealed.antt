-- The mirror of templates and trees with each item as one word, for proofs that go item by item.
use Rattle.std.specs.Prelude.{List, map, Result, Ok, Err}
use Rattle.tree_nodes.specs.declared.error.RenderError.{RenderError}
use Rattle.tree_nodes.specs.declared.error.RenderError.TheVariants as errors
use Rattle.tree_nodes.specs.declared.template.TemplateParts.{TemplateParts as Template}
use Rattle.tree_nodes.specs.declared.template.TemplateNode.{TemplateNode}
use Rattle.tree_nodes.specs.declared.vnode.VNode.{VNode}
use Rattle.tree_nodes.specs.declared.vnode.VComponent.{VComponent as CodeComponent}
use Rattle.tree_nodes.specs.declared.vnode.DynamicNode.{DynamicNode}
use Rattle.tree_nodes.specs.declared.vnode.DynamicNode.TheFolds.{fold-VComponent}
use Rattle.rt_model.specs.OneLog.{types}
use Rattle.rt_model.specs.Tree as model
use Rattle.rt_model.specs.Tree.{TemplateNodes, no_nodes, Tree, Slot, VComponent, Element, rendered, failed, suspended}
use Rattle.tree_mirror.specs.Mirror as mirror
use Rattle.tree_mirror.specs.Mirror.{all_before, error_of, slot_step, component_step, error_boundary_step, fragment_step, suspense_boundary_step, tree_step}
use Rattle.tree_mirror.specs.ByParts as parts

-- a node of a template, before the nodes that come after it
unfoldable pub node_before : TemplateNode → TemplateNodes → TemplateNodes
node_before node rest = mirror.node_before node rest

-- the nodes of a template with these roots
abbrev pub nodes_of : List TemplateNode → TemplateNodes
nodes_of roots = all_before (map node_before roots) no_nodes

-- a template with its paths
abbrev pub template_of : Template → model.Template
template_of t = record { roots = nodes_of t.roots; node_paths = t.node_paths; attribute_paths = t.attr_paths }

module _ {P C Q V H T E L : Type 0} where
  -- a tree
  unfoldable pub tree_of : VNode P C Q V H T E L → Tree (types C Q V H T E L)
  tree_of tree = mirror.tree_of tree

  -- what stands in a slot
  unfoldable pub slot_of : DynamicNode P C Q V H T E L → Slot (types C Q V H T E L)
  slot_of value = parts.slot_of value

  -- a component
  unfoldable pub component_of : CodeComponent P C Q V H T E L → VComponent (types C Q V H T E L)
  component_of = fold-VComponent P C Q V H T E L (Slot (types C Q V H T E L)) (VComponent (types C Q V H T E L))
      (VComponent (types C Q V H T E L)) (VComponent (types C Q V H T E L)) (VComponent (types C Q V H T E L)) (Tree (types C Q V H T E L))
      slot_step component_step error_boundary_step fragment_step suspense_boundary_step tree_step

  -- a body's answer
  abbrev pub element_of : Result (VNode P C Q V H T E L) RenderError → Element (types C Q V H T E L)
  element_of (Ok tree) = rendered (tree_of tree)
  element_of (Err (errors.Error e)) = failed (error_of e)
  element_of (Err (errors.Suspended f)) = suspended f.origin.0 f.task.0
