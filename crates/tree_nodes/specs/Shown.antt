-- What stands where a body answered no tree.
use Rattle.std.specs.Prelude.{[], ◌∷◌, Result, Ok, Err}
use Rattle.tree_nodes.specs.declared.error.RenderError.{RenderError}
use Rattle.tree_nodes.specs.declared.last_node.LastRenderedNode.{LastRenderedNode}
use Rattle.tree_nodes.specs.declared.last_node.LastRenderedNode.TheVariants.{Real, Placeholder as InPlace}
use Rattle.tree_nodes.specs.declared.template.TemplateNode.TheVariants.{Dynamic}
use Rattle.tree_nodes.specs.declared.vnode.VNode.{VNode}
use Rattle.tree_nodes.specs.declared.vnode.DynamicNode.TheVariants.{Placeholder}

module _ {P Component Props Value Handler TaskState Effect Payload : Type 0} where
  -- the tree of one root that is a placeholder slot
  abbrev pub placeholder_tree : VNode P Component Props Value Handler TaskState Effect Payload
  placeholder_tree = record {
    template = record { roots = Dynamic 0 ∷ []; node_paths = (0 ∷ []) ∷ []; attr_paths = [] };
    dynamic_nodes = Placeholder ∷ [];
    dynamic_attrs = [];
  }

  -- what a scope shows of an answer: the tree, or a placeholder and why
  abbrev pub last_of : Result (VNode P Component Props Value Handler TaskState Effect Payload) RenderError
      → LastRenderedNode P Component Props Value Handler TaskState Effect Payload
  last_of (Ok tree) = Real tree
  last_of (Err error) = InPlace placeholder_tree error

  -- the tree that a scope shows
  abbrev pub tree_of : LastRenderedNode P Component Props Value Handler TaskState Effect Payload
      → VNode P Component Props Value Handler TaskState Effect Payload
  tree_of (Real tree) = tree
  tree_of (InPlace tree error) = tree
