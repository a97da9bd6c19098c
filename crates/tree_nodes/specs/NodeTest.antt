-- The node test: whether a template and the values of its slots belong together.
use Rattle.std.specs.Prelude.{ℕ, ◌+◌, ◌-◌, Bool, true, ◌&&◌, List, [], ◌∷◌, length, Result, Ok, Err}
use Rattle.std.specs.List.{list_all, slice_index_or}
use Rattle.tree_nodes.specs.BlockTest.{block_fits}
use Rattle.tree_nodes.specs.declared.error.RenderError.{RenderError}
use Rattle.tree_nodes.specs.declared.vnode.VNode.{VNode}
use Rattle.tree_nodes.specs.declared.vnode.DynamicNode.{DynamicNode}
use Rattle.tree_nodes.specs.declared.vnode.VComponent.{VComponent}
use Rattle.tree_nodes.specs.declared.vnode.DynamicNode.TheOpen.{DynamicNode-F, VComponent-F, FragmentProps-F, ErrorBoundaryProps-F, SuspenseBoundaryProps-F, VNode-F}
use Rattle.tree_nodes.specs.declared.vnode.DynamicNode.TheFolds.{fold-VNode, fold-DynamicNode, fold-VComponent}

-- whether a tree fits into a number of levels
abbrev pub Test : Type 0
Test = ℕ → Bool

-- children that are an error always fit
abbrev pub children_fit : Result Test RenderError → Test
children_fit (Ok below) levels = below levels
children_fit (Err error) levels = true

-- all of these fit
abbrev pub all_fit : List Test → Test
all_fit below levels = list_all (λ test. test levels) below

-- the values of the slots from the k-th on fit into what is left below their paths
abbrev pub slots_fit : List (List ℕ) → ℕ → List Test → Test
slots_fit paths k [] levels = true
slots_fit paths k (test ∷ rest) levels =
    test (levels - length (slice_index_or paths k [])) && slots_fit paths (k + 1) rest levels

module _ {P Component Props Value Handler TaskState Effect Payload : Type 0} where
  -- a value of a slot, where it is known what fits below it
  abbrev pub node_step : DynamicNode-F P Component Props Value Handler TaskState Effect Payload Test Test Test Test Test Test → Test
  node_step (DynamicNode-F.Text text) levels = true
  node_step DynamicNode-F.Placeholder levels = true
  node_step (DynamicNode-F.Component below) levels = below levels
  node_step (DynamicNode-F.DynamicNode::Fragment below) levels = all_fit below levels

  -- a component: the children of a built-in one are tested, those of the application are another scope's
  abbrev pub component_step : VComponent-F P Component Props Value Handler TaskState Effect Payload Test Test Test Test Test Test → Test
  component_step (VComponent-F.App component props) levels = true
  component_step (VComponent-F.VComponent::Fragment below) levels = below levels
  component_step (VComponent-F.ErrorBoundary below) levels = below levels
  component_step (VComponent-F.SuspenseBoundary below) levels = below levels
  component_step (VComponent-F.Root props) levels = true

  -- the children of a fragment
  abbrev pub fragment_step : FragmentProps-F P Component Props Value Handler TaskState Effect Payload Test Test Test Test Test Test → Test
  fragment_step props levels = children_fit props.children levels

  -- the children of an error boundary
  abbrev pub error_boundary_step :
      ErrorBoundaryProps-F P Component Props Value Handler TaskState Effect Payload Test Test Test Test Test Test → Test
  error_boundary_step props levels = children_fit props.children levels

  -- the children of a suspense boundary
  abbrev pub suspense_boundary_step :
      SuspenseBoundaryProps-F P Component Props Value Handler TaskState Effect Payload Test Test Test Test Test Test → Test
  suspense_boundary_step props levels = children_fit props.children levels

  -- a tree fits where it does without its slots, and what stands in them does
  abbrev pub tree_step : VNode-F P Component Props Value Handler TaskState Effect Payload Test Test Test Test Test Test → Test
  tree_step tree levels = block_fits tree.template (length tree.dynamic_nodes) tree.dynamic_attrs levels
      && slots_fit tree.template.node_paths 0 tree.dynamic_nodes levels

  -- whether a tree fits into a number of levels
  abbrev pub fits_within : VNode P Component Props Value Handler TaskState Effect Payload → Test
  fits_within = fold-VNode P Component Props Value Handler TaskState Effect Payload Test Test Test Test Test Test node_step component_step
      error_boundary_step fragment_step suspense_boundary_step tree_step

  -- whether the value of a slot fits into a number of levels
  abbrev pub node_fits_within : DynamicNode P Component Props Value Handler TaskState Effect Payload → Test
  node_fits_within = fold-DynamicNode P Component Props Value Handler TaskState Effect Payload Test Test Test Test Test Test node_step
      component_step error_boundary_step fragment_step suspense_boundary_step tree_step

  -- whether a component fits into a number of levels
  abbrev pub component_fits_within : VComponent P Component Props Value Handler TaskState Effect Payload → Test
  component_fits_within =
      fold-VComponent P Component Props Value Handler TaskState Effect Payload Test Test Test Test Test Test node_step component_step
      error_boundary_step fragment_step suspense_boundary_step tree_step

  -- whether children fit: a tree, or an error, which always does
  abbrev pub element_fits_within : Result (VNode P Component Props Value Handler TaskState Effect Payload) RenderError → Test
  element_fits_within (Ok tree) levels = fits_within tree levels
  element_fits_within (Err error) levels = true

  -- whether a tree passes the node test: it fits into 128 levels
  abbrev pub fits : VNode P Component Props Value Handler TaskState Effect Payload → Bool
  fits tree = fits_within tree 128
