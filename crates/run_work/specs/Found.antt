-- Which component a component may take the place of.
use Rattle.std.specs.Prelude.{Bool, true, false, ◌≡◌}
use Rattle.tree_nodes.specs.declared.vnode.VComponent.{VComponent}
use Rattle.rt_model.specs.OneLog.{types}
use Rattle.rt_model.specs.World.{Application}
use Rattle.rt_model.specs.Laws.{Tests}
use Rattle.rt_model.specs.Values.{is_same_component}
use Rattle.rt_model.specs.Tree as model
use Rattle.rt_model.specs.Tree.{Own, Root, Fragment, ErrorBoundary, SuspenseBoundary, is_suspense_boundary, is_error_boundary}
use Rattle.tree_mirror.specs.Sealed.{component_of}

module _ {K : model.Types} where
  -- whether a component is a fragment
  abbrev pub is_fragment_in : model.VComponent K → Bool
  is_fragment_in (Fragment children) = true
  is_fragment_in (Own component props) = false
  is_fragment_in (Root component props) = false
  is_fragment_in (ErrorBoundary children handler) = false
  is_fragment_in (SuspenseBoundary children fallback) = false

  -- whether a component is a root wrapper
  abbrev pub is_root_in : model.VComponent K → Bool
  is_root_in (Root component props) = true
  is_root_in (Own component props) = false
  is_root_in (Fragment children) = false
  is_root_in (ErrorBoundary children handler) = false
  is_root_in (SuspenseBoundary children fallback) = false

  -- whether a component is an error boundary
  abbrev pub is_error_boundary_in : model.VComponent K → Bool
  is_error_boundary_in c = is_error_boundary c

  -- whether a component is a suspense boundary
  abbrev pub is_suspense_boundary_in : model.VComponent K → Bool
  is_suspense_boundary_in c = is_suspense_boundary c

module _ {P C Q V H T E L : Type 0} where
  -- the answer is the test of the definitions, whatever the application
  abbrev pub IsSame : Bool → VComponent P C Q V H T E L → VComponent P C Q V H T E L → Type 0
  IsSame answer old new = (app : Application (types C Q V H T E L)) → Tests C app.same_component
      → answer ≡ is_same_component app (component_of old) (component_of new)

  -- the answer is that test for a component of the application, whatever its props
  abbrev pub IsOwn : Bool → C → VComponent P C Q V H T E L → Type 0
  IsOwn answer own new =
      (app : Application (types C Q V H T E L)) → Tests C app.same_component → (props : Q)
      → answer ≡ is_same_component app (Own own props) (component_of new)
