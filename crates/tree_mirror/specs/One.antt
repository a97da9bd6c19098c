-- What is one at the mirror is one, and when a component that is fed keeps its output.
use Rattle.std.specs.Prelude.{◌≡◌, Bool, true, false}
use Rattle.tree_nodes.specs.declared.vnode.VComponent.{VComponent as CodeComponent}
use Rattle.tree_mirror.specs.Sealed.{component_of}
use Rattle.rt_model.specs.Tree.{Types, VComponent, Own, Root, Fragment, ErrorBoundary, SuspenseBoundary}

-- two components of code with one value of the definitions are one
abbrev pub ComponentsAreOne : (P C Q V H T E L : Type 0) → Type 0
ComponentsAreOne P C Q V H T E L = (c d : CodeComponent P C Q V H T E L) → component_of c ≡ component_of d → c ≡ d

module _ {K : Types} where
  -- components that are fed by value: not the application's own ones, nor error boundaries
  abbrev pub is_by_value : VComponent K → Bool
  is_by_value (Own component props) = false
  is_by_value (Root component props) = true
  is_by_value (Fragment children) = true
  is_by_value (ErrorBoundary children handler) = false
  is_by_value (SuspenseBoundary children fallback) = true
