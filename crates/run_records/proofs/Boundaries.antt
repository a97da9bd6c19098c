-- Which component is an error boundary.
use Rattle.std.proofs.Common.{◌≡◌, true, false, ap}
use Rattle.tree_nodes.specs.declared.vnode.VComponent.TheVariants as code
use Rattle.tree_nodes.specs.declared.vnode.FragmentProps.{FragmentProps}
use Rattle.tree_nodes.specs.declared.vnode.ErrorBoundaryProps.{ErrorBoundaryProps}
use Rattle.tree_nodes.specs.declared.vnode.SuspenseBoundaryProps.{SuspenseBoundaryProps}
use Rattle.tree_nodes.specs.declared.vnode.RootProps.{RootProps}
use Rattle.rt_model.specs.Tree.{is_error_boundary}
use Rattle.tree_mirror.specs.Sealed.{component_of}
use Rattle.tree_mirror.proofs.SealedComponents.{component_App, component_Root, component_Fragment, component_ErrorBoundary, component_SuspenseBoundary}

module _ (P C Q V H T E L : Type 0) where
  pub error-App : (c : C) (q : Q) → is_error_boundary (component_of {P = P} {C = C} {Q = Q} {V = V} {H = H} {T = T} {E = E} {L = L} (code.App c q)) ≡ false
  error-App c q = ap (λ x. is_error_boundary x) (component_App {C = C} {Q = Q} {V = V} {H = H} {T = T} {E = E} {L = L} P c q)

module _ {P C Q V H T E L : Type 0} where
  pub error-Fragment : (props : FragmentProps P C Q V H T E L) → is_error_boundary (component_of (code.Fragment props)) ≡ false
  error-Fragment props = ap (λ x. is_error_boundary x) (component_Fragment props)

  pub error-Error : (props : ErrorBoundaryProps P C Q V H T E L) → is_error_boundary (component_of (code.ErrorBoundary props)) ≡ true
  error-Error props = ap (λ x. is_error_boundary x) (component_ErrorBoundary props)

  pub error-Suspense : (props : SuspenseBoundaryProps P C Q V H T E L) → is_error_boundary (component_of (code.SuspenseBoundary props)) ≡ false
  error-Suspense props = ap (λ x. is_error_boundary x) (component_SuspenseBoundary props)

  pub error-Root : (props : RootProps P C Q V H T E L) → is_error_boundary (component_of (code.Root props)) ≡ false
  error-Root props = ap (λ x. is_error_boundary x) (component_Root props)

pub ruleset boundaries = (error-App, error-Fragment, error-Error, error-Suspense, error-Root)
