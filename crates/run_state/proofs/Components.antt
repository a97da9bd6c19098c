-- Which component is a suspense boundary.
use Rattle.std.proofs.Common.{◌≡◌, true, false, ap}
use Rattle.tree_nodes.specs.declared.vnode.VComponent.TheVariants as code
use Rattle.tree_nodes.specs.declared.vnode.FragmentProps.{FragmentProps}
use Rattle.tree_nodes.specs.declared.vnode.ErrorBoundaryProps.{ErrorBoundaryProps}
use Rattle.tree_nodes.specs.declared.vnode.SuspenseBoundaryProps.{SuspenseBoundaryProps}
use Rattle.tree_nodes.specs.declared.vnode.RootProps.{RootProps}
use Rattle.rt_model.specs.Tree.{is_suspense_boundary}
use Rattle.tree_mirror.specs.Sealed.{component_of}
use Rattle.tree_mirror.proofs.SealedComponents.{component_App, component_Root, component_Fragment, component_ErrorBoundary, component_SuspenseBoundary}

module _ (P C Q V H T E L : Type 0) where
  pub suspense-App : (c : C) (q : Q) → is_suspense_boundary (component_of {P = P} {C = C} {Q = Q} {V = V} {H = H} {T = T} {E = E} {L = L} (code.App c q)) ≡ false
  suspense-App c q = ap (λ x. is_suspense_boundary x) (component_App {C = C} {Q = Q} {V = V} {H = H} {T = T} {E = E} {L = L} P c q)

module _ {P C Q V H T E L : Type 0} where
  pub suspense-Fragment : (props : FragmentProps P C Q V H T E L) → is_suspense_boundary (component_of (code.Fragment props)) ≡ false
  suspense-Fragment props = ap (λ x. is_suspense_boundary x) (component_Fragment props)

  pub suspense-Error : (props : ErrorBoundaryProps P C Q V H T E L) → is_suspense_boundary (component_of (code.ErrorBoundary props)) ≡ false
  suspense-Error props = ap (λ x. is_suspense_boundary x) (component_ErrorBoundary props)

  pub suspense-Suspense : (props : SuspenseBoundaryProps P C Q V H T E L) → is_suspense_boundary (component_of (code.SuspenseBoundary props)) ≡ true
  suspense-Suspense props = ap (λ x. is_suspense_boundary x) (component_SuspenseBoundary props)

  pub suspense-Root : (props : RootProps P C Q V H T E L) → is_suspense_boundary (component_of (code.Root props)) ≡ false
  suspense-Root props = ap (λ x. is_suspense_boundary x) (component_Root props)

pub ruleset components = (suspense-App, suspense-Fragment, suspense-Error, suspense-Suspense, suspense-Root)
