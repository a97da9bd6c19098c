-- Props are equal where their fields are.
use Rattle.std.proofs.Common.{◌≡◌, ◌∙◌, sym, ap}
use Rattle.tree_nodes.specs.declared.vnode.FragmentProps.{FragmentProps}
use Rattle.tree_nodes.specs.declared.vnode.ErrorBoundaryProps.{ErrorBoundaryProps}
use Rattle.tree_nodes.specs.declared.vnode.SuspenseBoundaryProps.{SuspenseBoundaryProps}
use Rattle.tree_nodes.specs.declared.vnode.DynamicNode.TheViews.{out-FragmentProps, roll-FragmentProps, roll-out-FragmentProps, out-ErrorBoundaryProps, roll-ErrorBoundaryProps, roll-out-ErrorBoundaryProps, out-SuspenseBoundaryProps, roll-SuspenseBoundaryProps, roll-out-SuspenseBoundaryProps}

module _ {P Component Props Value Handler TaskState Effect Payload : Type 0} where
  -- props of a fragment
  pub fragments : (p q : FragmentProps P Component Props Value Handler TaskState Effect Payload)
      → (out-FragmentProps P Component Props Value Handler TaskState Effect Payload p).children ≡ (out-FragmentProps P Component Props Value Handler TaskState Effect Payload q).children
      → p ≡ q
  fragments p q children =
      sym (roll-out-FragmentProps P Component Props Value Handler TaskState Effect Payload p) ∙
      ap (λ x. roll-FragmentProps P Component Props Value Handler TaskState Effect Payload (record (out-FragmentProps P Component Props Value Handler TaskState Effect Payload p) { children = x })) children ∙
      roll-out-FragmentProps P Component Props Value Handler TaskState Effect Payload q

  -- props of an error boundary
  pub error_boundaries : (p q : ErrorBoundaryProps P Component Props Value Handler TaskState Effect Payload)
      → (out-ErrorBoundaryProps P Component Props Value Handler TaskState Effect Payload p).children ≡ (out-ErrorBoundaryProps P Component Props Value Handler TaskState Effect Payload q).children
      → (out-ErrorBoundaryProps P Component Props Value Handler TaskState Effect Payload p).handle_error ≡ (out-ErrorBoundaryProps P Component Props Value Handler TaskState Effect Payload q).handle_error
      → p ≡ q
  error_boundaries p q children handler =
      sym (roll-out-ErrorBoundaryProps P Component Props Value Handler TaskState Effect Payload p) ∙
      ap (λ x. roll-ErrorBoundaryProps P Component Props Value Handler TaskState Effect Payload (record (out-ErrorBoundaryProps P Component Props Value Handler TaskState Effect Payload p) { children = x })) children ∙
      ap (λ x. roll-ErrorBoundaryProps P Component Props Value Handler TaskState Effect Payload (record (out-ErrorBoundaryProps P Component Props Value Handler TaskState Effect Payload q) { handle_error = x })) handler ∙
      roll-out-ErrorBoundaryProps P Component Props Value Handler TaskState Effect Payload q

  -- props of a suspense boundary
  pub suspense_boundaries : (p q : SuspenseBoundaryProps P Component Props Value Handler TaskState Effect Payload)
      → (out-SuspenseBoundaryProps P Component Props Value Handler TaskState Effect Payload p).children ≡ (out-SuspenseBoundaryProps P Component Props Value Handler TaskState Effect Payload q).children
      → (out-SuspenseBoundaryProps P Component Props Value Handler TaskState Effect Payload p).fallback ≡ (out-SuspenseBoundaryProps P Component Props Value Handler TaskState Effect Payload q).fallback
      → p ≡ q
  suspense_boundaries p q children fallback =
      sym (roll-out-SuspenseBoundaryProps P Component Props Value Handler TaskState Effect Payload p) ∙
      ap (λ x. roll-SuspenseBoundaryProps P Component Props Value Handler TaskState Effect Payload (record (out-SuspenseBoundaryProps P Component Props Value Handler TaskState Effect Payload p) { children = x })) children ∙
      ap (λ x. roll-SuspenseBoundaryProps P Component Props Value Handler TaskState Effect Payload (record (out-SuspenseBoundaryProps P Component Props Value Handler TaskState Effect Payload q) { fallback = x })) fallback ∙
      roll-out-SuspenseBoundaryProps P Component Props Value Handler TaskState Effect Payload q
