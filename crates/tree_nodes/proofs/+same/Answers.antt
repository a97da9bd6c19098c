-- Props are equal where their fields are.
use Rattle.std.proofs.Common.{rules, ap}
use Rattle.tree_nodes.proofs.PropsLemmas.{fragments, error_boundaries, suspense_boundaries}
use Rattle.tree_nodes.specs.declared.vnode.DynamicNode.TheViews.{out-FragmentProps, out-ErrorBoundaryProps, out-SuspenseBoundaryProps}
use Rattle.tree_nodes.proofs.+same.Goals as goal

pub vnode::FragmentProps::same-returns : goal.vnode::FragmentProps::same-returns
vnode::FragmentProps::same-returns g t c = (
  λ told. fragments c.args.self.now c.args.other.now (c.same_children.ensures.0 told),
  λ same. c.same_children.ensures.1 (ap (λ p. (out-FragmentProps _ _ _ _ _ _ _ _ p).children) same),
)

pub vnode::ErrorBoundaryProps::same-returns-then-same : goal.vnode::ErrorBoundaryProps::same-returns-then-same
vnode::ErrorBoundaryProps::same-returns-then-same g t c = (
  λ told. error_boundaries c.args.self.now c.args.other.now (c.same_children.ensures.0 told) (search rules),
  λ same. c.same_children.ensures.1 (ap (λ p. (out-ErrorBoundaryProps _ _ _ _ _ _ _ _ p).children) same),
)

pub vnode::SuspenseBoundaryProps::same-returns-then-same : goal.vnode::SuspenseBoundaryProps::same-returns-then-same
vnode::SuspenseBoundaryProps::same-returns-then-same g t c = (
  λ told. suspense_boundaries c.args.self.now c.args.other.now (c.same_children.ensures.0 told) (search rules),
  λ same. c.same_children.ensures.1 (ap (λ p. (out-SuspenseBoundaryProps _ _ _ _ _ _ _ _ p).children) same),
)
