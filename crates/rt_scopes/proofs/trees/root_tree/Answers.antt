-- The application's root in an error boundary, and that in a suspense boundary.
use Rattle.std.proofs.Common.{◌∙◌, ap}
use Rattle.std.specs.Prelude.{None}
use Rattle.tree_nodes.specs.declared.vnode.ErrorHandler.TheVariants as handlers
use Rattle.tree_nodes.specs.declared.vnode.Fallback.TheVariants as fallbacks
use Rattle.rt_model.specs.Tree.{ErrorBoundary, SuspenseBoundary, component_slot, one_slot, rendered}
use Rattle.tree_mirror.specs.Sealed.{element_of}
use Rattle.tree_mirror.proofs.SealedComponents.{component_App}
use Rattle.tree_mirror.proofs.SealedTrees.{slot_Component}
use Rattle.run_state.proofs.Changed.{if_ok}
use Rattle.rt_scopes.proofs.BuiltIns.{error_boundary_made, suspense_boundary_made}
use Rattle.rt_scopes.proofs.trees.root_tree.Goals as goal

pub returns : goal.returns
returns g c =
    let inner = c.in_ok-inner.ensures ∙ ap one_slot (slot_Component _ ∙ ap component_slot (component_App g.row.P.Denot c.args.component c.args.props)) in
    let middle =
    c.in_ok-middle.ensures
    ∙ ap one_slot (slot_Component _ ∙ ap component_slot (error_boundary_made c.in_ok-new.field-0 handlers.Default ∙ ap (λ e. ErrorBoundary e None) (ap element_of c.in_ok-new.ensures.value ∙ ap rendered inner))) in
    if_ok c.one_slot-3.result c.one_slot-3.ensures
    (λ t is.
    is
    ∙ ap one_slot (slot_Component _ ∙ ap component_slot (suspense_boundary_made c.in_ok-new-2.field-0 fallbacks.Placeholder ∙ ap (λ e. SuspenseBoundary e None) (ap element_of c.in_ok-new-2.ensures.value ∙ ap rendered middle))))
