-- The children of each kind of component.
use Rattle.std.proofs.Common.{◌∙◌, ap}
use Rattle.rt_model.specs.Boundary.{tree_or_placeholder}
use Rattle.tree_mirror.specs.Sealed.{element_of}
use Rattle.tree_mirror.proofs.SealedComponents.{component_App, component_Root}
use Rattle.rt_scopes.proofs.BuiltIns.{error_boundary_is, fragment_is, suspense_boundary_is}
use Rattle.rt_scopes.proofs.TreesAnswered.{placeholder_is}
use Rattle.run_state.proofs.Changed.{if_ok}
use Rattle.rt_boundary.proofs.parts.children_of.Goals as goal

pub returns-in-SuspenseBoundary : goal.returns-in-SuspenseBoundary
returns-in-SuspenseBoundary g c =
    rw (c.in-SuspenseBoundary.is, suspense_boundary_is c.in-SuspenseBoundary.props)
    (if_ok c.copy_tree.result c.copy_tree.ensures (λ t is. is ∙ ap (λ r. tree_or_placeholder (element_of r)) c.get.ensures.value))

pub returns-in-App : goal.returns-in-App
returns-in-App g c = rw (c.in-App.is, component_App g.row.P.Denot c.in-App.component c.in-App.props) (if_ok c.placeholder.result c.placeholder.ensures.tree (λ t is. placeholder_is t is))

pub returns-in-Fragment : goal.returns-in-Fragment
returns-in-Fragment g c = rw (c.in-Fragment.is, fragment_is c.in-Fragment.field-0) (if_ok c.placeholder-in-Fragment.result c.placeholder-in-Fragment.ensures.tree (λ t is. placeholder_is t is))

pub returns-in-ErrorBoundary : goal.returns-in-ErrorBoundary
returns-in-ErrorBoundary g c = rw (c.in-ErrorBoundary.is, error_boundary_is c.in-ErrorBoundary.field-0) (if_ok c.placeholder-in-ErrorBoundary.result c.placeholder-in-ErrorBoundary.ensures.tree (λ t is. placeholder_is t is))

pub returns-in-Root : goal.returns-in-Root
returns-in-Root g c = rw (c.in-Root.is, component_Root c.in-Root.field-0) (if_ok c.placeholder-in-Root.result c.placeholder-in-Root.ensures.tree (λ t is. placeholder_is t is))
