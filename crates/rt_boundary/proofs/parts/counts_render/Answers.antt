-- Whether an answer counts, by the kind of the component.
use Rattle.std.proofs.Common.{refl}
use Rattle.tree_mirror.specs.Sealed.{element_of}
use Rattle.tree_mirror.proofs.SealedComponents.{component_App, component_Root}
use Rattle.rt_scopes.proofs.BuiltIns.{error_boundary_is, fragment_is, suspense_boundary_children, suspense_boundary_is}
use Rattle.rt_boundary.proofs.parts.counts_render.Goals as goal

pub returns-in-SuspenseBoundary : goal.returns-in-SuspenseBoundary
returns-in-SuspenseBoundary g c =
    rw (c.in-SuspenseBoundary.is, suspense_boundary_is c.in-SuspenseBoundary.props) (c.counts_answer.ensures (element_of (suspense_boundary_children c.in-SuspenseBoundary.props)))

pub returns-in-App : goal.returns-in-App
returns-in-App g c = rw (c.in-App.is, component_App g.row.P.Denot c.in-App.component c.in-App.props) refl

pub returns-in-Fragment : goal.returns-in-Fragment
returns-in-Fragment g c = rw (c.in-Fragment.is, fragment_is c.in-Fragment.field-0) refl

pub returns-in-ErrorBoundary : goal.returns-in-ErrorBoundary
returns-in-ErrorBoundary g c = rw (c.in-ErrorBoundary.is, error_boundary_is c.in-ErrorBoundary.field-0) refl

pub returns-in-Root : goal.returns-in-Root
returns-in-Root g c = rw (c.in-Root.is, component_Root c.in-Root.field-0) refl
