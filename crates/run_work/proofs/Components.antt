-- Components at the mirror.
use Rattle.tree_mirror.proofs.SealedComponents.{component_App, component_Root, component_Fragment, component_ErrorBoundary, component_SuspenseBoundary}

pub ruleset components = (component_App, component_Root, component_Fragment, component_ErrorBoundary, component_SuspenseBoundary)
