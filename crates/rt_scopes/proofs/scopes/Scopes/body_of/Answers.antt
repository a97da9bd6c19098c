-- The body of each kind of component.
use Rattle.std.proofs.Common.{◌∙◌, refl, ap, subst}
use Rattle.std.specs.Prelude.{[]}
use Rattle.rt_model.specs.Tree.{ErrorBoundary}
use Rattle.rt_model.specs.Run.{body_of, plain}
use Rattle.tree_mirror.specs.Mirror.{fallback_of, handler_of}
use Rattle.tree_mirror.specs.Sealed.{element_of}
use Rattle.tree_mirror.proofs.SealedComponents.{component_App, component_Root}
use Rattle.run_state.proofs.Changed.{if_ok, on_ok}
use Rattle.rt_scopes.specs.Bodies.{Leaves}
use Rattle.rt_scopes.specs.Counts.{raised_where}
use Rattle.rt_scopes.proofs.BuiltIns.{error_boundary_children, error_boundary_handler, error_boundary_is, fragment_is, suspense_boundary_children, suspense_boundary_fallback, suspense_boundary_is}
use Rattle.rt_scopes.proofs.Counted.{on_any}
use Rattle.rt_scopes.proofs.Settled.{own_fallback, raises_handler}
use Rattle.rt_scopes.proofs.scopes.Scopes.body_of.Goals as goal

pub returns-in-App-clause-means : goal.returns-in-App-clause-means
returns-in-App-clause-means g c = rw (c.in-App.is, component_App g.row.A.Denot c.in-App.component c.in-App.props) c.render.ensures.means

pub returns-in-Root-clause-means : goal.returns-in-Root-clause-means
returns-in-Root-clause-means g c = rw (c.in-Root.is, component_Root c.in-Root.props) (if_ok c.rooted.result c.rooted.ensures (λ parts means. means c.args.scope))

pub returns-in-Fragment-clause-means : goal.returns-in-Fragment-clause-means
returns-in-Fragment-clause-means g c =
    rw (c.in-Fragment.is, fragment_is c.in-Fragment.props)
    (if_ok c.fragment.result c.fragment.ensures
    (λ parts means. subst (λ r. Leaves (λ w. plain w [] (element_of r)) c.args.self.now.state c.args.scope parts) c.get.ensures.value (means c.args.scope)))

pub returns-in-ErrorBoundary-clause-means : goal.returns-in-ErrorBoundary-clause-means
returns-in-ErrorBoundary-clause-means g c =
    rw (c.in-ErrorBoundary.is, error_boundary_is c.in-ErrorBoundary.props)
    (if_ok c.caught.result c.caught.ensures.means
    (λ parts means. subst (λ r. Leaves (body_of (g.A.App.meaning c.args.app.now) (ErrorBoundary (element_of r) (handler_of (error_boundary_handler c.in-ErrorBoundary.props)))) c.args.self.now.state c.args.scope parts) c.get-in-ErrorBoundary.ensures.value means))

pub returns-in-SuspenseBoundary-clause-means : goal.returns-in-SuspenseBoundary-clause-means
returns-in-SuspenseBoundary-clause-means g c =
    rw (c.in-SuspenseBoundary.is, suspense_boundary_is c.in-SuspenseBoundary.props)
    (if_ok c.fallback.result c.fallback.ensures.means (λ parts means. means (element_of (suspense_boundary_children c.in-SuspenseBoundary.props))))

pub returns-in-App-clause-counted : goal.returns-in-App-clause-counted
returns-in-App-clause-counted g c = rw (c.in-App.is, component_App g.row.A.Denot c.in-App.component c.in-App.props) (on_any c.render.result (λ kept. c.render.ensures.counted))

pub returns-in-Root-clause-counted : goal.returns-in-Root-clause-counted
returns-in-Root-clause-counted g c = rw (c.in-Root.is, component_Root c.in-Root.props) (on_any c.rooted.result (λ kept. refl))

pub returns-in-Fragment-clause-counted : goal.returns-in-Fragment-clause-counted
returns-in-Fragment-clause-counted g c = rw (c.in-Fragment.is, fragment_is c.in-Fragment.props) (on_any c.fragment.result (λ kept. refl))

pub returns-in-ErrorBoundary-clause-counted : goal.returns-in-ErrorBoundary-clause-counted
returns-in-ErrorBoundary-clause-counted g c =
    rw (c.in-ErrorBoundary.is, error_boundary_is c.in-ErrorBoundary.props)
    (on_ok c.caught.result c.caught.ensures.counted
    (λ raised.
    raises_handler c.args.self.now.state c.args.scope c.args.calls.now c.caught.new.calls (element_of (error_boundary_children c.in-ErrorBoundary.props)) (handler_of (error_boundary_handler c.in-ErrorBoundary.props)) raised))

pub returns-in-SuspenseBoundary-clause-counted : goal.returns-in-SuspenseBoundary-clause-counted
returns-in-SuspenseBoundary-clause-counted g c =
    rw (c.in-SuspenseBoundary.is, suspense_boundary_is c.in-SuspenseBoundary.props)
    (on_any c.fallback.result
    (λ kept.
    c.fallback.ensures.counted
    ∙ ap (λ own. raised_where own c.args.calls.now)
    (own_fallback (element_of (suspense_boundary_children c.in-SuspenseBoundary.props)) (fallback_of (suspense_boundary_fallback c.in-SuspenseBoundary.props)) _)))
