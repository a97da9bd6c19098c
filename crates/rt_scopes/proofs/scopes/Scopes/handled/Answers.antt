-- An error boundary's answer, by the error that it keeps.
use Rattle.std.proofs.Common.{◌∙◌, ◌&&◌, ap, subst}
use Rattle.std.specs.Prelude.{Ok, Some, is_some, option_map}
use Rattle.rt_model.specs.Tree.{rendered}
use Rattle.rt_model.specs.Run.{children_tree}
use Rattle.tree_mirror.specs.Mirror.{error_of, handler_of}
use Rattle.tree_mirror.specs.Sealed.{element_of}
use Rattle.run_state.proofs.Changed.{if_ok}
use Rattle.rt_scopes.specs.Bodies.{Leaves, handled_by}
use Rattle.rt_scopes.specs.Counts.{raised_where}
use Rattle.rt_scopes.proofs.Counted.{on_any}
use Rattle.rt_scopes.proofs.Settled.{leaves_plain}
use Rattle.rt_scopes.proofs.scopes.Scopes.handled.Goals as goal

pub returns-in_default-clause-means : goal.returns-in_default-clause-means
returns-in_default-clause-means g c =
    subst (λ o. Leaves (handled_by (g.A.App.meaning c.args.app.now) (element_of c.args.children.now) (handler_of c.args.handler.now) (option_map error_of o)) c.args.self.now.state c.args.scope c.plain.result)
    c.in_default.ensures
    (leaves_plain c.args.self.now.state c.args.scope (Ok c.in_ok-tree.tree) c.plain.result (rendered (children_tree (element_of c.args.children.now))) c.plain.ensures (ap rendered c.in_ok-tree.ensures))

pub returns-clause-means : goal.returns-clause-means
returns-clause-means g c =
    if_ok c.handle.result c.handle.ensures.means
    (λ parts means.
    subst (λ o. Leaves (handled_by (g.A.App.meaning c.args.app.now) (element_of c.args.children.now) (handler_of c.args.handler.now) (option_map error_of o)) c.args.self.now.state c.args.scope parts)
    c.in-Some.ensures
    (subst (λ t. Leaves (handled_by (g.A.App.meaning c.args.app.now) (element_of c.args.children.now) (handler_of c.args.handler.now) (Some (record { serial = c.in-Some.error.now.serial; text = t }))) c.args.self.now.state c.args.scope parts)
    c.in_ok-text.ensures.copy
    (means (element_of c.args.children.now) c.in-Some.error.now.serial)))

pub returns-in_default-clause-counted : goal.returns-in_default-clause-counted
returns-in_default-clause-counted g c = ap (λ o. raised_where (is_some o && is_some (handler_of c.args.handler.now)) c.args.calls.now) c.in_default.ensures

pub returns-clause-counted : goal.returns-clause-counted
returns-clause-counted g c =
    on_any c.handle.result
    (c.handle.ensures.counted
    ∙ ap (λ o. raised_where (is_some o && is_some (handler_of c.args.handler.now)) c.args.calls.now) c.in-Some.ensures)
