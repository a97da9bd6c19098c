-- What a root wrapper's body leaves.
use Rattle.std.proofs.Common.{◌∙◌, ap}
use Rattle.std.specs.Prelude.{Ok}
use Rattle.rt_model.specs.Tree.{rendered}
use Rattle.rt_model.specs.Run.{root_tree}
use Rattle.rt_scopes.proofs.Settled.{leaves_plain}
use Rattle.rt_scopes.proofs.scopes.Scopes.rooted.Goals as goal

pub returns : goal.returns
returns g c =
    λ scope.
    leaves_plain c.args.self.now.state scope (Ok c.in_ok-tree.tree) c.plain.result (rendered (root_tree c.args.props.now.component c.args.props.now.props)) c.plain.ensures
    (ap rendered (c.in_ok-tree.ensures ∙ ap (λ k. root_tree k c.in_ok-own.own) c.in_ok-component.ensures.copy ∙ ap (λ q. root_tree c.args.props.now.component q) c.in_ok-own.ensures.copy))
