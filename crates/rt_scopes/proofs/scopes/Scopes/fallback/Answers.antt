-- The fallback, by whether it has a component.
use Rattle.std.proofs.Common.{refl, ap}
use Rattle.std.specs.Prelude.{Ok}
use Rattle.rt_model.specs.Tree.{placeholder_tree, rendered}
use Rattle.rt_scopes.proofs.Settled.{leaves_plain}
use Rattle.rt_scopes.proofs.TreesAnswered.{placeholder_is}
use Rattle.run_state.proofs.Changed.{if_ok}
use Rattle.rt_scopes.proofs.scopes.Scopes.fallback.Goals as goal

pub returns-in_ok-tree-in-Placeholder-clause-means : goal.returns-in_ok-tree-in-Placeholder-clause-means
returns-in_ok-tree-in-Placeholder-clause-means g c =
    rw c.in-Placeholder.is
    (λ children. leaves_plain c.args.self.now.state c.args.scope (Ok c.in_ok-tree-in-Placeholder.tree) c.plain.result (rendered placeholder_tree) c.plain.ensures (ap rendered (placeholder_is c.in_ok-tree-in-Placeholder.tree c.in_ok-tree-in-Placeholder.ensures.tree)))

pub returns-in-Component-clause-means : goal.returns-in-Component-clause-means
returns-in-Component-clause-means g c = rw c.in-Component.is (if_ok c.render.result c.render.ensures.means (λ parts means children. means))

pub returns-in_ok-tree-in-Placeholder-clause-counted : goal.returns-in_ok-tree-in-Placeholder-clause-counted
returns-in_ok-tree-in-Placeholder-clause-counted g c = rw c.in-Placeholder.is refl

pub returns-in_err-tree-in-Placeholder-clause-counted : goal.returns-in_err-tree-in-Placeholder-clause-counted
returns-in_err-tree-in-Placeholder-clause-counted g c = rw c.in-Placeholder.is refl

pub returns-in-Component-clause-counted : goal.returns-in-Component-clause-counted
returns-in-Component-clause-counted g c = rw c.in-Component.is c.render.ensures.counted
