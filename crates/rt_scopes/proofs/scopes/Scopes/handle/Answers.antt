-- What handles an error, by whether a component does.
use Rattle.std.proofs.Common.{refl, ap}
use Rattle.std.specs.Prelude.{Ok}
use Rattle.rt_model.specs.Tree.{rendered}
use Rattle.rt_model.specs.Run.{error_tree}
use Rattle.run_state.proofs.Changed.{if_ok}
use Rattle.rt_scopes.proofs.Settled.{leaves_plain}
use Rattle.rt_scopes.proofs.scopes.Scopes.handle.Goals as goal

pub returns-in_ok-tree-in-Default-clause-means : goal.returns-in_ok-tree-in-Default-clause-means
returns-in_ok-tree-in-Default-clause-means g c =
    rw c.in-Default.is
    (λ children serial. leaves_plain c.args.self.now.state c.args.scope (Ok c.in_ok-tree-in-Default.tree) c.plain.result (rendered (error_tree c.args.text)) c.plain.ensures (ap rendered c.in_ok-tree-in-Default.ensures))

pub returns-in-Component-clause-means : goal.returns-in-Component-clause-means
returns-in-Component-clause-means g c = rw c.in-Component.is (if_ok c.render.result c.render.ensures.means (λ parts means children serial. means))

pub returns-in_ok-tree-in-Default-clause-counted : goal.returns-in_ok-tree-in-Default-clause-counted
returns-in_ok-tree-in-Default-clause-counted g c = rw c.in-Default.is refl

pub returns-in_err-tree-in-Default-clause-counted : goal.returns-in_err-tree-in-Default-clause-counted
returns-in_err-tree-in-Default-clause-counted g c = rw c.in-Default.is refl

pub returns-in-Component-clause-counted : goal.returns-in-Component-clause-counted
returns-in-Component-clause-counted g c = rw c.in-Component.is c.render.ensures.counted
