-- One more stands at the end of what is kept, and its scope among the others.
use Rattle.std.proofs.Common.{◌≡◌, true, subst}
use Rattle.rt_model.specs.Lists.{has}
use Rattle.run_outside.proofs.Awaited.{among_more, among_end}
use Rattle.run_outside.proofs.awaiting.Awaiting.put_first.Goals as goal

pub invariant_of-self : goal.invariant_of-self
invariant_of-self g c =
    among_more g.T.InScope.scope_of c.self.inside.scopes.items c.add_scope.new.scopes.items c.self.inside.items.items c.add_scope.ensures.others c.self.invariant

pub invariant_of-self-in_err-push : goal.invariant_of-self-in_err-push
invariant_of-self-in_err-push g c =
    rw c.in_err-push.ensures.items
    (among_more g.T.InScope.scope_of c.self.inside.scopes.items c.add_scope.new.scopes.items c.self.inside.items.items c.add_scope.ensures.others c.self.invariant)

pub invariant_of-self-2 : goal.invariant_of-self-2
invariant_of-self-2 g c =
    let scope_of = g.T.InScope.scope_of in
    let scopes = c.add_scope.new.scopes.items in
    let items = c.self.inside.items.items in
    rw c.in_ok-push.ensures.items
    (among_end scope_of scopes items c.args.item (among_more scope_of c.self.inside.scopes.items scopes items c.add_scope.ensures.others c.self.invariant)
    (subst (λ n. has scopes n ≡ true) c.scope.ensures.scope c.in_ok-add_scope.ensures.added))
