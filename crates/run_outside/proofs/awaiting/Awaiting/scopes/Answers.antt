-- The order of what is called doesn't count.
use Rattle.std.proofs.Common.{◌≡◌, true, sym, subst, reverse}
use Rattle.rt_model.specs.Lists.{has}
use Rattle.run_outside.specs.Among.{are_among}
use Rattle.run_outside.proofs.Awaited.{all_back}
use Rattle.run_outside.proofs.awaiting.Awaiting.scopes.Goals as goal

pub returns : goal.returns
returns g c =
    let scope_of = g.T.InScope.scope_of in
    let items = c.self.inside.items.items in
    record {
      scopes =
          subst (λ xs. are_among scope_of c.as_slice.result.now xs ≡ true) c.self.view_is
          (subst (λ ns. are_among scope_of ns (reverse items) ≡ true) (sym c.as_slice.ensures.value)
          (all_back (λ item. has c.self.inside.scopes.items (scope_of item)) items c.self.invariant));
    }
