use Rattle.std.proofs.Common.{◌∙◌, ap, reverse}
use Rattle.run_state.specs.Mirror.{state_of}
use Rattle.rt_scopes.proofs.KnownLeft.{listed_known}
use Rattle.rt_scopes.proofs.going.listed.Goals as goal

pub returns : goal.returns
returns g c =
    λ kept.
    listed_known (state_of kept c.args.state.now) c.args.scope c.in_ok-children_below.field-0 c.from_vec.result
    (c.in_ok-children_below.ensures kept) (c.from_vec.ensures.items ∙ c.reverse.ensures.items ∙ ap (λ xs. reverse xs) c.into_vec-children.ensures.items)
