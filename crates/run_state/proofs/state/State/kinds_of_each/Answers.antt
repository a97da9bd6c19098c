use Rattle.std.proofs.Common.{rules, ◌≡◌, [], ◌∙◌}
use Rattle.rt_model.specs.Removal.{kinds_of_scopes}
use Rattle.run_state.specs.Mirror.{scopes_of}
use Rattle.run_state.proofs.state.State.kinds_of_each.Goals as goal

pub returns : goal.returns
returns g c = λ kept.
    let none : c.new-kinds.result.items ≡ [] = search rules in
    c.in_ok-add_listed.ensures.each kept
    (c.in_ok-add_scope_kinds.ensures ∙ (λ i. kinds_of_scopes c.args.scope (scopes_of (c.as_slice.ensures.rows i)) (none i)))
