use Rattle.std.proofs.Common.{◌||◌, ◌∙◌, ap, sym}
use Rattle.std.specs.Prelude.{is_some}
use Rattle.run_state.specs.Mirror.{state_of}
use Rattle.run_answers.specs.Owed.{first_effects}
use Rattle.run_answers.proofs.owed.comes_later.Goals as goal

pub returns-then-turns_up : goal.returns-then-turns_up
returns-then-turns_up g c =
    λ kept.
    let w = state_of kept c.args.state.now in
    c.if-turns_up.true ∙ ap (λ b. b || is_some (first_effects w.scopes)) (sym (sym (c.turns_up.ensures kept) ∙ c.if-turns_up.true))

pub returns-else-turns_up : goal.returns-else-turns_up
returns-else-turns_up g c =
    λ kept.
    let w = state_of kept c.args.state.now in
    c.is_some.ensures
    ∙ ap (λ o. is_some o) c.first_with_effects.ensures
    ∙ ap (λ b. b || is_some (first_effects w.scopes)) (sym (sym (c.turns_up.ensures kept) ∙ c.if-turns_up.false))
