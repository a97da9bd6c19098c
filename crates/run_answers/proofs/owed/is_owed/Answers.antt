use Rattle.std.proofs.Common.{◌||◌, ◌∙◌, ap, sym}
use Rattle.run_state.specs.Mirror.{state_of}
use Rattle.run_answers.specs.Owed.{comes_later}
use Rattle.run_answers.proofs.owed.is_owed.Goals as goal

pub returns-then-comes_up : goal.returns-then-comes_up
returns-then-comes_up g c =
    λ kept.
    let w = state_of kept c.args.state.now in
    c.if-comes_up.true ∙ ap (λ b. b || comes_later w) (sym (sym (c.comes_up.ensures kept) ∙ c.if-comes_up.true))

pub returns-else-comes_up : goal.returns-else-comes_up
returns-else-comes_up g c =
    λ kept.
    let w = state_of kept c.args.state.now in
    c.comes_later.ensures kept ∙ ap (λ b. b || comes_later w) (sym (sym (c.comes_up.ensures kept) ∙ c.if-comes_up.false))
