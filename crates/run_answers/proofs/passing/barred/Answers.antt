use Rattle.std.proofs.Common.{ap, sym, ◌∙◌}
use Rattle.std.specs.Prelude.{option_map}
use Rattle.run_state.specs.Mirror.{state_of}
use Rattle.run_state.specs.Names.{work_of}
use Rattle.run_answers.proofs.Passes.{barred_left, barred_none, barred_taken}
use Rattle.run_answers.proofs.passing.barred.Goals as goal

pub returns-then-may_take : goal.returns-then-may_take
returns-then-may_take g c =
    λ kept.
    barred_taken (state_of kept c.args.state.now) (work_of c.in-Some.work) (sym (ap (λ o. option_map work_of o) c.in-Some.is) ∙ c.found.ensures kept)
    (sym (c.may_take.ensures kept) ∙ c.if-may_take.true)

pub returns-else-may_take : goal.returns-else-may_take
returns-else-may_take g c =
    λ kept.
    barred_left (state_of kept c.args.state.now) (work_of c.in-Some.work) (sym (ap (λ o. option_map work_of o) c.in-Some.is) ∙ c.found.ensures kept)
    (sym (c.may_take.ensures kept) ∙ c.if-may_take.false)

pub returns-in-None : goal.returns-in-None
returns-in-None g c = λ kept. barred_none (state_of kept c.args.state.now) (sym (ap (λ o. option_map work_of o) c.in-None.is) ∙ c.found.ensures kept)
