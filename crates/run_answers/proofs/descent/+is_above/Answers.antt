-- Each step of the way up.
use Rattle.std.proofs.Common.{◌||◌, ◌∙◌}
use Rattle.std.specs.Prelude.{nat_eq}
use Rattle.run_state.specs.Mirror.{scopes_of}
use Rattle.run_state.proofs.Climbed.{is_zero, not_zero}
use Rattle.run_answers.proofs.Asked.{is_above_end, is_above_on, is_above_top}
use Rattle.run_answers.proofs.descent.+is_above.Goals as goal

pub returns-then-steps-eq0 : goal.returns-then-steps-eq0
returns-then-steps-eq0 g t c = is_above_end (scopes_of (c.args.scopes.now.rows).table) c.args.steps c.args.scope c.args.above (is_zero c.args.steps c.if-steps-eq0.true)

pub returns-in-Some : goal.returns-in-Some
returns-in-Some g t c =
    (λ i. nat_eq c.in-Some.parent c.args.above || c.is_above-further.ensures i)
    ∙ is_above_on (scopes_of (c.args.scopes.now.rows).table) c.args.steps c.args.scope c.args.above c.in-Some.parent
    (not_zero c.args.steps c.if-steps-eq0.false) c.in-Some.ensures

pub returns-in-None : goal.returns-in-None
returns-in-None g t c =
    is_above_top (scopes_of (c.args.scopes.now.rows).table) c.args.steps c.args.scope c.args.above (not_zero c.args.steps c.if-steps-eq0.false) c.in-None.ensures
