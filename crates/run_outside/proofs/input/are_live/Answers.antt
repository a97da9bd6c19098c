use Rattle.std.proofs.Common.{◌&&◌, ◌+◌, ◌∙◌, ap, drop, sym}
use Rattle.std.proofs.Math.ListN.{drop_of_length-le}
use Rattle.std.proofs.lemmas.List.{at_drop_more}
use Rattle.run_state.specs.Mirror.{state_of}
use Rattle.run_outside.specs.Among.{are_live}
use Rattle.run_outside.proofs.input.are_live.Goals as goal

pub returns-then-not-is_live : goal.returns-then-not-is_live
returns-then-not-is_live g c =
    λ kept.
    let w = state_of kept c.args.state.now in
    let scopes = c.args.scopes.now in
    let index = c.loop-index.index in
    sym (ap (λ b. b && are_live w (drop (index + 1) scopes)) (sym (c.is_live.ensures kept) ∙ c.if-not-is_live.true))
    ∙ sym (at_drop_more (λ xs. are_live w xs) scopes index 0 c.loop-index-test.true)
    ∙ c.loop-index.invariant kept

pub loop-index-preserved : goal.loop-index-preserved
loop-index-preserved g c =
    λ kept.
    let w = state_of kept c.args.state.now in
    let scopes = c.args.scopes.now in
    let index = c.loop-index.index in
    sym (ap (λ b. b && are_live w (drop (index + 1) scopes)) (sym (c.is_live.ensures kept) ∙ c.if-not-is_live.false))
    ∙ sym (at_drop_more (λ xs. are_live w xs) scopes index 0 c.loop-index-test.true)
    ∙ c.loop-index.invariant kept

pub returns : goal.returns
returns g c =
    λ kept.
    ap (λ xs. are_live (state_of kept c.args.state.now) xs) (sym (drop_of_length-le c.args.scopes.now c.loop-index-test.false))
    ∙ c.loop-index.invariant kept
