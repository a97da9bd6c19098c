use Rattle.std.proofs.Common.{◌∙◌, ap, reverse, sym}
use Rattle.std.specs.Prelude.{slice_get}
use Rattle.run_state.specs.Mirror.{state_of}
use Rattle.rt_scopes.specs.Knowing.{last_live, live_of}
use Rattle.rt_scopes.proofs.KnownLeft.{last_is_gone, last_is_live}
use Rattle.rt_scopes.proofs.going.first_left.Goals as goal

pub returns-then-is_live-clause-first : goal.returns-then-is_live-clause-first
returns-then-is_live-clause-first g c =
    λ kept.
    let w = state_of kept c.args.state.now in
    sym (last_is_live w c.pop.new.self c.loop-scope.left c.in-Some.scope c.in-Some.ensures.last (sym (c.is_live.ensures kept) ∙ c.if-is_live.true))
    ∙ ap (λ xs. slice_get xs 0) (c.loop-scope.invariant kept)

pub returns-then-is_live-clause-same : goal.returns-then-is_live-clause-same
returns-then-is_live-clause-same g c =
    λ kept.
    ap (λ xs. live_of (state_of kept c.args.state.now) (reverse xs)) (c.in_ok-push.ensures.ok ∙ sym c.in-Some.ensures.last) ∙ c.loop-scope.invariant kept

pub loop-scope-preserved : goal.loop-scope-preserved
loop-scope-preserved g c =
    λ kept.
    last_is_gone (state_of kept c.args.state.now) c.pop.new.self c.loop-scope.left c.in-Some.scope c.in-Some.ensures.last (sym (c.is_live.ensures kept) ∙ c.if-is_live.false)
    ∙ c.loop-scope.invariant kept

pub returns-clause-first : goal.returns-clause-first
returns-clause-first g c =
    λ kept.
    ap (λ xs. last_live (state_of kept c.args.state.now) xs) (sym c.in_default.ensures.last.0) ∙ ap (λ xs. slice_get xs 0) (c.loop-scope.invariant kept)

pub returns-clause-same : goal.returns-clause-same
returns-clause-same g c =
    λ kept.
    ap (λ xs. live_of (state_of kept c.args.state.now) (reverse xs)) (c.in_default.ensures.last.1 ∙ sym c.in_default.ensures.last.0) ∙ c.loop-scope.invariant kept
