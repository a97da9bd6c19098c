use Rattle.std.proofs.Common.{◌∙◌, ap, cond, false, refl}
use Rattle.run_state.specs.Effects.{has_rank}
use Rattle.run_state.proofs.Ranked.{rank_apart}
use Rattle.run_state.proofs.mounting.drop_hidden.Goals as goal

pub loop-above-init : goal.loop-above-init
loop-above-init c = λ a s other. refl

pub loop-above-smaller : goal.loop-above-smaller
loop-above-smaller c = c.remove-in-Some.ensures.fewer c.in-Some.ensures.first

pub loop-above-preserved : goal.loop-above-preserved
loop-above-preserved c =
    λ a s other.
    c.remove.ensures.left a s
    ∙ ap (λ b. cond b false (has_rank c.loop-above.hidden a s)) (rank_apart c.in-Some.above c.args.scope a s other)
    ∙ c.loop-above.invariant a s other

pub returns : goal.returns
returns c = c.loop-above.invariant
