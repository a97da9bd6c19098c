use Rattle.std.proofs.Common.{◌∙◌, ap, cond, false, get_or, refl}
use Rattle.run_state.specs.Effects.{has_rank}
use Rattle.run_state.proofs.Ranked.{rank_apart}
use Rattle.run_state.proofs.holding.drop_pairs.Goals as goal

pub loop-holder-init : goal.loop-holder-init
loop-holder-init c = λ t s other. refl

pub loop-holder-preserved : goal.loop-holder-preserved
loop-holder-preserved c =
    λ t s other.
    c.remove.ensures.left t s
    ∙ ap (λ b. cond b false (has_rank c.loop-holder.pairs t s)) (rank_apart ((get_or c.args.holders.now c.loop-holder.holder-index (record { origin = record { 0 = 0 }; task = record { 0 = 0 } })).task).0 c.args.scope t s other)
    ∙ c.loop-holder.invariant t s other

pub returns : goal.returns
returns c = c.loop-holder.invariant
