-- One more hook.
use Rattle.std.proofs.Common.{refl}
use Rattle.rt_scopes.specs.Hooks.{effect_in, effects_in}
use Rattle.rt_scopes.proofs.Spots.{all_done, one_more}
use Rattle.rt_scopes.proofs.effects.effects_of_kind.Goals as goal

pub loop-hook-preserved : goal.loop-hook-preserved
loop-hook-preserved g c =
    one_more (λ xs. effects_in c.args.kind xs) c.args.hooks.now c.loop-hook.hook-index c.hook-item.result c.loop-hook.effects c.add_effect.new.effects
    (effect_in c.args.kind c.hook-item.result) (effects_in c.args.kind c.args.hooks.now) c.loop-hook-test.true c.hook-item.is refl c.loop-hook.invariant
    c.in_ok-add_effect.ensures

pub returns : goal.returns
returns g c =
    all_done (λ xs. effects_in c.args.kind xs) c.args.hooks.now c.loop-hook.hook-index c.loop-hook.effects (effects_in c.args.kind c.args.hooks.now)
    c.loop-hook-test.false refl c.loop-hook.invariant
