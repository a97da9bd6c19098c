use Rattle.std.proofs.Common.{◌≡◌, ◌∙◌}
use Rattle.run_records.specs.Records.{hook_of}
use Rattle.run_state.proofs.Removed.{clean_step, clean_end}
use Rattle.run_state.proofs.removal.clean_ups.Goals as goal

pub loop-hook-preserved : goal.loop-hook-preserved
loop-hook-preserved g c =
    clean_step hook_of c.args.hooks.now c.loop-hook.hook-index c.hook-item.result c.loop-hook.effects.items c.add_clean_up.new.effects.items c.loop-hook-test.true c.hook-item.is c.in_ok-add_clean_up.ensures
    ∙ c.loop-hook.invariant

pub returns : goal.returns
returns g c =
    c.from_vec.ensures.items ∙ c.reverse.ensures.items ∙ clean_end hook_of c.args.hooks.now c.loop-hook.hook-index c.loop-hook.effects.items _ c.loop-hook-test.false c.loop-hook.invariant
