-- One more is heard, from the end.
use Rattle.std.proofs.Common.{◌≡◌, ◌+◌, ◌-◌, ◌<◌, ◌++◌, arith, length}
use Rattle.rt_model.specs.Lists.{backwards}
use Rattle.run_shown.specs.Hearing.{attribute_heard, listeners_of}
use Rattle.run_shown.proofs.Hearings.{back_more}
use Rattle.run_shown.proofs.hearing.all_matching.Goals as goal

pub loop-at-preserved : goal.loop-at-preserved
loop-at-preserved g c =
    let next : c.loop-at.at ≡ c.loop-at.at - 1 + 1 = omega (arith, c.loop-at-test.true) in
    let low : c.loop-at.at - 1 < length c.args.slot.now = omega (arith, c.loop-at-test.true, c.loop-at.auto.at) in
    back_more (λ x. attribute_heard c.args.event.now x) c.args.slot.now (c.loop-at.at - 1) c.loop-at.at c.index-slot-at.result (listeners_of c.loop-at.listeners) (listeners_of c.add_matching.new.listeners)
    (listeners_of c.args.listeners.now ++ backwards (λ x. attribute_heard c.args.event.now x) c.args.slot.now)
    next low c.index-slot-at.is c.loop-at.invariant c.in_ok-add_matching.ensures
