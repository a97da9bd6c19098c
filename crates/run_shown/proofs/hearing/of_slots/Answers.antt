-- One more slot is heard, from the end.
use Rattle.std.proofs.Common.{◌≡◌, ◌+◌, ◌-◌, ◌<◌, ◌++◌, ◌∙◌, ap, arith, length}
use Rattle.rt_model.specs.Lists.{backwards}
use Rattle.run_shown.specs.Hearing.{listeners_of, slot_given}
use Rattle.run_shown.proofs.Hearings.{back_more}
use Rattle.run_shown.proofs.hearing.of_slots.Goals as goal

pub loop-at-preserved : goal.loop-at-preserved
loop-at-preserved g c =
    let next : c.loop-at.at ≡ c.loop-at.at - 1 + 1 = omega (arith, c.loop-at-test.true) in
    let low : c.loop-at.at - 1 < length c.args.slots.now = omega (arith, c.loop-at-test.true, c.loop-at.auto.at) in
    back_more (λ x. slot_given c.args.event.now c.args.first x) c.args.slots.now (c.loop-at.at - 1) c.loop-at.at c.index-slots-at.result (listeners_of c.loop-at.listeners) (listeners_of c.of_slot.new.listeners)
    (listeners_of c.args.listeners.now ++ backwards (λ x. slot_given c.args.event.now c.args.first x) c.args.slots.now)
    next low c.index-slots-at.is c.loop-at.invariant
    (c.in_ok-of_slot.ensures ∙ ap (λ x. listeners_of c.loop-at.listeners ++ slot_given c.args.event.now c.args.first x) c.as_slice.ensures.items)
