-- One more is heard, and at the end all are.
use Rattle.std.proofs.Common.{◌++◌, ◌∙◌, ap, false}
use Rattle.std.specs.Prelude.{flat_map}
use Rattle.run_shown.specs.Hearing.{listeners_of, slots_heard}
use Rattle.run_shown.proofs.Hearings.{next_more, next_done}
use Rattle.run_shown.proofs.hearing.climbing.Goals as goal

pub loop-slots-preserved : goal.loop-slots-preserved
loop-slots-preserved g c =
    next_more (λ x. slots_heard c.args.event.now false x) c.args.above.now c.loop-slots.slots-index c.slots-item.result (listeners_of c.loop-slots.listeners) (listeners_of c.of_slots.new.listeners)
    (listeners_of c.args.listeners.now ++ flat_map (λ x. slots_heard c.args.event.now false x) c.args.above.now)
    c.loop-slots-test.true c.slots-item.is c.loop-slots.invariant
    (c.in_ok-of_slots.ensures ∙ ap (λ x. listeners_of c.loop-slots.listeners ++ slots_heard c.args.event.now false x) c.as_slice.ensures.items)

pub returns : goal.returns
returns g c =
    next_done (λ x. slots_heard c.args.event.now false x) c.args.above.now c.loop-slots.slots-index (listeners_of c.loop-slots.listeners)
    (listeners_of c.args.listeners.now ++ flat_map (λ x. slots_heard c.args.event.now false x) c.args.above.now)
    c.loop-slots-test.false c.loop-slots.invariant
