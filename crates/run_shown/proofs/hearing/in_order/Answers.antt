-- One more is heard, and at the end all are.
use Rattle.std.proofs.Common.{◌++◌, ◌∙◌, ap}
use Rattle.std.specs.Prelude.{flat_map}
use Rattle.run_shown.specs.Hearing.{listeners_of, first_listening}
use Rattle.run_shown.proofs.Hearings.{next_more, next_done}
use Rattle.run_shown.proofs.hearing.in_order.Goals as goal

pub loop-slot-preserved : goal.loop-slot-preserved
loop-slot-preserved g c =
    next_more (λ x. first_listening c.args.event.now x) c.args.slots.now c.loop-slot.slot-index c.slot-item.result (listeners_of c.loop-slot.listeners) (listeners_of c.first_listener.new.listeners)
    (listeners_of c.args.listeners.now ++ flat_map (λ x. first_listening c.args.event.now x) c.args.slots.now)
    c.loop-slot-test.true c.slot-item.is c.loop-slot.invariant
    (c.in_ok-first_listener.ensures ∙ ap (λ x. listeners_of c.loop-slot.listeners ++ first_listening c.args.event.now x) c.as_slice.ensures.items)

pub returns : goal.returns
returns g c =
    next_done (λ x. first_listening c.args.event.now x) c.args.slots.now c.loop-slot.slot-index (listeners_of c.loop-slot.listeners)
    (listeners_of c.args.listeners.now ++ flat_map (λ x. first_listening c.args.event.now x) c.args.slots.now)
    c.loop-slot-test.false c.loop-slot.invariant
