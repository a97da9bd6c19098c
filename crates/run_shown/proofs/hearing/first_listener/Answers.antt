-- The first one that matches is heard, or none.
use Rattle.std.proofs.Common.{ap, drop, sym}
use Rattle.std.proofs.Math.ListN.{drop_of_length-le}
use Rattle.std.proofs.lemmas.Result.{on_ok_weaker}
use Rattle.run_shown.specs.Hearing.{first_listening, value_heard}
use Rattle.run_shown.proofs.Hearings.{listening_here, heard_here, none_here}
use Rattle.run_shown.proofs.hearing.first_listener.Goals as goal

pub returns-then-is_listener : goal.returns-then-is_listener
returns-then-is_listener g c =
    on_ok_weaker c.add_listener.result
    (λ more. heard_here c.args.listeners.now c.loop-attribute.listeners c.add_listener.new.listeners (value_heard c.attribute-item.result.value)
    (first_listening c.args.event.now (drop c.loop-attribute.attribute-index c.args.slot.now)) (first_listening c.args.event.now c.args.slot.now) c.loop-attribute.invariant.same
    (listening_here c.args.event.now c.args.slot.now c.loop-attribute.attribute-index c.attribute-item.result c.loop-attribute-test.true c.attribute-item.is (sym c.if-matches.ensures) (sym c.if-is_listener.ensures))
    c.loop-attribute.invariant.left more)
    c.add_listener.ensures

pub returns : goal.returns
returns g c =
    none_here c.args.listeners.now c.loop-attribute.listeners (first_listening c.args.event.now (drop c.loop-attribute.attribute-index c.args.slot.now)) (first_listening c.args.event.now c.args.slot.now)
    c.loop-attribute.invariant.same (ap (λ xs. first_listening c.args.event.now xs) (drop_of_length-le c.args.slot.now c.loop-attribute-test.false)) c.loop-attribute.invariant.left
