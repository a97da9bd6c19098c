-- Each scope above is one stop more.
use Rattle.std.proofs.Common.{sym}
use Rattle.std.proofs.lemmas.Result.{on_ok_weaker}
use Rattle.run_shown.proofs.Ways.{above_none, above_zero, way_ends, way_goes_on}
use Rattle.run_shown.proofs.way.+add_above.Goals as goal

pub returns-then-steps-eq0 : goal.returns-then-steps-eq0
returns-then-steps-eq0 g t c =
    way_ends c.args.look.now c.args.steps c.args.child c.args.way.now (above_zero c.args.look.now c.args.steps c.args.child c.if-steps-eq0.true)

pub returns-in_ok-push-in-Some : goal.returns-in_ok-push-in-Some
returns-in_ok-push-in-Some g t c =
    on_ok_weaker c.add_above.result
    (λ rest. way_goes_on c.args.look.now c.args.steps c.args.child c.in-Some.parent c.in_ok-stop_above-in-Some.field-0 c.args.way.now c.push.new.self c.add_above.new.way
    c.if-steps-eq0.false (sym c.in-Some.ensures) c.in_ok-stop_above-in-Some.ensures c.in_ok-push-in-Some.ensures.ok rest)
    c.add_above.ensures

pub returns-in-None : goal.returns-in-None
returns-in-None g t c =
    way_ends c.args.look.now c.args.steps c.args.child c.args.way.now (above_none c.args.look.now c.args.steps c.args.child (sym c.in-None.ensures))
