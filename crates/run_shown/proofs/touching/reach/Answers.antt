use Rattle.std.proofs.Common.{◌≡◌, ◌∙◌, sym}
use Rattle.std.proofs.lemmas.Bool.{not-false, true≢false}
use Rattle.run_shown.proofs.Touches.{comes_first, comes_on, reaches_there, reaches_top}
use Rattle.run_shown.proofs.touching.reach.Goals as goal

pub loop-step-init : goal.loop-step-init
loop-step-init g c = comes_first c.args.look.now c.args.scopes.now c.args.scope

pub returns-then-not-fresh : goal.returns-then-not-fresh
returns-then-not-fresh g c = λ yes.
    reaches_there c.args.look.now c.args.scopes.now c.loop-step.scopes c.put.new.self c.args.scope c.loop-step.next c.loop-step.invariant c.in_ok-fresh.ensures.all
    (not-false _ (sym c.in_ok-fresh.ensures.fresh ∙ c.if-not-fresh.true))

pub returns-in_default : goal.returns-in_default
returns-in_default g c = λ yes.
    reaches_top c.args.look.now c.args.scopes.now c.loop-step.scopes c.put.new.self c.args.scope c.loop-step.next c.loop-step.invariant c.in_ok-fresh.ensures.all
    (sym c.parent.ensures ∙ c.in_default.is)

pub loop-step-preserved : goal.loop-step-preserved
loop-step-preserved g c =
    comes_on c.args.look.now c.args.scopes.now c.loop-step.scopes c.put.new.self c.args.scope c.loop-step.next c.in-Some.parent c.loop-step.invariant c.in_ok-fresh.ensures.all
    (sym c.parent.ensures ∙ c.in-Some.is)

pub returns : goal.returns
returns g c = λ yes. absurd (true≢false (sym yes))
