use Rattle.std.proofs.Common.{refl, ◌∙◌, subst, Ok}
use Rattle.std.proofs.lemmas.Result.{err_from_is_err_and}
use Rattle.run_machine.specs.Machines.{CountsHeard, Hears}
use Rattle.run_rounds.proofs.Handling.{far_more, far_over, far_stop}
use Rattle.run_rounds.proofs.hearing.hear_all.Goals as goal

pub loop-listener-init : goal.loop-listener-init
loop-listener-init g c = record { far = λ from kept so counted. (kept, so, counted); first = refl; work = refl }

pub returns-in_err-heard-clause-hears : goal.returns-in_err-heard-clause-hears
returns-in_err-heard-clause-hears g c =
    let p = err_from_is_err_and c.from_residual.result c.from_residual.ensures.1 in
    rw (p.1, p.2)
    (
    λ from kept so counted.
    far_stop (g.A.App.meaning c.args.app.now) from c.hear.new.calls c.loop-listener.machine c.hear.new.self c.in_err-heard.field-0.0 (c.loop-listener.invariant.far from kept so counted)
    c.in_err-heard.ensures.hears
    )

pub returns-then-not-heard-clause-hears : goal.returns-then-not-heard-clause-hears
returns-then-not-heard-clause-hears g c =
    λ from kept so counted.
    far_over (g.A.App.meaning c.args.app.now) from c.loop-listener.calls c.hear.new.calls c.loop-listener.machine c.hear.new.self (c.loop-listener.invariant.far from kept so counted)
    (subst (λ b. Hears (g.A.App.meaning c.args.app.now) c.loop-listener.machine c.hear.new.self (Ok b)) c.if-not-heard.true c.in_ok-heard.ensures.hears)
    (subst (λ b. CountsHeard (g.A.App.meaning c.args.app.now) c.loop-listener.machine c.loop-listener.calls c.hear.new.calls b) c.if-not-heard.true c.in_ok-heard.ensures.counted)

pub returns-clause-hears : goal.returns-clause-hears
returns-clause-hears g c = λ from kept so counted. tt

pub loop-listener-preserved : goal.loop-listener-preserved
loop-listener-preserved g c =
    record {
      far =
          λ from kept so counted.
          far_more (g.A.App.meaning c.args.app.now) from c.loop-listener.calls c.hear.new.calls c.loop-listener.machine c.hear.new.self (c.loop-listener.invariant.far from kept so counted)
          (subst (λ b. Hears (g.A.App.meaning c.args.app.now) c.loop-listener.machine c.hear.new.self (Ok b)) c.if-not-heard.false c.in_ok-heard.ensures.hears)
          (subst (λ b. CountsHeard (g.A.App.meaning c.args.app.now) c.loop-listener.machine c.loop-listener.calls c.hear.new.calls b) c.if-not-heard.false c.in_ok-heard.ensures.counted)
          c.hear.ensures.first c.hear.ensures.work;
      first = c.hear.ensures.first ∙ c.loop-listener.invariant.first;
      work = c.hear.ensures.work ∙ c.loop-listener.invariant.work;
    }
