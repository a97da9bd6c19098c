-- A poll, by what its call left.
use Rattle.std.proofs.Common.{rules, ◌∙◌, ap, sym}
use Rattle.std.proofs.lemmas.Result.{err_from_is_err_and}
use Rattle.run_reports.specs.Polls.{told_by}
use Rattle.rt_scopes.proofs.Polled.{polled_no, polled_ok, ready_as_told, ready_meant}
use Rattle.rt_scopes.proofs.scopes.Scopes.poll_in.Goals as goal

pub returns-clause-polled : goal.returns-clause-polled
returns-clause-polled g c = λ kept x stands.
    let left = c.apart-step.ensures in
    let parts = c.parts.ensures in
    polled_ok (g.A.App.meaning c.args.app.now) c.args.self.now.state c.after_call.new.self.state c.enter-cx.result _ c.in_ok-turn.turn.meaning
    c.args.scope c.args.task c.args.state x c.apart-step.result.0 c.in_ok-commands.commands _ c.take_step.new.self.state _ _ kept c.enter-cx.ensures.counted c.enter-cx.ensures.begun (c.world-world.ensures kept _)
    c.in_ok-turn.ensures.means (sym parts.fault ∙ sym left.fault ∙ c.in_ok-commands.ensures.ok.1)
    (left.answer ∙ parts.answer) (c.in_ok-commands.ensures.ok.0 ∙ left.commands ∙ parts.commands)
    c.in_ok-commands.ensures.next (left.next ∙ parts.next) stands.found stands.own
    (c.in_ok-take_step.ensures (g.A.App.meaning c.args.app.now) (g.met.A.App.lawful c.args.app.now).tests_values)

pub returns-in_err-commands-clause-polled : goal.returns-in_err-commands-clause-polled
returns-in_err-commands-clause-polled g c = λ kept x stands.
    let left = c.apart-step.ensures in
    let parts = c.parts.ensures in
    let refusal = c.in_err-commands.ensures.cut in
    let p = err_from_is_err_and c.from_residual-in_err-commands.result c.from_residual-in_err-commands.ensures.1 in
    rw (p.1, p.2)
    (polled_no (g.A.App.meaning c.args.app.now) c.args.self.now.state c.after_call.new.self.state c.enter-cx.result _ c.in_ok-turn.turn.meaning
    c.args.scope c.args.task c.args.state x refusal.0 _ _ _ _ kept c.enter-cx.ensures.counted c.enter-cx.ensures.begun (c.world-world.ensures kept _) c.in_ok-turn.ensures.means
    (sym parts.fault ∙ sym left.fault ∙ refusal.1) c.in_err-commands.ensures.next (left.next ∙ parts.next) refusal.2)

pub returns-in_err-turn-clause-polled : goal.returns-in_err-turn-clause-polled
returns-in_err-turn-clause-polled g c = λ kept x stands. (kept, search rules, search rules)

pub returns-in_err-take_step-clause-polled : goal.returns-in_err-take_step-clause-polled
returns-in_err-take_step-clause-polled g c = λ kept x stands. (kept, search rules, search rules)

pub returns-clause-ready : goal.returns-clause-ready
returns-clause-ready g c = λ kept.
    let left = c.apart-step.ensures in
    let parts = c.parts.ensures in
    c.poll_of.ensures
    ∙ ap (λ b. told_by b)
    (ready_as_told (g.A.App.meaning c.args.app.now) c.is_ready-ready.result c.apart-step.result.0 c.is_ready-ready.ensures
    ∙ ready_meant (g.A.App.meaning c.args.app.now) c.args.self.now.state c.enter-cx.result _ c.in_ok-turn.turn.meaning c.args.scope c.args.task c.args.state c.apart-step.result.0 kept
    c.enter-cx.ensures.begun (c.world-world.ensures kept _) c.in_ok-turn.ensures.means (sym parts.fault ∙ sym left.fault ∙ c.in_ok-commands.ensures.ok.1) (left.answer ∙ parts.answer))
