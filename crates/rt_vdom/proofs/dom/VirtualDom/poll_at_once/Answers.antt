-- What a poll at once came to.
use Rattle.std.proofs.Common.{sym, ap, ◌∙◌}
use Rattle.law_behavior.proofs.Leading.{asides_lead}
use Rattle.run_reports.specs.Seen.{limits_of}
use Rattle.run_reports.specs.Polls.{told_by}
use Rattle.rt_vdom.specs.Doms.{StateIn}
use Rattle.rt_vdom.proofs.Failed.{no_unit}
use Rattle.rt_vdom.proofs.Polled.{polls_none, polls_one, polls_now_err, polled_is, ready_gone, gone_idle, ready_paused, cut_now}
use Rattle.rt_vdom.proofs.dom.VirtualDom.poll_at_once.Goals as goal

pub returns-then-not-has_task-clause-polled : goal.returns-then-not-has_task-clause-polled
returns-then-not-has_task-clause-polled g c =
    λ built.
    let d = c.args.self.now in
    let app = g.A.App.meaning d.app in
    polls_none (λ app. g.A.App.meaning app) c.args.task.0 d _ built (λ kept. gone_idle app (StateIn kept d) c.args.task.0 (sym (c.has_task.ensures kept) ∙ c.if-not-has_task.true))
    (λ kept. ap (λ b. told_by b) (ready_gone app (StateIn kept d) c.args.task.0 (sym (c.has_task.ensures kept) ∙ c.if-not-has_task.true)))

pub returns-then-not-is_active-clause-polled : goal.returns-then-not-is_active-clause-polled
returns-then-not-is_active-clause-polled g c =
    λ built.
    let d = c.args.self.now in
    let app = g.A.App.meaning d.app in
    polls_none (λ app. g.A.App.meaning app) c.args.task.0 d _ built (λ kept. sym (c.is_active.ensures kept) ∙ c.if-not-is_active.true)
    (λ kept. ap (λ b. told_by b) (ready_paused app (StateIn kept d) c.args.task.0 (sym (c.has_task.ensures kept) ∙ c.if-not-has_task.false) (sym (c.is_active.ensures kept) ∙ c.if-not-is_active.true)))

pub returns-in-Ok-clause-polled : goal.returns-in-Ok-clause-polled
returns-in-Ok-clause-polled g c =
    λ built.
    let d = c.args.self.now in
    let app = g.A.App.meaning d.app in
    polls_one (λ app. g.A.App.meaning app) c.args.task.0 d c.poll_task.new.self c.poll_task.new.calls c.in-Ok.polled built
    (g.met.A.App.lawful d.app)
    (λ props whole. asides_lead app (limits_of d.limits) props whole)
    (λ kept. sym (c.is_active.ensures kept) ∙ c.if-not-is_active.false) c.in-Ok.ensures.polled (λ kept. c.in-Ok.ensures.ready kept (sym (c.is_active.ensures kept) ∙ c.if-not-is_active.false))

pub returns-in-Err-clause-polled : goal.returns-in-Err-clause-polled
returns-in-Err-clause-polled g c =
    λ built.
    let d = c.args.self.now in
    let app = g.A.App.meaning d.app in
    polls_now_err (λ app. g.A.App.meaning app) c.args.task.0 d c.ended.new.self c.ended.result
    (
    λ fault why kept.
    let came = c.in-Err.ensures.polled kept in
    rw c.ended.ensures.others (
      came.0,
      polled_is app (StateIn kept d) c.args.task.0 (sym (c.is_active.ensures kept) ∙ c.if-not-is_active.false)
          ∙ cut_now _ _ c.in-Err.stop fault came.1 (sym c.ended.ensures.of ∙ why),
    )
    )

pub returns-in-Err-clause-refused : goal.returns-in-Err-clause-refused
returns-in-Err-clause-refused g c = no_unit c.in-Err.stop c.ended.result c.ended.ensures.ran c.ended.ensures.of

pub returns-in-Err-clause-fails : goal.returns-in-Err-clause-fails
returns-in-Err-clause-fails g c = λ built. c.ended.ensures.fails built

pub returns-in-Err-clause-caused : goal.returns-in-Err-clause-caused
returns-in-Err-clause-caused g c = c.ended.ensures.causes 0 0 tt
