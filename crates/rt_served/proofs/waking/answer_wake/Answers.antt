-- A wake is answered with the pieces of what turned, or comes to a fault before that.
use Rattle.std.proofs.Common.{rules, ◌≡◌, List, Err, false, length, subst}
use Rattle.std.specs.Prelude.{IfOk}
use Rattle.rt_model.specs.Commands.{post}
use Rattle.rt_model.specs.State.{Woken}
use Rattle.rt_values.specs.declared.names.ScopeId.{ScopeId}
use Rattle.rt_served.specs.Faults.{dom_fault}
use Rattle.rt_served.specs.Serving.{are_spelt, pieces}
use Rattle.rt_served.specs.Stood.{AnswersUnspelt, PutsTexts}
use Rattle.rt_served.proofs.Answering.{count_if, put_of, rendered, unanswered, wake_answered, woken}
use Rattle.rt_served.proofs.Failing.{render_fails, unrefused}
use Rattle.rt_served.proofs.Pieces.{numbers}
use Rattle.rt_served.proofs.waking.answer_wake.Goals as goal

-- a dom that is built is woken
pub returns-in_err-wake-clause-answers : goal.returns-in_err-wake-clause-answers
returns-in_err-wake-clause-answers g c = λ app limits props w keeps.
    absurd (unrefused c.args.dom.now c.wake.new.dom c.in_err-wake.field-0.0 (keeps.stands).built c.in_err-wake.ensures.refused)

pub returns-in_err-turned-clause-answers : goal.returns-in_err-turned-clause-answers
returns-in_err-turned-clause-answers g c =
    let failed : c.from_residual-in_err-turned.result ≡ Err (dom_fault c.in_err-turned.field-0.0) = search rules in
    λ app limits props w keeps.
    rw failed
    (unanswered (λ a. g.A.App.meaning a) app limits props w c.args.task.0 c.render_suspense_immediate.new.self _ _
    (dom_fault c.in_err-turned.field-0.0)
    (render_fails (λ a. g.A.App.meaning a) app limits props false (post w (Woken c.args.task.0)) c.wake.new.dom
    c.render_suspense_immediate.new.self c.in_err-turned.field-0.0
    (AnswersUnspelt (λ a. g.A.App.meaning a) app limits props w c.args.task.0) _ _
    (woken (λ a. g.A.App.meaning a) app limits props false w c.args.task.0 c.args.dom.now c.wake.new.dom keeps c.in_ok-wake.ensures.woken
    c.in_ok-wake.ensures.owned)
    c.in_err-turned.ensures.renders c.in_err-turned.ensures.owned c.in_err-turned.ensures.caused))

pub returns-clause-answers : goal.returns-clause-answers
returns-clause-answers g c = λ app limits props w keeps.
    let same : c.as_slice.result.now ≡ c.in_ok-turned.turned = search rules in
    let r =
    rendered (λ a. g.A.App.meaning a) app limits props false (post w (Woken c.args.task.0)) c.wake.new.dom c.render_suspense_immediate.new.self
    c.in_ok-turned.turned
    (woken (λ a. g.A.App.meaning a) app limits props false w c.args.task.0 c.args.dom.now c.wake.new.dom keeps c.in_ok-wake.ensures.woken
    c.in_ok-wake.ensures.owned)
    c.in_ok-turned.ensures.renders c.in_ok-turned.ensures.owned in
    wake_answered (λ a. g.A.App.meaning a) app limits props w c.args.task.0 (numbers c.in_ok-turned.turned) c.render_suspense_immediate.new.self
    _ _ _ _ c.put_pieces.result r
    (subst
    (λ (scopes : List ScopeId).
    PutsTexts (pieces r.next (numbers scopes)) (are_spelt r.next (numbers scopes)) (g.O.Out.puts c.args.out.now)
    (g.O.Out.puts c.put_pieces.new.out) (g.O.Out.faults c.args.out.now) (g.O.Out.faults c.put_pieces.new.out) c.put_pieces.result)
    same
    (put_of (λ a. g.A.App.meaning a) app limits props false r.next c.render_suspense_immediate.new.self
    (λ x. pieces x (numbers c.as_slice.result.now)) (λ x. are_spelt x (numbers c.as_slice.result.now)) _ _ _ _ c.put_pieces.result r.keeps
    c.put_pieces.ensures.puts))
    (subst (λ (scopes : List ScopeId). IfOk c.put_pieces.result (λ count. count ≡ length (pieces r.next (numbers scopes)))) same
    (count_if (λ a. g.A.App.meaning a) app limits props false r.next c.render_suspense_immediate.new.self
    (λ x. pieces x (numbers c.as_slice.result.now)) c.put_pieces.result r.keeps c.put_pieces.ensures.counts))
