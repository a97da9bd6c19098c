-- One more wake is answered, or none after it.
use Rattle.std.proofs.Common.{rules, ◌≡◌, Err, arith}
use Rattle.rt_served.specs.declared.refusal.ServeFault.TheVariants as faults
use Rattle.rt_served.proofs.Answering.{none_answered, task_answered, task_failed, task_uncounted, tasks_answered}
use Rattle.rt_served.proofs.waking.answer_wakes.Goals as goal

pub loop-task-init : goal.loop-task-init
loop-task-init g c = record {
  on = λ app limits props w keeps. none_answered (λ a. g.A.App.meaning a) app limits props w c.args.dom.now _ keeps;
  rises = omega arith;
}

pub loop-task-preserved : goal.loop-task-preserved
loop-task-preserved g c = record {
  on = λ app limits props w keeps.
      let h = c.loop-task.invariant.on app limits props w keeps in
      task_answered (λ a. g.A.App.meaning a) app limits props w c.args.wakes.now c.loop-task.task-index _ c.loop-task.dom c.answer_wake.new.dom
      _ _ _ 0 0 _ _ _ c.loop-task-test.true h (c.in_ok-own.ensures.answers app limits props h.last h.keeps) c.in_ok-count.ensures;
  rises = omega (arith, c.loop-task.invariant.rises, c.in_ok-own.ensures.counted);
}

pub returns-in_err-own-clause-answers : goal.returns-in_err-own-clause-answers
returns-in_err-own-clause-answers g c =
    let failed : c.from_residual.result ≡ Err c.in_err-own.field-0.0 = search rules in
    λ app limits props w keeps.
    let h = c.loop-task.invariant.on app limits props w keeps in
    rw failed
    (task_failed (λ a. g.A.App.meaning a) app limits props w c.args.wakes.now c.loop-task.task-index _ c.loop-task.dom c.answer_wake.new.dom
    _ _ _ _ _ _ _ c.in_err-own.field-0.0 c.loop-task-test.true c.loop-task.invariant.rises h
    (c.in_err-own.ensures.answers app limits props h.last h.keeps))

pub returns-in_err-own-clause-counted : goal.returns-in_err-own-clause-counted
returns-in_err-own-clause-counted g c = omega (arith, c.loop-task.invariant.rises, c.in_err-own.ensures.counted)

pub returns-in_err-count-clause-answers : goal.returns-in_err-count-clause-answers
returns-in_err-count-clause-answers g c =
    let failed : c.from_residual-in_err-count.result ≡ Err faults.OutOfMemory = search rules in
    λ app limits props w keeps.
    let h = c.loop-task.invariant.on app limits props w keeps in
    rw failed
    (task_uncounted (λ a. g.A.App.meaning a) app limits props w c.args.wakes.now c.loop-task.task-index _ c.loop-task.dom
    c.answer_wake.new.dom _ _ _ 0 0 0 _ _ c.loop-task-test.true h (c.in_ok-own.ensures.answers app limits props h.last h.keeps))

pub returns-in_err-count-clause-counted : goal.returns-in_err-count-clause-counted
returns-in_err-count-clause-counted g c = omega (arith, c.loop-task.invariant.rises, c.in_ok-own.ensures.counted)

pub returns-clause-answers : goal.returns-clause-answers
returns-clause-answers g c = λ app limits props w keeps.
    tasks_answered (λ a. g.A.App.meaning a) app limits props w c.args.wakes.now c.loop-task.task-index c.loop-task.dom _ _ _
    c.loop-task-test.false (c.loop-task.invariant.on app limits props w keeps)
