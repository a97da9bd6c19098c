use Rattle.std.proofs.Common.{◌∙◌, sym, ap}
use Rattle.run_owed.specs.Owing.{Owing}
use Rattle.run_state.specs.Mirror.{state_of}
use Rattle.run_state.proofs.Entered.{task_entered}
use Rattle.run_state.proofs.Posts.{posted_wake, no_wake, with_all}
use Rattle.run_state.proofs.state.State.post_wake.Goals as goal

pub returns-then-not-has_task-clause-posted : goal.returns-then-not-has_task-clause-posted
returns-then-not-has_task-clause-posted g c = λ kept. no_wake (state_of kept c.args.self.now) c.args.task (sym (c.has_task.ensures kept) ∙ c.if-not-has_task.true)

pub post_wake-requires : goal.post_wake-requires
post_wake-requires g c = record { entered = task_entered c.args.self.now c.args.task (λ kept. sym (c.has_task.ensures kept) ∙ c.if-not-has_task.false) }

pub returns-clause-posted : goal.returns-clause-posted
returns-clause-posted g c = λ kept.
    let w = state_of kept c.args.self.now in
    posted_wake w (with_all w c.post_wake.new.self) c.args.task (sym (c.has_task.ensures kept) ∙ c.if-not-has_task.false)
    (ap (λ o. with_all w o) c.post_wake.ensures.posted)

pub invariant_of-self-clause-entered : goal.invariant_of-self-clause-entered
invariant_of-self-clause-entered g c = c.args.self.now.entered ∙ sym (ap (λ (o : Owing). o.scopes) c.post_wake.ensures.posted)

pub invariant_of-self-clause-known : goal.invariant_of-self-clause-known
invariant_of-self-clause-known g c = c.args.self.now.known ∙ sym (ap (λ (o : Owing). o.tasks) c.post_wake.ensures.posted)
