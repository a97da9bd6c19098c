use Rattle.std.proofs.Common.{◌∙◌, ap, sym, refl}
use Rattle.rt_model.specs.Next.{paused}
use Rattle.run_owed.specs.Owing.{Owing}
use Rattle.run_state.specs.Mirror.{at_first, state_of}
use Rattle.run_state.proofs.Dropped.{drops_on, drops_over, fewer_queued}
use Rattle.run_state.proofs.Posts.{with_all}
use Rattle.run_state.proofs.state.State.drop_paused.Goals as goal

pub loop-task-init : goal.loop-task-init
loop-task-init g c = record { up = λ kept. c.found-up.ensures kept; same = λ kept. refl }

pub loop-task-smaller : goal.loop-task-smaller
loop-task-smaller g c =
    let w = state_of at_first c.loop-task.self in
    fewer_queued w c.in-Some.task c.loop-task.self.owed.queued c.unqueue.new.self.queued refl (sym c.in-Some.is ∙ c.paused.ensures at_first ∙ ap (λ o. paused w o) (c.loop-task.invariant.up at_first))
    (ap (λ (o : Owing). o.queued) c.unqueue.ensures.queued)

pub loop-task-preserved : goal.loop-task-preserved
loop-task-preserved g c =
    record {
      up = λ kept. c.found-up-in-Some.ensures kept;
      same = λ kept.
          let w = state_of kept c.loop-task.self in
          drops_on w (with_all w c.unqueue.new.self) c.in-Some.task (sym c.in-Some.is ∙ c.paused.ensures kept ∙ ap (λ o. paused w o) (c.loop-task.invariant.up kept))
          (ap (λ o. with_all w o) c.unqueue.ensures.queued)
          ∙ c.loop-task.invariant.same kept;
    }

pub returns : goal.returns
returns g c =
    record {
      dropped = λ kept.
          let w = state_of kept c.loop-task.self in
          drops_over w (sym c.in_default.is ∙ c.paused.ensures kept ∙ ap (λ o. paused w o) (c.loop-task.invariant.up kept)) ∙ c.loop-task.invariant.same kept;
      next = λ kept. c.loop-task.invariant.up kept;
    }

pub invariant_of-self-clause-entered : goal.invariant_of-self-clause-entered
invariant_of-self-clause-entered g c = c.loop-task.self.entered ∙ sym (ap (λ (o : Owing). o.scopes) c.unqueue.ensures.queued)

pub invariant_of-self-clause-known : goal.invariant_of-self-clause-known
invariant_of-self-clause-known g c = c.loop-task.self.known ∙ sym (ap (λ (o : Owing). o.tasks) c.unqueue.ensures.queued)
