use Rattle.std.proofs.Common.{◌∙◌, sym, ap}
use Rattle.rt_model.specs.Lists.{without}
use Rattle.run_owed.specs.Lists.{numbers_of}
use Rattle.run_owed.specs.Owing.{Owing}
use Rattle.run_owed.proofs.Tables.{values_without}
use Rattle.run_state.specs.Heights.{task_scope, task_scopes}
use Rattle.run_state.specs.Mirror.{state_of}
use Rattle.run_state.proofs.Changed.{on_ok}
use Rattle.run_state.proofs.Ended.{ended_by, owed_ended}
use Rattle.run_state.proofs.Entered.{rows_entered}
use Rattle.run_state.proofs.Released.{not_ended}
use Rattle.run_state.proofs.state.State.end.Goals as goal

pub returns-then-not-has_task : goal.returns-then-not-has_task
returns-then-not-has_task g c = λ kept. not_ended c.args.self.now c.args.task kept (sym (c.has_task.ensures kept) ∙ c.if-not-has_task.true)

pub add_holding-requires : goal.add_holding-requires
add_holding-requires g c =
    record {
      paired = λ s q. c.args.self.now.listed.pairs s c.args.task q;
      entered = rows_entered c.args.self.now ∙ sym (ap (λ o. numbers_of o.scopes) c.end_task.ensures.ended);
    }

pub returns : goal.returns
returns g c =
    on_ok c.release.result c.release.ensures.released (λ gone kept.
    ended_by c.args.self.now c.args.task kept c.remove.new.self c.add_holding.new.owed (state_of kept c.release.new.self) (sym (c.has_task.ensures kept) ∙ c.if-not-has_task.false) c.remove.ensures.others
    (owed_ended c.args.self.now c.args.task c.end_task.new.self c.add_holding.new.owed c.end_task.ensures.ended c.add_holding.ensures.posted)
    (gone kept))

pub invariant_of-self : goal.invariant_of-self
invariant_of-self g c =
    record {
      entered = c.args.self.now.entered ∙ sym (ap (λ (o : Owing). o.scopes) c.add_holding.ensures.posted ∙ ap (λ (o : Owing). o.scopes) c.end_task.ensures.ended);
      known = ap task_scopes c.remove.ensures.others
          ∙ values_without task_scope c.args.self.now.tasks c.args.task
          ∙ ap (λ es. without es c.args.task) c.args.self.now.known
          ∙ sym (ap (λ (o : Owing). o.tasks) c.add_holding.ensures.posted ∙ ap (λ (o : Owing). o.tasks) c.end_task.ensures.ended);
      waiting = c.args.self.now.waiting;
      placed = c.args.self.now.placed;
      readers = c.args.self.now.readers;
      heard = c.args.self.now.heard;
      listed = c.args.self.now.listed;
    }
