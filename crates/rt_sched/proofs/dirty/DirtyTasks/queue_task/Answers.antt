use Rattle.std.proofs.Common.{◌≡◌, ◌==◌, true, refl, ap, sym, ◌∙◌}
use Rattle.std.specs.List.{list_any}
use Rattle.rt_values.specs.declared.names.Task.{Task}
use Rattle.rt_sched.proofs.dirty.DirtyTasks.queue_task.Goals as goal

pub returns-then-contains-clause-ok : goal.returns-then-contains-clause-ok
returns-then-contains-clause-ok c =
    let there : list_any (λ (u : Task). u.0 == c.args.task.0) c.args.self.now.tasks_queued ≡ true = ap (list_any (λ (u : Task). u.0 == c.args.task.0)) (sym c.as_slice.ensures.items) ∙ sym c.contains.ensures.value ∙ c.if-contains.true in
    rw there refl
