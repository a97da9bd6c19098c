-- What a render or a poll of suspended work passes over, one after another.
use Rattle.std.specs.Prelude.{ℕ, ◌+◌, Bool, true, length, Option, Some, None, if◌then◌else◌}
use Rattle.rt_model.specs.Lists.{drop_number, join}
use Rattle.rt_model.specs.Tree.{Types}
use Rattle.rt_model.specs.State.{State}
use Rattle.rt_model.specs.Next.{Work, RerunScope, PollTask, RunEffects, first_seen, found}
use Rattle.rt_model.specs.Rendering.{may_poll, may_rerun, passes, tasks_passed}

module _ {K : Types} where
  -- it takes this work; effects it doesn't pass over
  abbrev pub may_take : State K → Work → Bool
  may_take w (RerunScope s) = may_rerun w s
  may_take w (PollTask t) = may_poll w t
  may_take w (RunEffects s) = true

  -- what comes up, where it may not be taken
  abbrev pub barred : State K → Option Work → Option Work
  barred w None = None
  barred w (Some x) = if may_take w x then None else Some x

  -- the same while no scope is seen
  abbrev pub barred_task : State K → Option Work
  barred_task w = elim (first_seen w) [ None ↦ barred w (found w) | Some s ↦ None ]

  -- without this work; a scope is listed
  abbrev pub left_out : State K → Work → State K
  left_out w (RerunScope s) = record w { seen = drop_number w.seen s; skipped = join w.skipped s }
  left_out w (PollTask t) = record w { queued = drop_number w.queued t }
  left_out w (RunEffects s) = w

  -- without all that comes up and may not be taken
  abbrev pub all_passed : State K → State K
  all_passed w = passes (length w.seen + length w.queued) w

  -- without the tasks that may not be polled, while no scope is seen
  abbrev pub every_task_passed : State K → State K
  every_task_passed w = tasks_passed (length w.queued) w
