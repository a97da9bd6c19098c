-- Rendering while suspended: which work is taken, and which is passed over.
use Rattle.std.specs.Prelude.{ℕ, zero, suc, ◌+◌, Bool, true, false, ◌&&◌, ◌||◌, not, nat_eq, nat_lt, List, [], ◌∷◌, length, Option, Some, None, if◌then◌else◌, is_some, ◌≡◌}
use Rattle.rt_model.specs.Lists.{at, first_of, drop_number, join}
use Rattle.rt_model.specs.Tree.{Types}
use Rattle.rt_model.specs.World.{Application}
use Rattle.rt_model.specs.State.{TaskKind, ClientOnly, Isomorphic, SuspendedTask, Fault, OutOfTurns, TaskRow, State, Item, height_of, suspense_context}
use Rattle.rt_model.specs.Next.{Work, RerunScope, PollTask, RunEffects, sorted_by, look, found, first_seen}
use Rattle.rt_model.specs.Replay.{Entry, Rerun, Poll, Machine, is_quiet, due, step, is_due}
use Rattle.rt_model.specs.Causes.{Limits, depth_refused, next_height}

-- a suspended render polls tasks of this kind
abbrev pub runs_suspended : TaskKind → Bool
runs_suspended ClientOnly = false
runs_suspended Isomorphic = true
runs_suspended SuspendedTask = true

-- a task on which a body has suspended, until it ends
abbrev pub is_suspended_task : TaskKind → Bool
is_suspended_task ClientOnly = false
is_suspended_task Isomorphic = false
is_suspended_task SuspendedTask = true

-- the entry of work that a suspended render takes
abbrev pub entry_of : Option Work → Option Entry
entry_of None = None
entry_of (Some (RerunScope s)) = Some (Rerun s)
entry_of (Some (PollTask t)) = Some (Poll t)
entry_of (Some (RunEffects s)) = None

module _ {K : Types} where
  -- a task that isn't a client's alone is polled
  abbrev pub may_poll : State K → ℕ → Bool
  may_poll w t = elim (at w.tasks t) [ None ↦ false | Some x ↦ x.active && runs_suspended x.kind ]

  -- there is such a boundary, and it isn't frozen
  abbrev pub is_thawed : State K → Option ℕ → Bool
  is_thawed w None = false
  is_thawed w (Some b) = elim (at w.scopes b) [ None ↦ false | Some x ↦ not x.frozen ]

  -- a scope below a suspense boundary that isn't frozen is rerun
  abbrev pub may_rerun : State K → ℕ → Bool
  may_rerun w s = is_thawed w (suspense_context w s)

  -- what may not be taken is dropped; a scope that is dropped is listed, once
  abbrev pub pass_over : (State K → State K) → State K → Option Work → State K
  pass_over go w None = w
  pass_over go w (Some (RunEffects s)) = w
  pass_over go w (Some (RerunScope s)) =
      (if may_rerun w s then w else go (record w { seen = drop_number w.seen s; skipped = join w.skipped s }))
  pass_over go w (Some (PollTask t)) = if may_poll w t then w else go (record w { queued = drop_number w.queued t })

  -- what comes up and may not be taken is passed over, at most n times
  abbrev pub passes : ℕ → State K → State K
  passes zero w = w
  passes (suc n) w = pass_over (λ v. passes n v) w (found w)

  -- a look, and then all that comes up and may not be taken goes
  abbrev pub rendering_rest : State K → State K
  rendering_rest w = let v = look w in passes (length v.seen + length v.queued) v

  -- what a suspended render takes next: never a batch of effects
  abbrev pub rendering_next : State K → Option Work
  rendering_next w = found (rendering_rest w)

  -- a poll of suspended work takes tasks alone, while no scope is seen; it drops the tasks that it may not poll
  abbrev pub tasks_passed : ℕ → State K → State K
  tasks_passed zero w = w
  tasks_passed (suc n) w = elim (first_seen w) [ None ↦ pass_over (λ v. tasks_passed n v) w (found w) | Some s ↦ w ]

  -- a look, and then the tasks that may not be polled go
  abbrev pub polling_rest : State K → State K
  polling_rest w = let v = look w in tasks_passed (length v.queued) v

  -- what a poll of suspended work takes next
  abbrev pub polling_next : State K → Option Work
  polling_next w = let v = polling_rest w in elim (first_seen v) [ None ↦ found v | Some s ↦ None ]

  -- a suspended task remains
  abbrev pub suspended_remains : List (ℕ × TaskRow K) → Bool
  suspended_remains [] = false
  suspended_remains (e ∷ es) = is_suspended_task (e.1).kind || suspended_remains es

  -- a replay with another state
  abbrev pub at_state : Machine K → State K → Machine K
  at_state m w = record m { state = w }

  -- the answer of a suspended render: the resolved boundaries by height, in order of joining
  abbrev pub resolved_by_height : State K → List ℕ
  resolved_by_height w = sorted_by (λ s t. nat_lt (height_of w.scopes s) (height_of w.scopes t)) w.resolved

  -- the answer of a render was taken
  abbrev pub nothing_resolved : State K → State K
  nothing_resolved w = record w { resolved = [] }

module _ {K : Types} (app : Application K) where
  -- the entry that may come next in a suspended render
  abbrev pub rendering_due_at : Machine K → List (Item K) → Option Entry
  rendering_due_at m [] = entry_of (rendering_next m.state)
  rendering_due_at m (i ∷ rest) = due app m

  -- the one entry that may come next in a suspended render; after a fault none
  abbrev pub rendering_due : Machine K → Option Entry
  rendering_due m = elim m.dead [ None ↦ rendering_due_at m m.work | Some fault ↦ None ]

  -- the replay after an entry of a suspended render
  abbrev pub rendering_step_at : Machine K → List (Item K) → Entry → Machine K
  rendering_step_at m [] e = step app (at_state m (rendering_rest m.state)) e
  rendering_step_at m (i ∷ rest) e = step app m e

  -- an entry is accepted where it is the one that is due in a suspended render
  abbrev pub rendering_accepts : Machine K → Entry → Option (Machine K)
  rendering_accepts m e = if is_due app (rendering_due m) e then Some (rendering_step_at m m.work e) else None

  -- the log of a suspended render; it ends where nothing may be taken, and what is left is passed over
  abbrev pub renders_on : Option (Machine K) → List Entry → Option (Machine K)
  renders_on None log = None
  renders_on (Some m) [] = elim (rendering_due m) [ None ↦ Some (at_state m (rendering_rest m.state)) | Some e ↦ None ]
  renders_on (Some m) (e ∷ log) = renders_on (rendering_accepts m e) log

  -- the same of a poll of suspended work, which takes tasks alone

  -- the one entry that may come next in such a poll; after a fault none
  abbrev pub polling_due : Machine K → Option Entry
  polling_due m = elim m.dead [ None ↦ entry_of (polling_next m.state) | Some fault ↦ None ]

  -- an entry is accepted where it is the one that is due in such a poll
  abbrev pub polling_accepts : Machine K → Entry → Option (Machine K)
  polling_accepts m e = if is_due app (polling_due m) e then Some (step app (at_state m (polling_rest m.state)) e) else None

  -- the log of such a poll; it ends at the first look that sees a scope, or where no task may be polled
  abbrev pub polls_on : Option (Machine K) → List Entry → Option (Machine K)
  polls_on None log = None
  polls_on (Some m) [] = elim (polling_due m) [ None ↦ Some (at_state m (polling_rest m.state)) | Some e ↦ None ]
  polls_on (Some m) (e ∷ log) = polls_on (polling_accepts m e) log

  -- where such calls have to stop: they count their own units

  -- the units are spent and one more may be taken
  abbrev pub spent_where : Limits → Machine K → Option Work → Option Fault
  spent_where limits m work = if is_quiet m && nat_eq m.units limits.units && is_some work then Some (OutOfTurns limits.units) else None

  -- the fault with which a suspended render stops here
  abbrev pub rendering_refusal : Limits → Machine K → Option Fault
  rendering_refusal limits m =
      first_of m.dead (first_of (depth_refused limits (next_height m)) (spent_where limits m (rendering_next m.state)))

  -- the fault with which a poll of suspended work stops here
  abbrev pub polling_refusal : Limits → Machine K → Option Fault
  polling_refusal limits m = first_of m.dead (spent_where limits m (polling_next m.state))

  -- along a log, by what refuses and what accepts: no refusal comes before an entry
  abbrev pub goes_within : (Machine K → Option Fault) → (Machine K → Entry → Option (Machine K)) → Option (Machine K) → List Entry
      → Option (Machine K)
  goes_within refuses accepts None log = None
  goes_within refuses accepts (Some m) [] = Some m
  goes_within refuses accepts (Some m) (e ∷ log) =
      goes_within refuses accepts (elim (refuses m) [ None ↦ accepts m e | Some fault ↦ None ]) log

  -- a suspended render within limits up to here
  abbrev pub renders_within : Limits → Option (Machine K) → List Entry → Option (Machine K)
  renders_within limits m log = goes_within (λ u. rendering_refusal limits u) (λ u e. rendering_accepts u e) m log

  -- a poll of suspended work within limits up to here
  abbrev pub polls_within : Limits → Option (Machine K) → List Entry → Option (Machine K)
  polls_within limits m log = goes_within (λ u. polling_refusal limits u) (λ u e. polling_accepts u e) m log

  -- a suspended render comes to this fault
  abbrev pub RenderComesTo : Limits → Machine K → List Entry → Fault → Type 0
  RenderComesTo limits m log fault =
      (u : Machine K) × (renders_within limits (Some m) log ≡ Some u) × (rendering_refusal limits u ≡ Some fault)

  -- a poll of suspended work comes to this fault
  abbrev pub PollComesTo : Limits → Machine K → List Entry → Fault → Type 0
  PollComesTo limits m log fault =
      (u : Machine K) × (polls_within limits (Some m) log ≡ Some u) × (polling_refusal limits u ≡ Some fault)
