-- Looks, and what comes next.
use Rattle.std.specs.Prelude.{ℕ, Bool, false, ◌&&◌, ◌||◌, nat_eq, nat_lt, List, [], ◌∷◌, Option, Some, None, if◌then◌else◌, is_some}
use Rattle.rt_model.specs.Lists.{at, drop_number, join}
use Rattle.rt_model.specs.Tree.{Types}
use Rattle.rt_model.specs.State.{Posted, Mark, Woken, Scope, State, is_live, height_of}

-- what the scheduler takes: a scope to rerun, a task to poll, the effects of a scope
pub data Work : Type 0 where
  RerunScope : (scope : ℕ) → Work
  PollTask : (task : ℕ) → Work
  RunEffects : (scope : ℕ) → Work

-- the first of the least ones, by a test for what comes earlier
abbrev pub least_from : (ℕ → ℕ → Bool) → ℕ → List ℕ → ℕ
least_from earlier s [] = s
least_from earlier s (t ∷ ts) = least_from earlier (if earlier t s then t else s) ts

-- the first of the least ones of a list
abbrev pub least : (ℕ → ℕ → Bool) → List ℕ → Option ℕ
least earlier [] = None
least earlier (s ∷ ss) = Some (least_from earlier s ss)

-- one more in a list by such a test; of equal ones the one that joined first comes first
abbrev pub insert_by : (ℕ → ℕ → Bool) → ℕ → List ℕ → List ℕ
insert_by earlier s [] = s ∷ []
insert_by earlier s (t ∷ ts) = if earlier t s then t ∷ insert_by earlier s ts else s ∷ t ∷ ts

-- a list by such a test
abbrev pub sorted_by : (ℕ → ℕ → Bool) → List ℕ → List ℕ
sorted_by earlier [] = []
sorted_by earlier (s ∷ ss) = insert_by earlier s (sorted_by earlier ss)

module _ {K : Types} where
  -- what was posted is taken one by one; marks and wakes of what is gone are passed over
  abbrev pub look_on : List Posted → State K → State K
  look_on [] w = w
  look_on (Mark s ∷ ps) w = look_on ps (if is_live w s then record w { seen = join w.seen s } else w)
  look_on (Woken t ∷ ps) w = look_on ps (if is_some (at w.tasks t) then record w { queued = join w.queued t } else w)

  -- all that is posted becomes seen or queued, once each
  abbrev pub look : State K → State K
  look w = look_on w.posted (record w { posted = [] })

  -- scopes come by height and then by number
  abbrev pub is_before : List (ℕ × Scope K) → ℕ → ℕ → Bool
  is_before scopes s t =
      nat_lt (height_of scopes s) (height_of scopes t) || (nat_eq (height_of scopes s) (height_of scopes t) && nat_lt s t)

  -- the scope whose order a task has
  abbrev pub scope_of_task : State K → ℕ → ℕ
  scope_of_task w t = elim (at w.tasks t) [ None ↦ 0 | Some x ↦ x.scope ]

  -- a task isn't paused
  abbrev pub is_active : State K → ℕ → Bool
  is_active w t = elim (at w.tasks t) [ None ↦ false | Some x ↦ x.active ]

  -- the first queued task of the least order
  abbrev pub first_task : State K → Option ℕ
  first_task w = least (λ t u. is_before w.scopes (scope_of_task w t) (scope_of_task w u)) w.queued

  -- the seen scope of the least order
  abbrev pub first_seen : State K → Option ℕ
  first_seen w = least (λ s t. is_before w.scopes s t) w.seen

  -- the seen scopes in their order
  abbrev pub seen_in_order : State K → List ℕ
  seen_in_order w = sorted_by (λ s t. is_before w.scopes s t) w.seen

  -- the lesser of the two, the task on equal order
  abbrev pub chosen : State K → Option ℕ → Option ℕ → Option Work
  chosen w None None = None
  chosen w (Some t) None = Some (PollTask t)
  chosen w None (Some s) = Some (RerunScope s)
  chosen w (Some t) (Some s) = if is_before w.scopes s (scope_of_task w t) then Some (RerunScope s) else Some (PollTask t)

  -- the scope or task that comes up
  abbrev pub found : State K → Option Work
  found w = chosen w (first_task w) (first_seen w)

  -- the task that comes up, where it is paused
  abbrev pub paused : State K → Option Work → Option ℕ
  paused w None = None
  paused w (Some (RerunScope s)) = None
  paused w (Some (RunEffects s)) = None
  paused w (Some (PollTask t)) = if is_active w t then None else Some t

  -- a paused task leaves the queue, and the search goes on
  abbrev pub drop_then : (State K → State K) → State K → Option ℕ → State K
  drop_then go w None = w
  drop_then go w (Some t) = go (record w { queued = drop_number w.queued t })

  -- paused tasks that come up are dropped, at most as many as the list is long
  abbrev pub drops : List ℕ → State K → State K
  drops [] w = w
  drops (q ∷ qs) w = drop_then (λ v. drops qs v) w (paused w (found w))

  -- a look, where nothing came up
  abbrev pub looked : State K → Option Work → State K
  looked w (Some x) = w
  looked w None = let v = look w in drops v.queued v

  -- the state after the drops, and after the look that follows where nothing is left
  abbrev pub at_rest : State K → State K
  at_rest w = let v = drops w.queued w in looked v (found v)

  -- the mounted scopes that have queued effects
  abbrev pub with_effects : List (ℕ × Scope K) → List ℕ
  with_effects [] = []
  with_effects (e ∷ es) =
      if (e.1).mounted then elim (e.1).effects [ [] ↦ with_effects es | x ∷ xs ↦ e.0 ∷ with_effects es ] else with_effects es

  -- where nothing else comes up, the effects of the mounted scope of the least order
  abbrev pub or_effects : State K → Option Work → Option Work
  or_effects w (Some x) = Some x
  or_effects w None =
      elim (least (λ s t. is_before w.scopes s t) (with_effects w.scopes)) [ None ↦ None | Some s ↦ Some (RunEffects s) ]

  -- what comes next, of a state at rest: the least seen scope or queued task, else the effects of the least mounted scope
  abbrev pub next_at_rest : State K → Option Work
  next_at_rest w = or_effects w (found w)

  -- what comes next
  abbrev pub next : State K → Option Work
  next w = next_at_rest (at_rest w)

  -- something is owed
  abbrev pub owes : State K → Bool
  owes w = is_some (next w)
