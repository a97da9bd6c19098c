-- What the commands of a call change.
use Rattle.std.specs.Prelude.{ℕ, Bool, true, false, ◌&&◌, not, nat_eq, List, [], ◌∷◌, ◌++◌, Option, Some, None, if◌then◌else◌, is_some}
use Rattle.std.specs.List.{list_any}
use Rattle.rt_model.specs.Lists.{at, put, without, kept_by, drop_number}
use Rattle.rt_model.specs.Tree.{Types, CapturedError}
use Rattle.rt_model.specs.World.{Source, Cell, Error, Context, same_source, Target, ScopeTarget, TaskTarget, Command, KeepHook, NewCell, Write, DropCell, NewContext, Reset, ReadInto, Spawn, RemoveFuture, Wake, SetActive, QueueEffect, Provide, Update, Throw, ClearErrors, Resolved, Freeze, Application}
use Rattle.rt_model.specs.State.{Posted, Mark, Woken, ClientOnly, Isomorphic, Scope, CellRow, ContextRow, TaskRow, State, is_live, change, error_context, suspense_context, holds}

-- equal marks, equal wakes
abbrev pub same_posted : Posted → Posted → Bool
same_posted (Mark a) (Mark b) = nat_eq a b
same_posted (Woken a) (Woken b) = nat_eq a b
same_posted _ _ = false

-- a posted thing is taken out wherever it stands
abbrev pub drop_posted : List Posted → Posted → List Posted
drop_posted ps p = kept_by (λ x. not (same_posted x p)) ps

-- a source is among these
abbrev pub names_source : List Source → Source → Bool
names_source xs x = list_any (λ y. same_source y x) xs

-- a source joins the others, once
abbrev pub one_more_source : List Source → Source → List Source
one_more_source xs x = if names_source xs x then xs else xs ++ x ∷ []

module _ {K : Types} where
  -- a live scope or task is put at the end of the posted list
  abbrev pub post : State K → Posted → State K
  post w (Mark s) = if is_live w s then record w { posted = w.posted ++ Mark s ∷ [] } else w
  post w (Woken t) = if is_some (at w.tasks t) then record w { posted = w.posted ++ Woken t ∷ [] } else w

  -- what a reactive context targets is marked or woken
  abbrev pub post_target : State K → Target → State K
  post_target w (ScopeTarget s) = post w (Mark s)
  post_target w (TaskTarget t) = post w (Woken t)

  -- the marks of the scopes whose last run read a source
  abbrev pub readers : Source → List (ℕ × Scope K) → List Posted
  readers x [] = []
  readers x (e ∷ es) = if names_source (e.1).reads x then Mark e.0 ∷ readers x es else readers x es

  -- the targets of the reactive contexts in which a source was read are posted
  abbrev pub tell_contexts : Source → List (ℕ × ContextRow K) → State K → State K
  tell_contexts x [] w = w
  tell_contexts x (e ∷ es) w = tell_contexts x es (if names_source (e.1).sources x then post_target w (e.1).target else w)

  -- each scope that read the source is marked, and then the target of each reactive context whose sources name it
  abbrev pub tell : State K → Source → State K
  tell w x = tell_contexts x w.contexts (record w { posted = w.posted ++ readers x w.scopes })

  -- the boundaries without a task among their holders
  abbrev pub released : List (ℕ × Scope K) → ℕ → List (ℕ × Scope K)
  released [] t = []
  released (e ∷ es) t = (e.0, record (e.1) { holders = kept_by (λ h. not (nat_eq h.0 t)) (e.1).holders }) ∷ released es t

  -- the marks of the boundaries that a task holds
  abbrev pub holding : List (ℕ × Scope K) → ℕ → List Posted
  holding [] t = []
  holding (e ∷ es) t = if holds e.1 t then Mark e.0 ∷ holding es t else holding es t

  -- a task's wakes go, posted or queued
  abbrev pub unqueued : State K → ℕ → State K
  unqueued w t = record w { posted = drop_posted w.posted (Woken t); queued = drop_number w.queued t }

  -- a task ends: its entries go, each boundary that it held is released and marked
  abbrev pub end : State K → ℕ → State K
  end w t =
      if is_some (at w.tasks t)
      then
      record w {
        tasks = without w.tasks t;
        posted = drop_posted w.posted (Woken t) ++ holding w.scopes t;
        queued = drop_number w.queued t;
        scopes = released w.scopes t;
      }
      else w

  -- a cell that was found has another value, and its readers are marked
  abbrev pub written_at : State K → ℕ → K.Value → Option (CellRow K) → State K
  written_at w n v None = w
  written_at w n v (Some old) = tell (record w { cells = put w.cells n (record old { value = v }) }) (Cell n)

  -- a write: nothing changes where the cell is gone
  abbrev pub write_cell : State K → ℕ → K.Value → State K
  write_cell w n v = written_at w n v (at w.cells n)

  -- a cell goes, and its readers are marked
  abbrev pub drop_cell_row : State K → ℕ → State K
  drop_cell_row w n = if is_some (at w.cells n) then tell (record w { cells = without w.cells n }) (Cell n) else w

  -- an error fills the nearest slot where that is empty
  abbrev pub caught_at : State K → CapturedError → ℕ → Option CapturedError → State K
  caught_at w e b (Some old) = w
  caught_at w e b None = tell (change w b (λ x. record x { error = Some e })) (Error b)

  -- an error comes to a boundary, where there is one
  abbrev pub thrown_to : State K → CapturedError → Option ℕ → State K
  thrown_to w e None = w
  thrown_to w e (Some b) = elim (at w.scopes b) [ None ↦ w | Some x ↦ caught_at w e b x.error ]

  -- an error comes to the nearest error boundary from a scope upwards
  abbrev pub throw_error : State K → ℕ → CapturedError → State K
  throw_error w s e = thrown_to w e (error_context w s)

  -- the nearest slot is emptied, and its readers are marked, also where it was empty
  abbrev pub cleared_at : State K → Option ℕ → State K
  cleared_at w None = w
  cleared_at w (Some b) = tell (change w b (λ x. record x { error = None })) (Error b)

  -- the slot of the nearest error boundary from a scope upwards is emptied
  abbrev pub clear_error : State K → ℕ → State K
  clear_error w s = cleared_at w (error_context w s)

  -- a change from paused to active wakes the task
  abbrev pub activated : State K → ℕ → Bool → Option (TaskRow K) → State K
  activated w t active None = w
  activated w t active (Some x) =
      (if active && not x.active
      then post (record w { tasks = put w.tasks t (record x { active = active }) }) (Woken t)
      else record w { tasks = put w.tasks t (record x { active = active }) })

  -- a new task, active and woken, where its scope is live
  abbrev pub spawned : State K → Option ℕ → ℕ → ℕ → K.TaskState → Bool → State K
  spawned w polled scope t a isomorphic =
      if is_live w scope
      then
      post
      (record w {
        tasks =
            w.tasks
            ++
            (t, record { scope = scope; parent = polled; state = a; active = true; kind = if isomorphic then Isomorphic else ClientOnly })
            ∷
            [];
      })
      (Woken t)
      else w

  -- a callback waits for the boundary's next turn to its children
  abbrev pub registered : State K → ℕ → K.Effect → Option ℕ → State K
  registered w s e None = w
  registered w s e (Some b) = change w b (λ x. record x { callbacks = x.callbacks ++ (s, e) ∷ [] })

  -- a boundary is frozen, so that a suspended render passes over what is below it
  abbrev pub frozen_at : State K → Option ℕ → State K
  frozen_at w None = w
  frozen_at w (Some b) = change w b (λ x. record x { frozen = true })

  -- a change of a reactive context, where it stands
  abbrev pub change_context : State K → ℕ → (ContextRow K → ContextRow K) → State K
  change_context w n f = elim (at w.contexts n) [ None ↦ w | Some x ↦ record w { contexts = put w.contexts n (f x) } ]

  module _ (app : Application K) where
    -- the readers of what a scope provides are marked where it was absent or differs
    abbrev pub provided_at : State K → ℕ → ℕ → K.Value → Option K.Value → State K
    provided_at w s k v None = tell (change w s (λ x. record x { contexts = put x.contexts k v })) (Context k s)
    provided_at w s k v (Some old) =
        (if app.same_value old v
        then change w s (λ x. record x { contexts = put x.contexts k v })
        else tell (change w s (λ x. record x { contexts = put x.contexts k v })) (Context k s))

    -- a live scope provides a value of a kind
    abbrev pub provide_context : State K → ℕ → ℕ → K.Value → State K
    provide_context w s k v = elim (at w.scopes s) [ None ↦ w | Some x ↦ provided_at w s k v (at x.contexts k) ]

    -- one command of a call in scope s, where polled is the task that is polled; what names something that isn't live changes nothing
    abbrev pub command : State K → ℕ → Option ℕ → Command K → State K
    command w s polled (KeepHook h) = change w s (λ x. record x { hooks = x.hooks ++ h ∷ [] })
    command w s polled (NewCell n v) = if is_live w s then record w { cells = w.cells ++ (n, record { owner = s; value = v }) ∷ [] } else w
    command w s polled (Write n v) = write_cell w n v
    command w s polled (DropCell n) = drop_cell_row w n
    command w s polled (NewContext n target) =
        if is_live w s then record w { contexts = w.contexts ++ (n, record { scope = s; target = target; sources = [] }) ∷ [] } else w
    command w s polled (Reset n) = change_context w n (λ x. record x { sources = [] })
    command w s polled (ReadInto n source) = change_context w n (λ x. record x { sources = one_more_source x.sources source })
    command w s polled (Spawn t a forever isomorphic) = spawned w polled (if forever then 0 else s) t a isomorphic
    command w s polled (RemoveFuture t) = end w t
    command w s polled (Wake t) = post w (Woken t)
    command w s polled (SetActive t active) = activated w t active (at w.tasks t)
    command w s polled (QueueEffect e) = change w s (λ x. record x { effects = x.effects ++ e ∷ [] })
    command w s polled (Provide root k v) = provide_context w (if root then 0 else s) k v
    command w s polled (Update n) = post w (Mark n)
    command w s polled (Throw e) = throw_error w s e
    command w s polled ClearErrors = clear_error w s
    command w s polled (Resolved e) = registered w s e (suspense_context w s)
    command w s polled Freeze = frozen_at w (suspense_context w s)

    -- the commands of a call, in order
    abbrev pub commands : State K → ℕ → Option ℕ → List (Command K) → State K
    commands w s polled [] = w
    commands w s polled (c ∷ cs) = commands (command w s polled c) s polled cs
