-- What signals come to.
use Rattle.std.specs.Prelude.{ℕ, Bool, true, false, Option, Some, None}
use Rattle.rt_cells.specs.declared.contexts.ReactiveContext.{ReactiveContext}
use Rattle.rt_model.specs.Program.{Program, current_task, done, hook_is_new, leave, new_context, read, reset_and_run_in, spawn, write}
use Rattle.rt_model.specs.Tree.{Types}
use Rattle.rt_model.specs.World.{Nothing, TaskTarget, nothing}
use Rattle.author_programs.specs.Cells.{Keeping, own_cell}
use Rattle.author_programs.specs.Sequence.{go_on}
use Rattle.author_signals.specs.declared.signal.Pair.{Pair}
use Rattle.author_signals.specs.declared.signal.Signal.{Signal}

-- the cell of a signal
abbrev pub cell_in : Option Signal → Option ℕ
cell_in None = None
cell_in (Some signal) = Some signal.0

-- the number of a context
abbrev pub number_in : Option ReactiveContext → Option ℕ
number_in None = None
number_in (Some context) = Some context.0

-- the number of a context, and the value that was read in it
abbrev pub found_in : {V : Type 0} → Option (ReactiveContext × V) → Option (ℕ × V)
found_in None = None
found_in (Some found) = Some ((found.0).0, found.1)

-- a value, with the context that it was read in
abbrev pub read_in : {V : Type 0} → ℕ → Option V → Option (ℕ × V)
read_in context None = None
read_in context (Some value) = Some (context, value)

module _ {K : Types} where
  -- the value of a signal
  abbrev pub get : ℕ → Program K (Option K.Value)
  get n = read n (λ v. done v)

  -- a signal is given a value
  abbrev pub set : ℕ → K.Value → Program K Nothing
  set n v = write n v (done nothing)

  -- the same, unless it has that value
  abbrev pub set_unless : Bool → ℕ → K.Value → Program K Nothing
  set_unless true n v = done nothing
  set_unless false n v = set n v

  -- the value of a signal, which is read for a context alone
  abbrev pub get_in : ℕ → ℕ → Program K (Option K.Value)
  get_in context n = reset_and_run_in context (read n (λ v. leave (done v)))

  -- a signal of a scope and another one, both made at its first run
  abbrev pub pair_of : Bool → ℕ → Option ℕ → Program K (Option Pair)
  pair_of is_new source None = done None
  pair_of is_new source (Some derived) =
      done (Some (record { is_new = is_new; source = record { 0 = source }; derived = record { 0 = derived } }))

  abbrev pub with_source : Keeping K.Value → K.Value → Bool → Option ℕ → Program K (Option Pair)
  with_source k second is_new None = done None
  with_source k second is_new (Some source) = go_on (own_cell k second) (λ derived. pair_of is_new source derived)

  abbrev pub pair_with : Keeping K.Value → K.Value → K.Value → Bool → Program K (Option Pair)
  pair_with k first second is_new = go_on (own_cell k first) (λ source. with_source k second is_new source)

  abbrev pub own_pair : Keeping K.Value → K.Value → K.Value → Program K (Option Pair)
  own_pair k first second = hook_is_new (λ is_new. pair_with k first second is_new)

  -- a context for the task at work
  abbrev pub waking_for : Option ℕ → Program K (Option ℕ)
  waking_for None = done None
  waking_for (Some task) = new_context (TaskTarget task) (λ context. done context)

  abbrev pub waking : Program K (Option ℕ)
  waking = current_task (λ task. waking_for task)

  -- the context that a task has, or one that is made for it
  abbrev pub still_waking : Option ReactiveContext → Program K (Option ℕ)
  still_waking None = waking
  still_waking (Some context) = done (Some context.0)

  -- the value of a signal for the task at work, with the context that it is read in
  abbrev pub follow_in : ℕ → Option ℕ → Program K (Option (ℕ × K.Value))
  follow_in n None = done None
  follow_in n (Some context) = go_on (get_in context n) (λ value. done (read_in context value))

  abbrev pub follow : ℕ → Option ReactiveContext → Program K (Option (ℕ × K.Value))
  follow n had = go_on (still_waking had) (λ context. follow_in n context)

  -- a task is spawned where the scope is new
  abbrev pub spawn_once : Bool → K.TaskState → Program K Nothing
  spawn_once false state = done nothing
  spawn_once true state = spawn state false false (λ task. done nothing)
