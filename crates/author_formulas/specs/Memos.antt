-- Memos and resources: where their tasks stand between two polls, what a poll does, and how a body comes to its cell.
use Rattle.std.specs.Prelude.{ℕ, ◌+◌, min, Bool, true, false, Option, Some, None, ◌≡◌}
use Rattle.rt_model.specs.Program.{Program, done, current_task, read, write, new_cell, new_context, reset_and_run_in, leave, spawn, hook_is_new, call_means}
use Rattle.rt_model.specs.Tree.{Types}
use Rattle.rt_model.specs.World.{Nothing, nothing, TaskTarget, last_number, World, pending, Application}
use Rattle.author_programs.specs.Cells.{Keeping, kept_cell}
use Rattle.author_programs.specs.Sequence.{go_on}
use Rattle.author_formulas.specs.Formulas.{Formulas, Load, wait, loaded}

-- where the task of a memo or of a resource stands between two polls
pub data MemoTask (V F : Type 0) : Type 0 where
  -- it wasn't polled yet
  fresh : (cell : ℕ) → F → (loads : Bool) → MemoTask V F
  -- a memo with its reactive context
  memo : (cell context : ℕ) → F → MemoTask V F
  -- a resource with its context: its key, the next step of loading for it, and whether it was loaded
  resource : (cell context : ℕ) → F → (key : V) → (step : ℕ) → (is_done : Bool) → MemoTask V F

module _ {V F : Type 0} where
  -- the cell that a task keeps
  abbrev pub cell_of : MemoTask V F → ℕ
  cell_of (fresh cell f loads) = cell
  cell_of (memo cell context f) = cell
  cell_of (resource cell context f key step is_done) = cell

  -- its reactive context, which it has from its first poll on
  abbrev pub context_of : MemoTask V F → Option ℕ
  context_of (fresh cell f loads) = None
  context_of (memo cell context f) = Some context
  context_of (resource cell context f key step is_done) = Some context

  -- the formula of a task
  abbrev pub formula_of : MemoTask V F → F
  formula_of (fresh cell f loads) = f
  formula_of (memo cell context f) = f
  formula_of (resource cell context f key step is_done) = f

-- whether a value is the present one of a cell
abbrev pub is_present : {V : Type 0} → (V → V → Bool) → Option V → V → Bool
is_present same None v = false
is_present same (Some present) v = same present v

module _ {K : Types} where
  -- a cell is written, unless it has the value
  abbrev pub written_unless : Bool → ℕ → K.Value → Program K Nothing
  written_unless true cell v = done nothing
  written_unless false cell v = write cell v (done nothing)

  -- a cell is read, and written where it has another value
  abbrev pub set_to : (K.Value → K.Value → Bool) → ℕ → K.Value → Program K Nothing
  set_to same cell v = read cell (λ present. written_unless (is_present same present v) cell v)

  -- the number of a cell is kept in a hook once its task was spawned
  abbrev pub kept_with_task : Keeping K.Value → ℕ → Option ℕ → Program K (Option ℕ)
  kept_with_task k cell None = done None
  kept_with_task k cell (Some t) = kept_cell k cell

module _ {K : Types} {F : Type 0} where
  -- the reactive context of a task: where it has none a new one, which wakes it
  abbrev pub context_for : MemoTask K.Value F → ℕ → Program K (Option ℕ)
  context_for (fresh cell f loads) t = new_context (TaskTarget t) (λ context. done context)
  context_for (memo cell context f) t = done (Some context)
  context_for (resource cell context f key step is_done) t = done (Some context)

  -- the value of a formula, computed in an emptied context, whose sources are those of the formula from then on
  abbrev pub computed_in : Formulas K F → ℕ → F → Program K K.Value
  computed_in a context f = reset_and_run_in context (go_on (a.computes f) (λ v. leave (done v)))

  -- a resource after one step of loading: it waits for the next one, or its cell has the value
  abbrev pub after_step : ℕ → ℕ → F → K.Value → ℕ → Load K.Value → Program K (MemoTask K.Value F)
  after_step cell context f key step wait = done (resource cell context f key (min (step + 1) last_number) false)
  after_step cell context f key step (loaded v) = write cell v (done (resource cell context f key step true))

  -- a resource takes one more step of loading for its key, unless it was loaded
  abbrev pub loading_on : Formulas K F → ℕ → ℕ → F → K.Value → ℕ → Bool → Program K (MemoTask K.Value F)
  loading_on a cell context f key step true = done (resource cell context f key step true)
  loading_on a cell context f key step false = after_step cell context f key step (a.loads f key step)

  -- a resource begins to load for a new key: its cell is empty until that was loaded
  abbrev pub loading_anew : Formulas K F → ℕ → ℕ → F → K.Value → Program K (MemoTask K.Value F)
  loading_anew a cell context f key = go_on (set_to a.same cell a.empty) (λ _. loading_on a cell context f key 0 false)

  -- a resource whose key is the one that it had loads on; another key is a new one
  abbrev pub loading_for : Formulas K F → ℕ → ℕ → F → K.Value → ℕ → Bool → Bool → Program K (MemoTask K.Value F)
  loading_for a cell context f key step is_done true = loading_on a cell context f key step is_done
  loading_for a cell context f key step is_done false = loading_anew a cell context f key

  -- a memo whose cell is set to the value of its formula
  abbrev pub memo_set : Formulas K F → ℕ → ℕ → F → K.Value → Program K (MemoTask K.Value F)
  memo_set a cell context f v = go_on (set_to a.same cell v) (λ _. done (memo cell context f))

  -- what follows once the formula was computed, which gave a memo its value, a resource its key
  abbrev pub settled : Formulas K F → ℕ → MemoTask K.Value F → K.Value → Program K (MemoTask K.Value F)
  settled a context (fresh cell f false) v = memo_set a cell context f v
  settled a context (fresh cell f true) v = loading_anew a cell context f v
  settled a context (memo cell old f) v = memo_set a cell context f v
  settled a context (resource cell old f key step is_done) v = loading_for a cell context f v step is_done (a.same key v)

  -- a poll in the context of the task; without one the task stands where it stood
  abbrev pub polled_in : Formulas K F → MemoTask K.Value F → Option ℕ → Program K (MemoTask K.Value F)
  polled_in a m None = done m
  polled_in a m (Some context) = go_on (computed_in a context (formula_of m)) (λ v. settled a context m v)

  -- a poll of a task; where none is polled it stands where it stood
  abbrev pub polled_by : Formulas K F → MemoTask K.Value F → Option ℕ → Program K (MemoTask K.Value F)
  polled_by a m None = done m
  polled_by a m (Some t) = go_on (context_for m t) (λ context. polled_in a m context)

  -- a poll of a memo or of a resource, which answers where its task stands then
  abbrev pub memo_polled : Formulas K F → MemoTask K.Value F → Program K (MemoTask K.Value F)
  memo_polled a m = current_task (λ t. polled_by a m t)

  -- an application polls its memos and resources: in each of their states its poll means this one, and goes on with the state of the
  -- place that this one answers
  abbrev pub PollsMemos : Formulas K F → Application K → (MemoTask K.Value F → K.TaskState) → Type 0
  PollsMemos a app state =
      (m : MemoTask K.Value F) (w : World K) → app.poll (state m) w ≡ call_means (go_on (memo_polled a m) (λ n. done (pending (state n)))) w

  -- a cell that was made gets the task that keeps it, and the hook that keeps its number
  abbrev pub made_memo : Keeping K.Value → (MemoTask K.Value F → K.TaskState) → F → Bool → Option ℕ → Program K (Option ℕ)
  made_memo k state f loads None = done None
  made_memo k state f loads (Some cell) = spawn (state (fresh cell f loads)) false true (λ t. kept_with_task k cell t)

  -- a cell that is made with its task where no hook stands yet, else the one that the hook keeps
  abbrev pub first_or_kept_memo :
      Keeping K.Value → (MemoTask K.Value F → K.TaskState) → K.Value → F → Bool → Bool → Program K (Option ℕ)
  first_or_kept_memo k state empty f loads true = new_cell empty (λ cell. made_memo k state f loads cell)
  first_or_kept_memo k state empty f loads false = kept_cell k 0

  -- the cell of a memo or of a resource of the scope, made with its task at the scope's first run
  abbrev pub own_memo : Keeping K.Value → (MemoTask K.Value F → K.TaskState) → K.Value → F → Bool → Program K (Option ℕ)
  own_memo k state empty f loads = hook_is_new (λ is_new. first_or_kept_memo k state empty f loads is_new)
