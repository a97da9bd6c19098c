-- A memo that stands: what its last poll computed, and that its task has a wake where a source has changed since then.
use Rattle.std.specs.Prelude.{ℕ, nat_eq, true, false, Some, None, ◌≡◌, ◌⊎◌}
use Rattle.std.specs.List.{AllByRecursion}
use Rattle.rt_model.specs.Lists.{at, put}
use Rattle.rt_model.specs.Laws.{SameAt}
use Rattle.rt_model.specs.Program.{Call, begun}
use Rattle.rt_model.specs.Tree.{Types}
use Rattle.rt_model.specs.World.{Source, TaskTarget, World, Application}
use Rattle.rt_model.specs.State.{TaskRow, ContextRow, State, world_of, values_of}
use Rattle.rt_model.specs.Commands.{names_source, write_cell, commands}
use Rattle.rt_model.specs.Next.{is_active, next}
use Rattle.rt_model.specs.Replay.{Machine}
use Rattle.law_moves.specs.Heeds.{SameOf}
use Rattle.law_behavior.specs.Owed.{OwesPoll}
use Rattle.author_programs.specs.Came.{came}
use Rattle.author_formulas.specs.Looking.{MadeNothing, StandAlike}
use Rattle.author_formulas.specs.Formulas.{Formulas, FormulasLook, value_of}
use Rattle.author_formulas.specs.Memos.{MemoTask, memo, memo_polled}
use Rattle.author_formulas.specs.Polls.{computed, computing_call}

module _ {K : Types} where
  -- the world that a poll of a task sees
  abbrev pub polled_world : State K → ℕ → TaskRow K → World K
  polled_world w t x = world_of w x.scope (Some t) false

  -- a task, and the reactive context that wakes it
  pub record HasContext (w : State K) (t context : ℕ) (task : TaskRow K) (reads : ContextRow K) : Type 0 where
    pub task_is : at w.tasks t ≡ Some task
    pub context_is : at w.contexts context ≡ Some reads
    pub target : reads.target ≡ TaskTarget t

  -- a change that leaves a memo alone: its task and context, the scopes above it, and its cell while that lives; and that minds its
  -- sources: whoever was owed a poll still is, and where a source has another value the task is owed one
  pub record MindsMemo (w v : State K) (t cell context : ℕ) (task later : TaskRow K) (reads : ContextRow K) : Type 0 where
    pub rows : HasContext v t context later reads
    pub alike : StandAlike (polled_world w t task) (polled_world v t later)
    pub holds : (x : K.Value) → (values_of v).cell cell ≡ Some x → (values_of w).cell cell ≡ Some x
    pub stays : OwesPoll w t → OwesPoll v t
    pub told : (i : Source) → names_source reads.sources i ≡ true → SameOf w v i ⊎ OwesPoll v t

-- a write of another cell than the memo's minds it
abbrev pub WritesMind : Types → Type 0
WritesMind K =
    (w : State K) (t cell context n : ℕ) (v : K.Value) (task : TaskRow K) (reads : ContextRow K)
    → HasContext w t context task reads
    → nat_eq n cell ≡ false
    → MindsMemo w (write_cell w n v) t cell context task task reads

module _ {K : Types} {F : Type 0} (a : Formulas K F) where
  -- a memo that stands since the world of its last poll, in which its formula was computed in this call
  pub record MemoStands
      (w : State K) (t cell context : ℕ) (f : F) (last : World K) (call : Call K) (task : TaskRow K) (reads : ContextRow K) : Type 0 where
    pub outset : MadeNothing last call
    pub rows : HasContext w t context task reads
    -- the context read what the formula looked at then
    pub read : AllByRecursion (λ i. names_source reads.sources i ≡ true) (computed a last call f).call.aside
    pub alike : StandAlike last (polled_world w t task)
    -- the cell, while it lives, holds what came of it
    pub holds : (v : K.Value) → (values_of w).cell cell ≡ Some v → v ≡ (computed a last call f).answer
    -- the task is owed a poll, or each source has the value that it had then
    pub minds : OwesPoll w t ⊎ ((i : Source) → names_source reads.sources i ≡ true → SameAt last (polled_world w t task) i)

  -- after a change that minds it a memo stands as it stood
  abbrev pub MemosGoOn : Type 0
  MemosGoOn =
      (w v : State K) (t cell context : ℕ) (f : F) (last : World K) (call : Call K) (task later : TaskRow K) (reads : ContextRow K)
      → MemoStands w t cell context f last call task reads
      → MindsMemo w v t cell context task later reads
      → MemoStands v t cell context f last call later reads

  -- where nothing is owed, the cell of a memo that is active is the value of its formula now, with the cells drawn that the last poll
  -- found drawn
  abbrev pub OwedOrKept : Application K → Type 0
  OwedOrKept app =
      FormulasLook a
      → (m : Machine K) (t cell context : ℕ) (f : F) (last : World K) (call : Call K) (task : TaskRow K) (reads : ContextRow K)
      → MemoStands m.state t cell context f last call task reads
      → m.dead ≡ None
      → next m.state ≡ None
      → is_active m.state t ≡ true
      → (v : K.Value)
      → (values_of m.state).cell cell ≡ Some v
      → v ≡ value_of a (polled_world m.state t task) last.given.next.cells f

  -- the commands of a poll leave the memo standing, done in a state with the rows of the one in which it was polled
  abbrev pub PollsStand : Type 0
  PollsStand =
      FormulasLook a
      → (app : Application K) (state : MemoTask K.Value F → K.TaskState) (w u : State K) (t cell context : ℕ) (f : F)
      → (x : TaskRow K) (reads : ContextRow K)
      → HasContext w t context x reads
      → u.scopes ≡ w.scopes
      → u.cells ≡ w.cells
      → u.contexts ≡ w.contexts
      → u.tasks ≡ w.tasks
      → (row : ContextRow K)
      × MemoStands
      (commands app (record u { tasks = put u.tasks t (record x { state = state (memo cell context f) }) }) x.scope (Some t)
      (came (polled_world w t x) (memo_polled a (memo cell context f)) (begun false (polled_world w t x).given.next)).call.commands)
      t
      cell
      context
      f
      (polled_world w t x)
      (computing_call (polled_world w t x) context)
      (record x { state = state (memo cell context f) })
      row
