-- What wakes a task: a wake, a resume, or a mark of a source that one of its reactive contexts read. Such a cause stands between the starts
-- of two polls of it.
use Rattle.std.specs.Prelude.{ℕ, ◌<◌, nat_eq, Bool, true, false, ◌&&◌, ◌||◌, not, List, [], ◌∷◌, Option, Some, None, ◌≡◌, if◌then◌else◌, is_some}
use Rattle.rt_model.specs.Lists.{at, has, kept_by}
use Rattle.rt_model.specs.Laws.{IsLawful}
use Rattle.rt_model.specs.Tree.{Types}
use Rattle.rt_model.specs.World.{Source, Cell, Error, Context, Target, ScopeTarget, TaskTarget, Command, Write, DropCell, Wake, SetActive, Provide, Throw, ClearErrors, Application}
use Rattle.rt_model.specs.State.{Scope, CellRow, ContextRow, TaskRow, State, error_context}
use Rattle.rt_model.specs.Commands.{names_source, unqueued, command}
use Rattle.rt_model.specs.Next.{at_rest}
use Rattle.rt_model.specs.Removal.{cells_in}
use Rattle.rt_model.specs.Replay.{Entry, Taken, Poll, Removed, Post, WakeTask, Message, Input, WakeOf, WriteOf, Drain, Machine}
use Rattle.rt_model.specs.Causes.{Limits}
use Rattle.rt_model.specs.Run.{with_next}
use Rattle.rt_model.specs.Asides.{Aside, Asked, Advanced}
use Rattle.law_moves.specs.Reached.{Part, ByMoves, ByAside, Comes}
use Rattle.law_moves.specs.Moves.{Move, Silent, Closed, Logged, Moves, Leads}
use Rattle.law_behavior.specs.Deeds.{Deed, poll_deeds, move_deeds}
use Rattle.law_behavior.specs.Wakes.{differs}

-- a reactive context targets a task
abbrev pub is_task : ℕ → Target → Bool
is_task t (ScopeTarget s) = false
is_task t (TaskTarget u) = nat_eq u t

-- a message wakes a task
abbrev pub post_wakes : ℕ → Post → Bool
post_wakes t (WakeTask u) = nat_eq u t
post_wakes t _ = false

-- one of several messages does
abbrev pub messages_wake : ℕ → List Message → Bool
messages_wake t [] = false
messages_wake t (m ∷ ms) = post_wakes t m.what || messages_wake t ms

module _ {K : Types} where
  -- in one of these reactive contexts of a task a source was read
  abbrev pub hears : ℕ → List (ℕ × ContextRow K) → Source → Bool
  hears t [] i = false
  hears t (e ∷ es) i = (names_source (e.1).sources i && is_task t (e.1).target) || hears t es i

  -- a scope that was found keeps no error
  abbrev pub is_empty : Option (Scope K) → Bool
  is_empty None = false
  is_empty (Some x) = not (is_some x.error)

  -- an error comes to a boundary that keeps none yet, and the task read that slot
  abbrev pub hears_throw : ℕ → State K → Option ℕ → Bool
  hears_throw t w None = false
  hears_throw t w (Some b) = is_empty (at w.scopes b) && hears t w.contexts (Error b)

  -- a boundary's slot is emptied, which the task read
  abbrev pub hears_clear : ℕ → State K → Option ℕ → Bool
  hears_clear t w None = false
  hears_clear t w (Some b) = hears t w.contexts (Error b)

  -- a task that was found is paused
  abbrev pub is_paused : Option (TaskRow K) → Bool
  is_paused None = false
  is_paused (Some x) = not x.active

  -- a source goes with a scope: one of its cells, its error, what it provides
  abbrev pub goes_with : List (ℕ × CellRow K) → ℕ → Source → Bool
  goes_with cells s (Cell n) = has (cells_in s cells) n
  goes_with cells s (Error b) = nat_eq b s
  goes_with cells s (Context k b) = nat_eq b s

  -- one of these sources does
  abbrev pub loses : List (ℕ × CellRow K) → ℕ → List Source → Bool
  loses cells s [] = false
  loses cells s (i ∷ is) = goes_with cells s i || loses cells s is

  -- one of these reactive contexts of a task read such a source
  abbrev pub removal_wakes : ℕ → List (ℕ × CellRow K) → ℕ → List (ℕ × ContextRow K) → Bool
  removal_wakes t cells s [] = false
  removal_wakes t cells s (e ∷ es) = (loses cells s (e.1).sources && is_task t (e.1).target) || removal_wakes t cells s es

  -- the next input wakes a task
  abbrev pub input_wakes : ℕ → State K → List (Input K) → Bool
  input_wakes t w [] = false
  input_wakes t w (WakeOf u ∷ more) = nat_eq u t
  input_wakes t w (WriteOf n v ∷ more) = is_some (at w.cells n) && hears t w.contexts (Cell n)
  input_wakes t w (Drain messages ∷ more) = messages_wake t messages
  input_wakes t w (input ∷ more) = false

  -- so does an entry by itself: by the input that it takes in, or by what goes with the scope that it removes, where a context stays
  abbrev pub entry_wakes : ℕ → Machine K → Entry → Bool
  entry_wakes t m (Taken k) = input_wakes t (at_rest m.state) m.inputs
  entry_wakes t m (Removed s) = removal_wakes t m.state.cells s (kept_by (λ e. not (nat_eq (e.1).scope s)) m.state.contexts)
  entry_wakes t m _ = false

module _ {K : Types} (app : Application K) where
  -- a live scope provides a value where it provided none or another one, and the task read that context
  abbrev pub hears_provide : ℕ → State K → ℕ → ℕ → K.Value → Option (Scope K) → Bool
  hears_provide t w s k v None = false
  hears_provide t w s k v (Some x) = differs app v (at x.contexts k) && hears t w.contexts (Context k s)

  -- a command wakes a task: it wakes or resumes it, or marks a source that the task read
  abbrev pub wakes : ℕ → State K → ℕ → Command K → Bool
  wakes t w s (Wake u) = nat_eq u t
  wakes t w s (SetActive u active) = nat_eq u t && (active && is_paused (at w.tasks u))
  wakes t w s (Write n v) = is_some (at w.cells n) && hears t w.contexts (Cell n)
  wakes t w s (DropCell n) = is_some (at w.cells n) && hears t w.contexts (Cell n)
  wakes t w s (Provide root k v) = hears_provide t w (if root then 0 else s) k v (at w.scopes (if root then 0 else s))
  wakes t w s (Throw e) = hears_throw t w (error_context w s)
  wakes t w s ClearErrors = hears_clear t w (error_context w s)
  wakes t w s _ = false

  -- one of the commands of a call does, each in the state that it finds
  abbrev pub any_wakes : ℕ → State K → ℕ → Option ℕ → List (Command K) → Bool
  any_wakes t w s polled [] = false
  any_wakes t w s polled (c ∷ cs) = wakes t w s c || any_wakes t (command app w s polled c) s polled cs

  -- one of these calls does
  abbrev pub calls_wake : ℕ → List (Deed K) → Bool
  calls_wake t [] = false
  calls_wake t (d ∷ ds) = any_wakes t d.state d.scope d.polled d.wants || calls_wake t ds

  -- a move wakes a task: by its calls, or by its entry
  abbrev pub move_wakes : ℕ → Machine K → Move → Bool
  move_wakes t m Silent = calls_wake t (move_deeds app m Silent)
  move_wakes t m Closed = false
  move_wakes t m (Logged e) = calls_wake t (move_deeds app m (Logged e)) || entry_wakes t m e

  -- one of these moves does
  abbrev pub some_wakes : (limits : Limits) (t : ℕ) (m v : Machine K) (moves : List Move) → Leads app limits m moves v → Bool
  some_wakes limits t m v [] leads = false
  some_wakes limits t m v (move ∷ moves) leads = move_wakes t m move || some_wakes limits t leads.0 v moves leads.2

  -- from the start of a poll of a task whose number was drawn to that of its next one, something woke it
  abbrev pub PollsAreCaused : Type 0
  PollsAreCaused =
      IsLawful K app
      → (limits : Limits) (m v u : Machine K) (moves : List Move) (t : ℕ)
      → (leads : Leads app limits m (Logged (Poll t) ∷ moves) v)
      → t < m.state.next.tasks
      → Moves app limits v (Logged (Poll t)) u
      → some_wakes limits t m v (Logged (Poll t) ∷ moves) leads ≡ true

  -- a call of a program that logs no entry wakes a task: by its commands, or by those of the poll of a task at once
  abbrev pub aside_wakes : ℕ → State K → Aside K → Bool
  aside_wakes t w (Asked s next cs) = any_wakes t (with_next w next) s None cs
  aside_wakes t w (Advanced u) = calls_wake t (poll_deeds app (unqueued w u) u (at w.tasks u))
  aside_wakes t w _ = false

  -- one of these parts of a program's way does
  abbrev pub parts_wake : (limits : Limits) (t : ℕ) (m v : Machine K) (parts : List (Part K)) → Comes app limits m parts v → Bool
  parts_wake limits t m v [] comes = false
  parts_wake limits t m v (ByMoves moves ∷ parts) comes =
      some_wakes limits t m comes.0 moves comes.1 || parts_wake limits t comes.0 v parts comes.2
  parts_wake limits t m v (ByAside x ∷ parts) comes = aside_wakes t m.state x || parts_wake limits t comes.0 v parts comes.2

  -- and so it is past calls that log no entry, of a runtime that a program keeps
  abbrev pub PollsAreCausedThrough : Type 0
  PollsAreCausedThrough =
      IsLawful K app
      → (limits : Limits) (m u v z : Machine K) (moves : List Move) (parts : List (Part K)) (t : ℕ)
      → (leads : Leads app limits m (Logged (Poll t) ∷ moves) u)
      → (comes : Comes app limits u parts v)
      → t < m.state.next.tasks
      → Moves app limits v (Logged (Poll t)) z
      → some_wakes limits t m u (Logged (Poll t) ∷ moves) leads || parts_wake limits t u v parts comes ≡ true
