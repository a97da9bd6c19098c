-- Memos and resources that nobody else touches: what is asked of the moves between their polls, and what their cells hold at the end.
use Rattle.std.specs.Prelude.{ℕ, ◌+◌, ◌<◌, Bool, true, false, nat_eq, List, [], ◌∷◌, Option, Some, None, ◌≡◌, is_some, if◌then◌else◌}
use Rattle.std.specs.List.{AllByRecursion}
use Rattle.rt_model.specs.Lists.{at, put}
use Rattle.rt_model.specs.Laws.{IsLawful}
use Rattle.rt_model.specs.Program.{Call, begun}
use Rattle.rt_model.specs.Tree.{Types}
use Rattle.rt_model.specs.World.{Command, Write, DropCell, Reset, ReadInto, World, Application}
use Rattle.rt_model.specs.State.{CellRow, TaskRow, State, world_of, values_of}
use Rattle.rt_model.specs.Commands.{unqueued, commands}
use Rattle.rt_model.specs.Next.{look, is_active, at_rest, next}
use Rattle.rt_model.specs.Replay.{Entry, Poll, Input, Machine, start}
use Rattle.rt_model.specs.Causes.{Limits, replay_within}
use Rattle.rt_model.specs.Told.{is_settled}
use Rattle.law_moves.specs.Moves.{Move, Silent, Closed, Logged, entries, IsSettled, Moves, Leads}
use Rattle.law_moves.specs.Reached.{Reached}
use Rattle.law_behavior.specs.Along.{removed_in}
use Rattle.law_behavior.specs.Deeds.{Deed, move_deeds}
use Rattle.law_behavior.specs.Owed.{polled_in}
use Rattle.law_lasting.specs.CellsLast.{TakenLeaves}
use Rattle.author_programs.specs.Came.{came}
use Rattle.author_formulas.specs.Formulas.{Formulas, FormulasLook, loaded, value_of}
use Rattle.author_formulas.specs.Memos.{MemoTask, fresh, memo, resource, cell_of, context_of, formula_of, memo_polled, PollsMemos}
use Rattle.author_formulas.specs.Polls.{computing_call, first_computing_call}
use Rattle.law_minding.specs.Minding.{polled_world}

-- where a task stands since its last poll, the world of that poll, and the call in which it computed its formula
pub record Since (K : Types) (F : Type 0) : Type 0 where
  pub place : MemoTask K.Value F
  pub last : World K
  pub call : Call K

-- another number than one that may be there
abbrev pub OtherThan : Option ℕ → ℕ → Type 0
OtherThan None n = Unit {0}
OtherThan (Some m) n = nat_eq n m ≡ false

-- a move polls a task
abbrev pub move_polls : ℕ → Move → Bool
move_polls t Silent = false
move_polls t Closed = false
move_polls t (Logged e) = polled_in t e

-- and removes a scope
abbrev pub move_removes : ℕ → Move → Bool
move_removes s Silent = false
move_removes s Closed = false
move_removes s (Logged e) = removed_in s e

module _ {K : Types} where
  -- the world in which a task of a scope is polled next
  abbrev pub next_poll_world : Machine K → ℕ → ℕ → World K
  next_poll_world m t scope = world_of (unqueued (at_rest m.state) t) scope (Some t) false

module _ {K : Types} {F : Type 0} where
  -- a command leaves the cell and the reactive context of a task alone
  abbrev pub Spares : MemoTask K.Value F → Command K → Type 0
  Spares x (Write n v) = nat_eq n (cell_of x) ≡ false
  Spares x (DropCell n) = nat_eq n (cell_of x) ≡ false
  Spares x (Reset n) = OtherThan (context_of x) n
  Spares x (ReadInto n source) = OtherThan (context_of x) n
  Spares x _ = Unit {0}

  -- the call in which a poll computes the formula of a task
  abbrev pub asked_call : World K → ℕ → MemoTask K.Value F → Call K
  asked_call w t (fresh cell f loads) = first_computing_call w t
  asked_call w t (memo cell context f) = computing_call w context
  asked_call w t (resource cell context f key step is_done) = computing_call w context

module _ {K : Types} {F : Type 0} (a : Formulas K F) where
  -- after a poll in a world
  abbrev pub after_poll : World K → ℕ → MemoTask K.Value F → Since K F
  after_poll w t x =
      record { place = (came w (memo_polled a x) (begun false w.given.next)).answer; last = w; call = asked_call w t x }

  -- a poll of the task is told; each other move leaves it where it stands
  abbrev pub after_move : Machine K → ℕ → ℕ → Move → Since K F → Since K F
  after_move m t scope move h = if move_polls t move then after_poll (next_poll_world m t scope) t h.place else h

  -- a cell holds the value of a memo; or it is empty as long as a resource loads for its key, and then holds what was loaded for it
  abbrev pub Holds : MemoTask K.Value F → K.Value → K.Value → Type 0
  Holds (fresh cell f loads) value v = ⊥
  Holds (memo cell context f) value v = v ≡ value
  Holds (resource cell context f key step false) value v = (key ≡ value) × (v ≡ a.empty)
  Holds (resource cell context f key step true) value v = (key ≡ value) × (a.loads f key step ≡ loaded v)

module _ {K : Types} {F : Type 0} (a : Formulas K F) (app : Application K) where
  -- a move spares a task: it is a poll of it, or no call and no input writes or drops its cell, resets its context or reads into it, and
  -- the scope that the cell goes with stays
  abbrev pub MoveSpares : Machine K → ℕ → ℕ → MemoTask K.Value F → Move → Type 0
  MoveSpares m t owner x move =
      move_polls t move ≡ false
      → AllByRecursion (λ (d : Deed K). AllByRecursion (λ (c : Command K). Spares x c) d.wants) (move_deeds app m move)
      ×
      TakenLeaves (cell_of x) m.inputs move
      ×
      (move_removes owner move ≡ false)

  -- each of these moves does
  abbrev pub HeldOn :
      (limits : Limits) (t scope owner : ℕ) (h : Since K F) (m v : Machine K) (moves : List Move)
      → Leads app limits m moves v
      → Type 0
  HeldOn limits t scope owner h m v [] leads = Unit {0}
  HeldOn limits t scope owner h m v (move ∷ moves) leads =
      MoveSpares m t owner h.place move × HeldOn limits t scope owner (after_move a m t scope move h) leads.0 v moves leads.2

  -- where the task stands at their end
  abbrev pub held_to :
      (limits : Limits) (t scope : ℕ) (h : Since K F) (m v : Machine K) (moves : List Move)
      → Leads app limits m moves v
      → Since K F
  held_to limits t scope h m v [] leads = h
  held_to limits t scope h m v (move ∷ moves) leads = held_to limits t scope (after_move a m t scope move h) leads.0 v moves leads.2

module _ {K : Types} {F : Type 0} (state : MemoTask K.Value F → K.TaskState) where
  -- a task that is about to be polled first: it is there, with its cell
  pub record IsFresh (w : State K) (t cell scope owner : ℕ) (f : F) (loads : Bool) : Type 0 where
    pub task : TaskRow K
    pub task_is : at w.tasks t ≡ Some task
    pub state_is : task.state ≡ state (fresh cell f loads)
    pub scope_is : task.scope ≡ scope
    pub row : CellRow K
    pub row_is : at w.cells cell ≡ Some row
    pub owner_is : row.owner ≡ owner
    pub drawn : t < w.next.tasks

module _ {K : Types} {F : Type 0} (a : Formulas K F) where
  -- in a state the cell of a task holds what its formula gives there, with the cells drawn that its last poll found drawn
  abbrev pub IsKept : State K → ℕ → TaskRow K → Since K F → Type 0
  IsKept w t task h =
      (v : K.Value)
      × ((values_of w).cell (cell_of h.place) ≡ Some v)
      × Holds a h.place (value_of a (polled_world w t task) h.last.given.next.cells (formula_of h.place)) v

module _ {K : Types} {F : Type 0} (a : Formulas K F) (app : Application K) (state : MemoTask K.Value F → K.TaskState) where
  -- the state after the poll of a task as the definitions have it: it has done what that asks for, stands where that answers, and looked
  abbrev pub state_after_poll : Machine K → ℕ → TaskRow K → MemoTask K.Value F → State K
  state_after_poll m t task x =
      let w : State K = unqueued (at_rest m.state) t in
      let poll = came (polled_world w t task) (memo_polled a x) (begun false w.next) in
      look
      (commands
      app
      (record w { calls = w.calls + 1; next = poll.call.next; tasks = put w.tasks t (record task { state = state poll.answer }) })
      task.scope
      (Some t)
      poll.call.commands)

  -- a poll that no fault ends does what the definitions' poll asks for, leaves the task where that answers, and then looks
  abbrev pub PollsAreDone : Type 0
  PollsAreDone =
      PollsMemos a app state
      → (limits : Limits) (m u : Machine K) (t : ℕ) (task : TaskRow K) (x : MemoTask K.Value F)
      → Moves app limits m (Logged (Poll t)) u
      → at m.state.tasks t ≡ Some task
      → task.state ≡ state x
      → u.dead ≡ None
      → u.state ≡ state_after_poll m t task x

  -- of every machine that moves reach: from its first poll on, in a scope that is live, and where no context has the next number, a memo
  -- or a resource that nobody else touches is kept, wherever nothing is owed and its task is active
  abbrev pub HeldAreKept : Type 0
  HeldAreKept =
      IsLawful K app
      → FormulasLook a
      → PollsMemos a app state
      → (limits : Limits) (props : K.Props) (inputs : List (Input K)) (m v : Machine K) (moves : List Move)
      → (t cell scope owner : ℕ) (f : F) (loads : Bool)
      → (leads : Leads app limits m (Logged (Poll t) ∷ moves) v)
      → Reached app limits props inputs m
      → IsFresh state m.state t cell scope owner f loads
      → is_some (at m.state.scopes scope) ≡ true
      → at m.state.contexts m.state.next.contexts ≡ None
      → HeldOn a app limits t scope owner (after_poll a (next_poll_world m t scope) t (fresh cell f loads)) leads.0 v moves leads.2
      → v.dead ≡ None
      → next v.state ≡ None
      → is_active v.state t ≡ true
      → (task : TaskRow K)
      → at v.state.tasks t ≡ Some task
      → IsKept a v.state t task
      (held_to a app limits t scope (after_poll a (next_poll_world m t scope) t (fresh cell f loads)) leads.0 v moves leads.2)

  -- so it is along a log that is accepted within limits, from the entry of the first poll on
  abbrev pub LoggedHeldAreKept : Type 0
  LoggedHeldAreKept =
      IsLawful K app
      → FormulasLook a
      → PollsMemos a app state
      → (limits : Limits) (props : K.Props) (inputs : List (Input K)) (m v : Machine K) (log : List Entry)
      → (t cell scope owner : ℕ) (f : F) (loads : Bool)
      → IsSettled m
      → Reached app limits props inputs m
      → replay_within app limits (Some m) (Poll t ∷ log) ≡ Some v
      → IsFresh state m.state t cell scope owner f loads
      → is_some (at m.state.scopes scope) ≡ true
      → at m.state.contexts m.state.next.contexts ≡ None
      → (moves : List Move)
      × (leads : Leads app limits m (Logged (Poll t) ∷ moves) v)
      × (entries moves ≡ log)
      × (HeldOn a app limits t scope owner (after_poll a (next_poll_world m t scope) t (fresh cell f loads)) leads.0 v moves leads.2
      → v.dead ≡ None
      → next v.state ≡ None
      → is_active v.state t ≡ true
      → (task : TaskRow K)
      → at v.state.tasks t ≡ Some task
      → IsKept a v.state t task
      (held_to a app limits t scope (after_poll a (next_poll_world m t scope) t (fresh cell f loads)) leads.0 v moves leads.2))

  -- and so it is after each report of a session, where nothing is at work and nothing is owed: from the entry of the first poll on, where
  -- the scope of a task that is there is live, and no context has the next number
  abbrev pub SessionsKeep : Type 0
  SessionsKeep =
      IsLawful K app
      → FormulasLook a
      → PollsMemos a app state
      → (limits : Limits) (props : K.Props) (inputs : List (Input K)) (m v : Machine K) (before log : List Entry)
      → (t cell scope owner : ℕ) (f : F) (loads : Bool)
      → replay_within app limits (Some (start app props inputs)) before ≡ Some m
      → replay_within app limits (Some m) (Poll t ∷ log) ≡ Some v
      → is_settled v ≡ true
      → IsFresh state m.state t cell scope owner f loads
      → (moves : List Move)
      × (leads : Leads app limits m (Logged (Poll t) ∷ moves) v)
      × (entries moves ≡ log)
      × (HeldOn a app limits t scope owner (after_poll a (next_poll_world m t scope) t (fresh cell f loads)) leads.0 v moves leads.2
      → is_active v.state t ≡ true
      → (task : TaskRow K)
      → at v.state.tasks t ≡ Some task
      → IsKept a v.state t task
      (held_to a app limits t scope (after_poll a (next_poll_world m t scope) t (fresh cell f loads)) leads.0 v moves leads.2))
