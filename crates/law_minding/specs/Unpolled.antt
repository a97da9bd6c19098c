-- A task of a memo or of a resource that wasn't polled yet: it stands as it was spawned, and is owed its first poll.
use Rattle.std.specs.Prelude.{ℕ, ◌<◌, Bool, true, false, List, [], ◌∷◌, Some, None, ◌≡◌, is_some}
use Rattle.rt_model.specs.Lists.{at}
use Rattle.rt_model.specs.Laws.{IsLawful}
use Rattle.rt_model.specs.Tree.{Types}
use Rattle.rt_model.specs.World.{Application}
use Rattle.rt_model.specs.State.{CellRow, TaskRow, State}
use Rattle.rt_model.specs.Next.{is_active, next}
use Rattle.rt_model.specs.Replay.{Entry, Poll, Input, Machine, start}
use Rattle.rt_model.specs.Causes.{Limits, replay_within}
use Rattle.rt_model.specs.Told.{is_settled}
use Rattle.law_moves.specs.Moves.{Move, Logged, entries, Leads}
use Rattle.law_behavior.specs.Owed.{OwesPoll}
use Rattle.author_formulas.specs.Formulas.{Formulas, FormulasLook}
use Rattle.author_formulas.specs.Memos.{MemoTask, fresh, PollsMemos}
use Rattle.law_minding.specs.Held.{move_polls, next_poll_world, after_poll, MoveSpares, HeldOn, held_to, IsKept}

module _ {K : Types} {F : Type 0} (state : MemoTask K.Value F → K.TaskState) where
  -- it is there in state fresh, in a scope that is live, with its cell, and is owed a poll
  pub record StandsFresh (w : State K) (t cell scope : ℕ) (held : CellRow K) (f : F) (loads : Bool) : Type 0 where
    pub task : TaskRow K
    pub task_is : at w.tasks t ≡ Some task
    pub state_is : task.state ≡ state (fresh cell f loads)
    pub scope_is : task.scope ≡ scope
    pub lives : is_some (at w.scopes scope) ≡ true
    pub row_is : at w.cells cell ≡ Some held
    pub drawn : t < w.next.tasks
    pub owed : OwesPoll w t

module _ {K : Types} {F : Type 0} (a : Formulas K F) (app : Application K) where
  -- none of these moves polls a task, and each spares it
  abbrev pub UnpolledOn :
      (limits : Limits) (t owner : ℕ) (x : MemoTask K.Value F) (m v : Machine K) (moves : List Move)
      → Leads app limits m moves v
      → Type 0
  UnpolledOn limits t owner x m v [] leads = Unit {0}
  UnpolledOn limits t owner x m v (move ∷ moves) leads =
      (move_polls t move ≡ false) × MoveSpares a app m t owner x move × UnpolledOn limits t owner x leads.0 v moves leads.2

module _ {K : Types} {F : Type 0} (a : Formulas K F) (app : Application K) (state : MemoTask K.Value F → K.TaskState) where
  -- along such moves who stands fresh does so yet, where its task is there
  abbrev pub FreshStay : Type 0
  FreshStay =
      IsLawful K app
      → (limits : Limits) (m v : Machine K) (moves : List Move) (t cell scope : ℕ) (held : CellRow K) (f : F) (loads : Bool)
      → (leads : Leads app limits m moves v)
      → StandsFresh state m.state t cell scope held f loads
      → UnpolledOn a app limits t held.owner (fresh cell f loads) m v moves leads
      → is_some (at v.state.tasks t) ≡ true
      → StandsFresh state v.state t cell scope held f loads

module _ {K : Types} {F : Type 0} (app : Application K) (state : MemoTask K.Value F → K.TaskState) where
  -- and where nothing is owed it is paused
  abbrev pub FreshIsOwed : Type 0
  FreshIsOwed =
      (m : Machine K) (t cell scope : ℕ) (held : CellRow K) (f : F) (loads : Bool)
      → StandsFresh state m.state t cell scope held f loads
      → m.dead ≡ None
      → next m.state ≡ None
      → is_active m.state t ≡ false

module _ {K : Types} {F : Type 0} (a : Formulas K F) (app : Application K) where
  -- two logs in a row are made of moves, the second log opens with the first poll of a task: where the first moves don't poll the task and
  -- spare it, and those after the poll leave it to its polls, it is kept at their end, where it is there and active
  abbrev pub KeptFrom :
      (limits : Limits) (m u v : Machine K) (between log : List Entry) (t scope owner : ℕ) (x : MemoTask K.Value F)
      → Type 0
  KeptFrom limits m u v between log t scope owner x =
      (first : List Move)
      × (leads_first : Leads app limits m first u)
      × (entries first ≡ between)
      × (moves : List Move)
      × (leads : Leads app limits u (Logged (Poll t) ∷ moves) v)
      × (entries moves ≡ log)
      × (UnpolledOn a app limits t owner x m u first leads_first
      → HeldOn a app limits t scope owner (after_poll a (next_poll_world u t scope) t x) leads.0 v moves leads.2
      → is_active v.state t ≡ true
      → (task : TaskRow K)
      → at v.state.tasks t ≡ Some task
      → IsKept a v.state t task
      (held_to a app limits t scope (after_poll a (next_poll_world u t scope) t x) leads.0 v moves leads.2))

  -- moves that a log is made of: where none polls the task and each spares it, it is paused at their end
  abbrev pub PausedFrom : (limits : Limits) (m v : Machine K) (log : List Entry) (t owner : ℕ) (x : MemoTask K.Value F) → Type 0
  PausedFrom limits m v log t owner x =
      (moves : List Move)
      × (leads : Leads app limits m moves v)
      × (entries moves ≡ log)
      × (UnpolledOn a app limits t owner x m v moves leads → is_some (at v.state.tasks t) ≡ true → is_active v.state t ≡ false)

module _ {K : Types} {F : Type 0} (a : Formulas K F) (app : Application K) (state : MemoTask K.Value F → K.TaskState) where
  -- a task that stands fresh after some entries of a session, is polled first after others that spare it, and is held from there on, is
  -- kept after each report where it is active
  abbrev pub FreshAreKept : Type 0
  FreshAreKept =
      IsLawful K app
      → FormulasLook a
      → PollsMemos a app state
      → (limits : Limits) (props : K.Props) (inputs : List (Input K)) (m u v : Machine K) (before between log : List Entry)
      → (t cell scope : ℕ) (held : CellRow K) (f : F) (loads : Bool)
      → replay_within app limits (Some (start app props inputs)) before ≡ Some m
      → replay_within app limits (Some m) between ≡ Some u
      → replay_within app limits (Some u) (Poll t ∷ log) ≡ Some v
      → is_settled v ≡ true
      → StandsFresh state m.state t cell scope held f loads
      → KeptFrom a app limits m u v between log t scope held.owner (fresh cell f loads)
