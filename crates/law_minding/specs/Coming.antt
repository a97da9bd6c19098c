-- A task of a memo or of a resource that is spawned.
use Rattle.std.specs.Prelude.{ℕ, nat_eq, Bool, true, false, List, [], ◌∷◌, Option, Some, None, ◌≡◌, is_some, if◌then◌else◌}
use Rattle.std.specs.List.{AllByRecursion}
use Rattle.rt_model.specs.Lists.{at}
use Rattle.rt_model.specs.Laws.{IsLawful}
use Rattle.rt_model.specs.Tree.{Types}
use Rattle.rt_model.specs.World.{Command, Spawn, Application}
use Rattle.rt_model.specs.State.{CellRow, State}
use Rattle.rt_model.specs.Commands.{command}
use Rattle.rt_model.specs.Replay.{Entry, Machine}
use Rattle.rt_model.specs.Causes.{Limits}
use Rattle.law_moves.specs.Moves.{Move, Logged, entries, Moves, Leads}
use Rattle.law_behavior.specs.Deeds.{Deed, move_deeds}
use Rattle.author_formulas.specs.Formulas.{Formulas}
use Rattle.author_formulas.specs.Memos.{MemoTask, fresh}
use Rattle.law_minding.specs.Held.{move_removes, MoveSpares}
use Rattle.law_minding.specs.Unpolled.{StandsFresh, UnpolledOn}

module _
    {K : Types} {F : Type 0} (app : Application K) (state : MemoTask K.Value F → K.TaskState)
    (t cell scope : ℕ) (held : CellRow K) (f : F) (loads : Bool) where
  -- a command that spawns a task of this number spawns it in state fresh, into this scope, in a state that has its cell
  abbrev pub SpawnsOne : State K → ℕ → Command K → Type 0
  SpawnsOne w s (Spawn u a forever isomorphic) =
      nat_eq u t ≡ true → (a ≡ state (fresh cell f loads)) × ((if forever then 0 else s) ≡ scope) × (at w.cells cell ≡ Some held)
  SpawnsOne w s _ = Unit {0}

  -- so do all commands of a call, each in the state that it finds
  abbrev pub SpawnsFresh : State K → ℕ → Option ℕ → List (Command K) → Type 0
  SpawnsFresh w s polled [] = Unit {0}
  SpawnsFresh w s polled (c ∷ cs) = SpawnsOne w s c × SpawnsFresh (command app w s polled c) s polled cs

module _ {K : Types} {F : Type 0} (a : Formulas K F) (app : Application K) (state : MemoTask K.Value F → K.TaskState) where
  -- until a task is there each of these moves spawns it in no other way than fresh; the one behind which it is there first spares it and
  -- doesn't remove its scope, and those that follow don't poll it and spare it
  abbrev pub ComesFresh :
      (limits : Limits) (t cell scope : ℕ) (held : CellRow K) (f : F) (loads : Bool) (m v : Machine K) (moves : List Move)
      → Leads app limits m moves v
      → Type 0
  ComesFresh limits t cell scope held f loads m v [] leads = Unit {0}
  ComesFresh limits t cell scope held f loads m v (move ∷ moves) leads =
      AllByRecursion
      (λ (d : Deed K). SpawnsFresh app state t cell scope held f loads d.state d.scope d.polled d.wants)
      (move_deeds app m move)
      × (at leads.0.state.tasks t ≡ None → ComesFresh limits t cell scope held f loads leads.0 v moves leads.2)
      × (is_some (at leads.0.state.tasks t) ≡ true
      → MoveSpares a app m t held.owner (fresh cell f loads) move
      × (move_removes scope move ≡ false)
      × UnpolledOn a app limits t held.owner (fresh cell f loads) leads.0 v moves leads.2)

  -- an entry is made of moves, of which the first is logged and no other one is: a task that comes fresh in one of them stands fresh at
  -- their end, where it is there then
  abbrev pub FreshFrom :
      (limits : Limits) (m n : Machine K) (e : Entry) (t cell scope : ℕ) (held : CellRow K) (f : F) (loads : Bool)
      → Type 0
  FreshFrom limits m n e t cell scope held f loads =
      (moves : List Move)
      × (leads : Leads app limits m (Logged e ∷ moves) n)
      × (entries moves ≡ [])
      × (ComesFresh limits t cell scope held f loads m n (Logged e ∷ moves) leads
      → is_some (at n.state.tasks t) ≡ true
      → StandsFresh state n.state t cell scope held f loads)

  -- a task that wasn't there before a move, and that its calls spawn in no other way than fresh, with its cell there, stands fresh behind
  -- it, where it is there then: if the move spares it, and removes neither its scope nor that of the cell
  abbrev pub SpawnedStand : Type 0
  SpawnedStand =
      IsLawful K app
      → (limits : Limits) (m u : Machine K) (move : Move) (t cell scope : ℕ) (held : CellRow K) (f : F) (loads : Bool)
      → Moves app limits m move u
      → at m.state.tasks t ≡ None
      → AllByRecursion
      (λ (d : Deed K). SpawnsFresh app state t cell scope held f loads d.state d.scope d.polled d.wants)
      (move_deeds app m move)
      → MoveSpares a app m t held.owner (fresh cell f loads) move
      → move_removes scope move ≡ false
      → is_some (at u.state.tasks t) ≡ true
      → StandsFresh state u.state t cell scope held f loads

  -- so it is along moves, with entries or without, as where a boundary turns and calls its callbacks, or runs its fallback
  abbrev pub ComersStand : Type 0
  ComersStand =
      IsLawful K app
      → (limits : Limits) (m v : Machine K) (moves : List Move) (t cell scope : ℕ) (held : CellRow K) (f : F) (loads : Bool)
      → (leads : Leads app limits m moves v)
      → at m.state.tasks t ≡ None
      → ComesFresh limits t cell scope held f loads m v moves leads
      → is_some (at v.state.tasks t) ≡ true
      → StandsFresh state v.state t cell scope held f loads
