-- What lasts of a cell: its owner and its value, until it is written or dropped, or goes with its owner.
use Rattle.std.specs.Prelude.{ℕ, false, nat_eq, Option, List, [], ◌∷◌, Some, ◌≡◌}
use Rattle.std.specs.List.{AllByRecursion}
use Rattle.rt_model.specs.Lists.{at}
use Rattle.rt_model.specs.Tree.{Types}
use Rattle.rt_model.specs.World.{Command, Write, DropCell, Application}
use Rattle.rt_model.specs.State.{CellRow, State}
use Rattle.rt_model.specs.Commands.{commands}
use Rattle.rt_model.specs.Replay.{Entry, Taken, Input, WriteOf, Machine}
use Rattle.rt_model.specs.Causes.{Limits, replay_within}
use Rattle.law_moves.specs.Moves.{Move, Logged, entries, IsSettled, Leads}
use Rattle.law_behavior.specs.Along.{NoneRemoves}
use Rattle.law_behavior.specs.Deeds.{Deed, move_deeds}

module _ {K : Types} where
  -- a command neither writes nor drops the cell
  abbrev pub LeavesCell : ℕ → Command K → Type 0
  LeavesCell n (Write c v) = nat_eq c n ≡ false
  LeavesCell n (DropCell c) = nat_eq c n ≡ false
  LeavesCell n _ = Unit {0}

  -- none of these commands does
  abbrev pub AllLeave : ℕ → List (Command K) → Type 0
  AllLeave n cs = AllByRecursion (λ (c : Command K). LeavesCell n c) cs

  -- the first of these inputs doesn't write it
  abbrev pub FirstLeaves : ℕ → List (Input K) → Type 0
  FirstLeaves n (WriteOf c v ∷ more) = nat_eq c n ≡ false
  FirstLeaves n _ = Unit {0}

  -- the input that a move takes in, if any, doesn't
  abbrev pub TakenLeaves : ℕ → List (Input K) → Move → Type 0
  TakenLeaves n inputs (Logged (Taken k)) = FirstLeaves n inputs
  TakenLeaves n inputs _ = Unit {0}

module _ {K : Types} (app : Application K) where
  -- no call on the way of these moves writes or drops the cell, and no input that is taken in writes it
  abbrev pub NoneWritesOn : (limits : Limits) (n : ℕ) (m v : Machine K) (moves : List Move) → Leads app limits m moves v → Type 0
  NoneWritesOn limits n m v [] leads = Unit {0}
  NoneWritesOn limits n m v (move ∷ moves) leads =
      AllByRecursion (λ (d : Deed K). AllLeave n d.wants) (move_deeds app m move)
      ×
      TakenLeaves n m.inputs move
      ×
      NoneWritesOn limits n leads.0 v moves leads.2

  -- a cell keeps its owner and its value, whatever commands are done, unless one writes or drops it
  abbrev pub CellsStay : Type 0
  CellsStay =
      (w : State K) (s : ℕ) (polled : Option ℕ) (cs : List (Command K)) (n : ℕ) (row : CellRow K)
      → AllLeave n cs
      → at w.cells n ≡ Some row
      → at (commands app w s polled cs).cells n ≡ Some row

  -- along moves it keeps them until a call or an input writes it, a call drops it, or its owner is removed
  abbrev pub CellsLast : Type 0
  CellsLast =
      (limits : Limits) (m v : Machine K) (moves : List Move) (n : ℕ) (row : CellRow K) (leads : Leads app limits m moves v)
      → NoneRemoves row.owner (entries moves)
      → NoneWritesOn limits n m v moves leads
      → at m.state.cells n ≡ Some row
      → at v.state.cells n ≡ Some row

  -- a log that is accepted within limits is that of moves on whose way cells last so
  abbrev pub LoggedCellsLast : Type 0
  LoggedCellsLast =
      (limits : Limits) (m v : Machine K) (log : List Entry) (n : ℕ) (row : CellRow K)
      → IsSettled m
      → replay_within app limits (Some m) log ≡ Some v
      → NoneRemoves row.owner log
      → at m.state.cells n ≡ Some row
      → (moves : List Move)
      × (leads : Leads app limits m moves v)
      × (entries moves ≡ log)
      × (NoneWritesOn limits n m v moves leads → at v.state.cells n ≡ Some row)
