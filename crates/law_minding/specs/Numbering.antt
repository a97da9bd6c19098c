-- The numbers that the calls of a move give to new cells and contexts.
use Rattle.std.specs.Prelude.{ℕ, ◌+◌, ◌≤◌, ◌<◌, true, List, None, ◌≡◌, is_some}
use Rattle.std.specs.List.{AllByRecursion}
use Rattle.rt_model.specs.Lists.{at}
use Rattle.rt_model.specs.Laws.{IsLawful}
use Rattle.rt_model.specs.Tree.{Types}
use Rattle.rt_model.specs.World.{Firsts, Command, NewCell, NewContext, Application}
use Rattle.rt_model.specs.Replay.{Input, Machine, start}
use Rattle.rt_model.specs.Causes.{Limits}
use Rattle.law_moves.specs.Moves.{Move, Moves, Leads}
use Rattle.law_behavior.specs.Deeds.{Deed, move_deeds}

module _ {K : Types} where
  -- a cell that a command makes has a number from the next one before on, and a context one that is below the next one behind, too
  abbrev pub NumberedIn : Firsts → Firsts → Command K → Type 0
  NumberedIn before behind (NewCell n v) = before.cells ≤ n
  NumberedIn before behind (NewContext n target) = (before.contexts ≤ n) × (n + 1 ≤ behind.contexts)
  NumberedIn before behind _ = Unit {0}

  -- so do all that the calls of a move of a lawful application make
  abbrev pub MovesNumber : Application K → Type 0
  MovesNumber app =
      IsLawful K app
      → (limits : Limits) (m u : Machine K) (move : Move)
      → Moves app limits m move u
      → AllByRecursion
      (λ (d : Deed K). AllByRecursion (λ (c : Command K). NumberedIn m.state.next u.state.next c) d.wants)
      (move_deeds app m move)

  -- at no machine that moves reach from a replay's start a context has the next number
  abbrev pub NextIsFree : Application K → Type 0
  NextIsFree app =
      IsLawful K app
      → (limits : Limits) (props : K.Props) (inputs : List (Input K)) (m : Machine K) (moves : List Move)
      → Leads app limits (start app props inputs) moves m
      → at m.state.contexts m.state.next.contexts ≡ None

  -- and the number of each task that is there was drawn
  abbrev pub TasksAreDrawn : Application K → Type 0
  TasksAreDrawn app =
      IsLawful K app
      → (limits : Limits) (props : K.Props) (inputs : List (Input K)) (m : Machine K) (moves : List Move) (t : ℕ)
      → Leads app limits (start app props inputs) moves m
      → is_some (at m.state.tasks t) ≡ true
      → t < m.state.next.tasks

  -- and that of each cell
  abbrev pub CellsAreDrawn : Application K → Type 0
  CellsAreDrawn app =
      IsLawful K app
      → (limits : Limits) (props : K.Props) (inputs : List (Input K)) (m : Machine K) (moves : List Move) (n : ℕ)
      → Leads app limits (start app props inputs) moves m
      → is_some (at m.state.cells n) ≡ true
      → n < m.state.next.cells
