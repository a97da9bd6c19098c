-- What is asked of a move that leaves a task, its cell and its reactive context alone.
use Rattle.std.specs.Prelude.{ℕ, ◌≤◌, Bool, true, false, nat_eq, List, ◌≡◌}
use Rattle.std.specs.List.{AllByRecursion}
use Rattle.rt_model.specs.Tree.{Types}
use Rattle.rt_model.specs.World.{Command, Write, DropCell, NewCell, NewContext, Reset, ReadInto, World}
use Rattle.rt_model.specs.State.{CellRow}
use Rattle.rt_model.specs.Replay.{Entry, Input}
use Rattle.law_moves.specs.Moves.{Move, Silent, Closed, Logged}
use Rattle.law_behavior.specs.Along.{removed_in}
use Rattle.law_behavior.specs.Owed.{polled_in}
use Rattle.law_lasting.specs.CellsLast.{TakenLeaves}

module _ {K : Types} (last : World K) (t n cell scope : ℕ) (held : CellRow K) (polled : Bool) where
  -- a command leaves the cell and the context, and what it makes has other numbers
  abbrev pub Leaves : Command K → Type 0
  Leaves (NewContext c x) = polled ≡ true → nat_eq c n ≡ false
  Leaves (Reset c) = polled ≡ true → nat_eq c n ≡ false
  Leaves (ReadInto c x) = polled ≡ true → nat_eq c n ≡ false
  Leaves (NewCell c v) = last.given.next.cells ≤ c
  Leaves (Write c v) = nat_eq c cell ≡ false
  Leaves (DropCell c) = nat_eq c cell ≡ false
  Leaves _ = Unit {0}

  abbrev pub AllLeave : List (Command K) → Type 0
  AllLeave cs = AllByRecursion (λ (c : Command K). Leaves c) cs

  -- what is asked of an entry: it doesn't poll the task, nor remove its scope or that of the cell, and takes in no write of the cell
  abbrev pub EntryLeaves : List (Input K) → Entry → Type 0
  EntryLeaves inputs e =
      (polled_in t e ≡ false) × (removed_in scope e ≡ false) × (removed_in held.owner e ≡ false) × TakenLeaves cell inputs (Logged e)

  abbrev pub MoveLeaves : List (Input K) → Move → Type 0
  MoveLeaves inputs Silent = Unit {0}
  MoveLeaves inputs Closed = Unit {0}
  MoveLeaves inputs (Logged e) = EntryLeaves inputs e
