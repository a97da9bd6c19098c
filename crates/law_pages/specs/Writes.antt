-- What a listener leaves in a cell that it writes, whatever its application is.
use Rattle.std.specs.Prelude.{ℕ, false, List, [], ◌∷◌, ◌++◌, Some, None, ◌≡◌}
use Rattle.rt_model.specs.Lists.{at}
use Rattle.rt_model.specs.Tree.{Types}
use Rattle.rt_model.specs.World.{Application, Command, Event, Meaning, Write}
use Rattle.rt_model.specs.State.{CellRow, world_of}
use Rattle.rt_model.specs.Heard.{Listener}
use Rattle.rt_model.specs.Replay.{Heard, Machine, step, waiting}
use Rattle.law_lasting.specs.CellsLast.{AllLeave}

module _ {K : Types} (app : Application K) where
  -- what the call of a listener means that hears an event
  abbrev pub call_heard : Machine K → Listener K → Event K → Meaning K (Event K)
  call_heard m l e = app.handle l.handler e (world_of m.state l.origin None false)

  -- a listener waits for an event, and nothing else is at work: where its call meets no fault, one of its commands writes a cell that is
  -- there, and none else of them writes or drops it, the entry of the call leaves that value in the cell
  abbrev pub HeardEntriesWrite : Type 0
  HeardEntriesWrite =
      (m : Machine K) (l : Listener K) (ls : List (Listener K)) (e : Event K) (n : ℕ) (v : K.Value)
      → (before after : List (Command K)) (row : CellRow K)
      → m.dead ≡ None
      → m.work ≡ []
      → m.unit ≡ false
      → m.event ≡ Some e
      → waiting m ≡ l ∷ ls
      → (call_heard m l e).fault ≡ None
      → (call_heard m l e).commands ≡ before ++ Write n v ∷ after
      → AllLeave n before
      → AllLeave n after
      → at m.state.cells n ≡ Some row
      → at (step app m (Heard l.origin)).state.cells n ≡ Some (record row { value = v })
