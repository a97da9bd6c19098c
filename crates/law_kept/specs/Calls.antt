-- What a call of a kept runtime makes of the values of cells.
use Rattle.std.specs.Prelude.{ℕ, Bool, List, Some, ◌≡◌}
use Rattle.rt_model.specs.Asides.{Raised}
use Rattle.rt_model.specs.Commands.{write_cell}
use Rattle.rt_model.specs.Document.{Edit}
use Rattle.rt_model.specs.Causes.{Limits}
use Rattle.rt_model.specs.Lists.{Text, at}
use Rattle.rt_model.specs.Replay.{Entry, Machine}
use Rattle.rt_model.specs.State.{CellRow, State}
use Rattle.rt_model.specs.Tree.{Types}
use Rattle.rt_model.specs.World.{Event}
use Rattle.law_behavior.specs.Along.{NoneRemoves}
use Rattle.law_behavior.specs.Doms.{Until, Renders, CallRan, HandleRan, NoneOpens, RenderRan, left_by}
use Rattle.author_programs.specs.Cells.{Keeping}
use Rattle.author_programs.specs.Pages.{Pages, meaning_of_pages}
use Rattle.law_pages.specs.Updates.{Model, model_of, put_where, updates}
use Rattle.law_reduce.specs.Reduces.{hearers}

module _ {K : Types} where
  -- an event as a program raises it
  abbrev pub raised : K.Payload → Bool → Bool → Event K
  raised payload bubbles prevented = record { payload = payload; propagates = bubbles; prevented = prevented }

  -- what those that hear it make of the values, one after another, until one of them stops it
  abbrev pub heard_values : Pages K → State K → Text → ℕ → Bool → Event K → Model K
  heard_values a w name element bubbles e = updates a bubbles w.next.cells (hearers w name element bubbles) e (model_of w)

  -- a cell of that owner stands there
  abbrev pub IsOwned : State K → ℕ → ℕ → Type 0
  IsOwned w n owner = (row : CellRow K) × (at w.cells n ≡ Some row) × (row.owner ≡ owner)

  -- one state has these values; no scope came or went since the other one, and each cell stands, of its owner
  pub record Makes (w : State K) (m : Model K) (v : State K) : Type 0 where
    pub values : model_of v ≡ m
    pub scopes : v.scopes ≡ w.scopes
    pub owners : (n : ℕ) (row : CellRow K) → at w.cells n ≡ Some row → IsOwned v n row.owner

  -- each cell of one state whose owner the log doesn't remove is in the other one as it was
  abbrev pub CellsStay : State K → List Entry → State K → Type 0
  CellsStay w log v = (n : ℕ) (row : CellRow K) → at w.cells n ≡ Some row → NoneRemoves row.owner log → at v.cells n ≡ Some row

-- an event that was handled
abbrev pub HandledUpdate : Types → Type 0
HandledUpdate K =
    (k : Keeping K.Value) (a : Pages K) (limits : Limits) (w : State K)
    → (name : Text) (payload : K.Payload) (element : ℕ) (bubbles prevented : Bool)
    → (log : List Entry) (edits : List Edit) (v : Machine K)
    → NoneOpens log
    → HandleRan (meaning_of_pages k a) limits w (Raised name payload element bubbles prevented) log edits v
    → Makes w (heard_values a w name element bubbles (raised payload bubbles prevented)) v.state

-- a value that was written
abbrev pub WrittenUpdate : Types → Type 0
WrittenUpdate K =
    (w : State K) (n : ℕ) (value : K.Value) → Makes w (put_where (model_of w) n value (at (model_of w) n)) (write_cell w n value)

-- a call that takes unit after unit, and a whole render
abbrev pub CallsKeepCells : Types → Type 0
CallsKeepCells K =
    (k : Keeping K.Value) (a : Pages K) (limits : Limits) (w : State K) (log : List Entry) (edits : List Edit) (v : Machine K)
    → ((until : Until) → CallRan (meaning_of_pages k a) limits until w log edits v → CellsStay w log (left_by until v.state))
    × (RenderRan (meaning_of_pages k a) limits w log edits v → CellsStay w log (left_by Renders v.state))
