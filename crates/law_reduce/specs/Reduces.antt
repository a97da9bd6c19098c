-- What an input makes of the values of cells, and that each report of a session leaves just that.
use Rattle.std.specs.Prelude.{ℕ, Bool, false, List, [], ◌∷◌, Option, Some, ◌≡◌}
use Rattle.rt_model.specs.Lists.{Text, at, kept_by}
use Rattle.rt_model.specs.Tree.{Types}
use Rattle.rt_model.specs.World.{Event}
use Rattle.rt_model.specs.State.{CellRow, State, is_live}
use Rattle.rt_model.specs.Heard.{Listener, heard}
use Rattle.rt_model.specs.Replay.{Entry, Input, EventAt, WakeOf, WriteOf, MarkOf, Drain}
use Rattle.rt_model.specs.Document.{Edit}
use Rattle.rt_model.specs.Causes.{Limits}
use Rattle.rt_model.specs.Told.{Told}
use Rattle.rt_model.specs.Reports.{Report}
use Rattle.rt_model.specs.Ran.{Ran}
use Rattle.law_behavior.specs.Along.{NoneRemoves}
use Rattle.author_programs.specs.Cells.{Keeping}
use Rattle.author_programs.specs.Pages.{Pages, meaning_of_pages}
use Rattle.law_pages.specs.Updates.{Model, model_of, put_where, update, updates}

module _ {K : Types} where
  -- who hears an event: its listeners whose scopes are live, in the order in which they are called
  abbrev pub hearers : State K → Text → ℕ → Bool → List (Listener K)
  hearers w name element bubbles = kept_by (λ l. is_live w l.origin) (heard w name element bubbles)

  -- an event on its way to its first listener
  abbrev pub sent : K.Payload → Bool → Event K
  sent payload bubbles = record { payload = payload; propagates = bubbles; prevented = false }

  -- what an input that a state takes in makes of a model: an event what its hearers make of it, in turn, and a write one value
  abbrev pub reduce : Pages K → State K → Input K → Model K → Model K
  reduce a w (EventAt name payload element bubbles) m =
      updates a bubbles w.next.cells (hearers w name element bubbles) (sent payload bubbles) m
  reduce a w (WriteOf n v) m = put_where m n v (at m n)
  reduce a w (WakeOf t) m = m
  reduce a w (MarkOf s) m = m
  reduce a w (Drain messages) m = m

  -- what it makes of the state's own values
  abbrev pub reduced : Pages K → State K → Input K → Model K
  reduced a w input = reduce a w input (model_of w)

  -- a cell of one state whose owner the log doesn't remove has in the other state the value that the input gives it
  abbrev pub Reduces : Pages K → State K → Input K → List Entry → State K → Type 0
  Reduces a w input log v =
      (n : ℕ) (row : CellRow K)
      → at w.cells n ≡ Some row
      → NoneRemoves row.owner log
      → at (model_of v) n ≡ at (reduced a w input) n

  -- so it is from each report to the next, from this state on, with one input for each
  abbrev pub AllReduce : Pages K → State K → List (Input K) → List Report → List (Told K) → Type 0
  AllReduce a w [] [] [] = Unit {0}
  AllReduce a w (input ∷ inputs) (report ∷ reports) (told ∷ rest) =
      Reduces a w input report.log told.machine.state × AllReduce a told.machine.state inputs reports rest
  AllReduce a w _ _ _ = ⊥

  -- and after the build's
  abbrev pub EachReduces : Pages K → List (Input K) → List Report → List (Told K) → Type 0
  EachReduces a inputs (build ∷ reports) (told ∷ rest) = AllReduce a told.machine.state inputs reports rest
  EachReduces a inputs _ _ = ⊥

-- where one listener alone hears an event, the values become what it makes of them; where none does they stay
abbrev pub OneHears : Types → Type 0
OneHears K =
    (a : Pages K) (w : State K) (name : Text) (payload : K.Payload) (element : ℕ) (bubbles : Bool)
    → ((l : Listener K)
    → hearers w name element bubbles ≡ l ∷ []
    → reduced a w (EventAt name payload element bubbles) ≡ update a l.handler (sent payload bubbles) w.next.cells (model_of w))
    × (hearers w name element bubbles ≡ [] → reduced a w (EventAt name payload element bubbles) ≡ model_of w)

-- so it is of every session of pages that finished
abbrev pub ReportsReduce : Types → Type 0
ReportsReduce K =
    (k : Keeping K.Value) (a : Pages K) (props : K.Props) (inputs : List (Input K)) (limits : Limits) (taken : Option (List Edit))
    → (reports : List Report) (ran : Ran (meaning_of_pages k a) props inputs limits taken reports)
    → EachReduces a inputs reports ran.told
