-- What an author may conclude of a write and of an event.
use Rattle.std.specs.Prelude.{◌≡◌, ◌⊎◌, ℕ, Bool, true, false, List, [], ◌∷◌, length, Option, Some}
use Rattle.std.specs.List.{AllByRecursion}
use Rattle.rt_model.specs.Commands.{names_source, write_cell}
use Rattle.rt_model.specs.Heard.{Listener, Climb, matches, find_within, heard}
use Rattle.rt_model.specs.Causes.{Limits}
use Rattle.rt_model.specs.Headline.{Headline}
use Rattle.rt_model.specs.Reports.{Report}
use Rattle.rt_model.specs.Document.{Edit}
use Rattle.rt_model.specs.Lists.{Text}
use Rattle.rt_model.specs.Replay.{Input}
use Rattle.rt_model.specs.State.{State, Scope, ContextRow}
use Rattle.rt_model.specs.Told.{Told}
use Rattle.rt_model.specs.Tree.{Types, Attribute, listener}
use Rattle.rt_model.specs.World.{Source, Cell}
use Rattle.author_programs.specs.Cells.{Keeping}
use Rattle.author_programs.specs.Pages.{Pages, meaning_of_pages}
use Rattle.author_programs.specs.Present.{PagesShow}

-- an item is among others
abbrev pub Among : {A : Type 0} → A → List A → Type 0
Among a [] = ⊥
Among a (b ∷ bs) = (a ≡ b) ⊎ Among a bs

module _ {K : Types} where
  -- no scope's last run and no reactive context read the source
  pub record IsUnread (w : State K) (x : Source) : Type 0 where
    pub scopes : AllByRecursion (λ (e : ℕ × Scope K). names_source (e.1).reads x ≡ false) w.scopes
    pub contexts : AllByRecursion (λ (e : ℕ × ContextRow K). names_source (e.1).sources x ≡ false) w.contexts

  -- a listener stands in an attribute slot, under a name that matches the event's
  abbrev pub InSlot : Listener K → Text → List (Attribute K) → Type 0
  InSlot l event [] = ⊥
  InSlot l event (a ∷ rest) = ((matches a.name event ≡ true) × (a.value ≡ listener l.origin l.handler)) ⊎ InSlot l event rest

  -- in one of an element's slots
  abbrev pub InSlots : Listener K → Text → List (List (Attribute K)) → Type 0
  InSlots l event [] = ⊥
  InSlots l event (a ∷ slots) = InSlot l event a ⊎ InSlots l event slots

  -- on an element of a climb: the first one or one further out
  abbrev pub StandsOn : Listener K → Text → Climb K → Type 0
  StandsOn l event [] = ⊥
  StandsOn l event (slots ∷ above) = InSlots l event slots ⊎ StandsOn l event above

  -- a listener stands on the node with a number or on an element above it
  pub record StandsAbove (w : State K) (l : Listener K) (event : Text) (element : ℕ) : Type 0 where
    pub climb : Climb K
    pub found : find_within w element (length w.scopes) 0 ≡ Some climb
    pub stands : StandsOn l event climb

-- a write of a cell that is read nowhere changes nothing but the cells: no scope is marked and no task woken
abbrev pub UnreadRunsNothing : Types → Type 0
UnreadRunsNothing K =
    (w : State K) (n : ℕ) (v : K.Value) → IsUnread w (Cell n) → write_cell w n v ≡ record w { cells = (write_cell w n v).cells }

-- each listener that an event calls stands on the event's element or on one above it
abbrev pub HeardFromBelow : Types → Type 0
HeardFromBelow K =
    (w : State K) (event : Text) (element : ℕ) (bubbles : Bool) (l : Listener K)
    → Among l (heard w event element bubbles)
    → StandsAbove w l event element

-- after each report of a session every scope of a page shows what its function gives of the present values
abbrev pub ReportsShowPages : Types → Type 0
ReportsShowPages K =
    (k : Keeping K.Value) (a : Pages K) (props : K.Props) (inputs : List (Input K)) (limits : Limits) (taken : Option (List Edit))
    → (reports : List Report) (h : Headline (meaning_of_pages k a) props inputs limits taken reports)
    → AllByRecursion (λ (r : Told K). PagesShow k a (r.machine).state) h.told
