-- What shows of the list: its items, and after "Add" one more of them.
use Rattle.std.specs.Prelude.{ℕ, true, false, nat_lt, List, [], ◌∷◌, ◌++◌, Option, Some, None, ◌≡◌}
use Rattle.rt_author.specs.Words.{Types, tree_of}
use Rattle.rt_author.specs.Along.{NoneRemoves}
use Rattle.rt_author.specs.Causes.{Limits}
use Rattle.rt_author.specs.Current.{AllCurrent}
use Rattle.rt_author.specs.Edits.{Edit}
use Rattle.rt_author.specs.Folds.{FoldsTo}
use Rattle.rt_author.specs.Headline.{Headline}
use Rattle.rt_author.specs.Heard.{Listener}
use Rattle.rt_author.specs.Keeps.{QuietFor}
use Rattle.rt_author.specs.Lists.{at}
use Rattle.rt_author.specs.Moves.{Move, entries, Leads}
use Rattle.rt_author.specs.Pages.{meaning_of_pages}
use Rattle.rt_author.specs.Ran.{Ran}
use Rattle.rt_author.specs.Replay.{Entry, Heard, Input, Machine, is_quiet, replay_on, step, waiting}
use Rattle.rt_author.specs.Reports.{Report}
use Rattle.rt_author.specs.Shows.{KeepAll}
use Rattle.rt_author.specs.ShowsValues.{EachShowsNow}
use Rattle.rt_author.specs.State.{CellRow, LastCall, Scope, State}
use Rattle.rt_author.specs.Tree.{Own}
use Rattle.rt_author.specs.Updates.{EventHeard, model_of, read_in}
use Rattle.rt_author.specs.World.{Application, Event}
use Rattle.examples_list.specs.Meaning.{ListTypes, answers, keeping, no_props, whole}
use Rattle.examples_list.specs.declared.parts.Change.TheVariants as changes
use Rattle.examples_list.specs.declared.parts.Component.TheVariants as components
use Rattle.examples_library.specs.declared.parts.FieldProps.{FieldProps}
use Rattle.examples_list.specs.declared.parts.Value.TheVariants as values

-- what the application means
abbrev pub app : Application ListTypes
app = meaning_of_pages keeping answers

-- a scope of the list whose hooks kept its two cells at its last call, when they were drawn
pub record IsList (w : State ListTypes) (s draft cell : ℕ) : Type 0 where
  pub scope : Scope ListTypes
  pub last : LastCall ListTypes
  pub props : FieldProps
  pub there : at w.scopes s ≡ Some scope
  pub called : at w.last_calls s ≡ Some last
  pub is_whole : scope.component ≡ Own components.Whole props
  pub keeps : KeepAll keeping last.given.given.hooks 0 (draft ∷ cell ∷ [])
  pub drawn : nat_lt cell last.given.given.next.cells ≡ true

-- it shows these items
abbrev pub ShowsItems : {w : State ListTypes} {s draft cell : ℕ} → IsList w s draft cell → List (List ℕ) → Type 0
ShowsItems {draft = draft} {cell = cell} list items =
    list.scope.main_side.output ≡ Some (tree_of (whole list.last.given.given.scope draft cell items))

-- where every output is current, the list shows the items of its cell
abbrev pub ListsShow : Type 0
ListsShow =
    (w : State ListTypes) (s draft cell : ℕ) (list : IsList w s draft cell) (items : List (List ℕ))
    → AllCurrent app w
    → at (model_of w) cell ≡ Some (values.Items items)
    → ShowsItems list items

-- the button's listener waits for an event, and nothing else is at work; it finds these words and these items
pub record AddIsHeard (m : Machine ListTypes) (l : Listener ListTypes) (e : Event ListTypes) (draft cell : ℕ)
    (words : List ℕ) (items : List (List ℕ)) : Type 0 where
  pub others : List (Listener ListTypes)
  pub alive : m.dead ≡ None
  pub idle : m.work ≡ []
  pub between : m.unit ≡ false
  pub event : m.event ≡ Some e
  pub waits : waiting m ≡ l ∷ others
  pub is_add : l.handler ≡ changes.Add draft cell
  pub typed : read_in (model_of m.state) m.state.next.cells draft ≡ Some (values.Words words)
  pub found : read_in (model_of m.state) m.state.next.cells cell ≡ Some (values.Items items)

-- after "Add" the list shows one item more, that of the words that were typed: wherever every output is current again,
-- unless another listener or an input that writes came first, or the list went
abbrev pub AddShowsOneMore : Type 0
AddShowsOneMore =
    (limits : Limits) (m v : Machine ListTypes) (l : Listener ListTypes) (e : Event ListTypes) (draft cell c : ℕ) (cs : List ℕ)
    → (items : List (List ℕ)) (moves : List Move) (s t : ℕ)
    → AddIsHeard m l e draft cell (c ∷ cs) items
    → (leads : Leads app limits (step app m (Heard l.origin)) moves v)
    → ((row : CellRow ListTypes) → at (step app m (Heard l.origin)).state.cells cell ≡ Some row → NoneRemoves row.owner (entries moves))
    → QuietFor app limits cell (step app m (Heard l.origin)) v moves leads
    → AllCurrent app m.state
    → AllCurrent app v.state
    → (before : IsList m.state s draft cell) (after : IsList v.state t draft cell)
    → ShowsItems before items × ShowsItems after (items ++ (c ∷ cs) ∷ [])

-- the listeners of an event are called one after another, and the values are what they make of them
abbrev pub HeardInTurn : Type 0
HeardInTurn =
    (ls : List (Listener ListTypes)) (m : Machine ListTypes) (e : Event ListTypes) (log : List Entry) (v : Machine ListTypes)
    → m.built ≡ true
    → m.dead ≡ None
    → m.work ≡ []
    → m.unit ≡ false
    → m.event ≡ Some e
    → waiting m ≡ ls
    → replay_on app (Some m) log ≡ Some v
    → is_quiet v ≡ true
    → EventHeard keeping answers m ls e log v

-- the values after the last report of a session that finished are the fold of its inputs, where cells neither come nor go
abbrev pub ListsFold : Type 0
ListsFold =
    (inputs : List (Input ListTypes)) (limits : Limits) (taken : Option (List Edit)) (reports : List Report)
    → (ran : Ran app no_props inputs limits taken reports)
    → FoldsTo answers inputs reports ran.told

-- and of a session whose headline holds, what a scope shows from its first run on
abbrev pub ListsShowValues : Type 0
ListsShowValues =
    (inputs : List (Input ListTypes)) (limits : Limits) (taken : Option (List Edit)) (reports : List Report)
    → (h : Headline app no_props inputs limits taken reports)
    → EachShowsNow keeping answers reports h.told
