-- What a click makes of the number, and what the button shows of all that came.
use Rattle.std.specs.Prelude.{ℕ, ◌+◌, true, codes, min, nat_lt, List, [], ◌∷◌, Option, Some, ◌≡◌}
use Rattle.rt_author.specs.Words.{last_number}
use Rattle.rt_author.specs.Along.{NoneRemoves}
use Rattle.rt_author.specs.Causes.{Limits}
use Rattle.rt_author.specs.Edits.{Edit}
use Rattle.rt_author.specs.Elm.{AllRead, NeverRemoved, Owned, ShowsModel}
use Rattle.rt_author.specs.Folds.{folded, last_state}
use Rattle.rt_author.specs.Headline.{Headline}
use Rattle.rt_author.specs.Heard.{Listener}
use Rattle.rt_author.specs.Lists.{at}
use Rattle.rt_author.specs.Pages.{meaning_of_pages}
use Rattle.rt_author.specs.Programs.{HasCells}
use Rattle.rt_author.specs.Ran.{Ran}
use Rattle.rt_author.specs.Reduces.{hearers, reduced}
use Rattle.rt_author.specs.Replay.{Build, Entry, EventAt, Heard, Input, Made, Rerun, Taken}
use Rattle.rt_author.specs.Reports.{Report}
use Rattle.rt_author.specs.Roots.{RootStands}
use Rattle.rt_author.specs.ShowsValues.{HasRun}
use Rattle.rt_author.specs.State.{CellRow, State}
use Rattle.rt_author.specs.Told.{Told}
use Rattle.rt_author.specs.Updates.{model_of}
use Rattle.rt_author.specs.World.{Application}
use Rattle.examples_template.specs.Meaning.{OwnTypes, answers, keeping, nothing}

-- what the application means
abbrev pub app : Application OwnTypes
app = meaning_of_pages keeping answers

-- a click at an element
abbrev pub click : ℕ → Input OwnTypes
click element = EventAt (codes "click") nothing element true

-- the listener of a cell alone hears clicks at the element, and the cell was drawn
pub record OneRaises (w : State OwnTypes) (element cell : ℕ) : Type 0 where
  pub listener : Listener OwnTypes
  pub alone : hearers w (codes "click") element true ≡ listener ∷ []
  pub raises : listener.handler ≡ cell
  pub drawn : nat_lt cell w.next.cells ≡ true

-- such a click makes the number one more, up to the greatest one
abbrev pub ClickRaises : Type 0
ClickRaises =
    (w : State OwnTypes) (element cell : ℕ) (row : CellRow OwnTypes)
    → OneRaises w element cell
    → at w.cells cell ≡ Some row
    → at (reduced answers w (click element)) cell ≡ Some (min (row.value + 1) last_number)

-- so it is in every session that finished and whose first input is such a click, unless the cell's owner went
abbrev pub ReportRaises : Type 0
ReportRaises =
    (element cell : ℕ) (inputs : List (Input OwnTypes)) (limits : Limits) (taken : Option (List Edit))
    → (build report : Report) (reports : List Report) (first second : Told OwnTypes) (rest : List (Told OwnTypes)) (row : CellRow OwnTypes)
    → (ran : Ran app nothing (click element ∷ inputs) limits taken (build ∷ report ∷ reports))
    → ran.told ≡ first ∷ second ∷ rest
    → OneRaises first.machine.state element cell
    → at first.machine.state.cells cell ≡ Some row
    → NoneRemoves row.owner report.log
    → at (model_of second.machine.state) cell ≡ Some (min (row.value + 1) last_number)

-- after the last report of a session the button shows what the fold of its inputs makes of its number, where its scope has run once
-- when the build is reported, whoever hears an input reads its cell alone, and it isn't removed
abbrev pub ButtonShowsFold : Type 0
ButtonShowsFold =
    (inputs : List (Input OwnTypes)) (limits : Limits) (taken : Option (List Edit)) (build : Report) (reports : List Report)
    → (first : Told OwnTypes) (rest : List (Told OwnTypes)) (s : ℕ)
    → (h : Headline app nothing inputs limits taken (build ∷ reports))
    → h.told ≡ first ∷ rest
    → (run : HasRun keeping answers s nothing nothing first.machine.state)
    → AllRead answers (run.first.given.given.next.cells ∷ []) first.machine.state inputs rest
    → Owned first.machine.state run.first.given.given.next.cells s
    → NeverRemoved s reports
    → ShowsModel answers s nothing (run.first.given.given.next.cells ∷ []) (last_state first.machine.state rest)
    (folded answers first.machine.state inputs rest (model_of first.machine.state))

-- the button's scope is that of the application's root, and all cells are the root's: so no log removes it, whoever hears an input, and it
-- shows that
abbrev pub RootShows : Type 0
RootShows =
    (inputs : List (Input OwnTypes)) (limits : Limits) (taken : Option (List Edit)) (build : Report) (reports : List Report)
    → (first : Told OwnTypes) (rest : List (Told OwnTypes)) (s : ℕ)
    → (h : Headline app nothing inputs limits taken (build ∷ reports))
    → h.told ≡ first ∷ rest
    → RootStands nothing nothing first.machine.state s
    → (run : HasRun keeping answers s nothing nothing first.machine.state)
    → Owned first.machine.state run.first.given.given.next.cells s
    → ShowsModel answers s nothing (run.first.given.given.next.cells ∷ []) (last_state first.machine.state rest)
    (folded answers first.machine.state inputs rest (model_of first.machine.state))

-- where it has its cell when the build is reported, each cell has after the last report what the fold of all inputs makes of it
abbrev pub CellsFold : Type 0
CellsFold =
    (inputs : List (Input OwnTypes)) (limits : Limits) (taken : Option (List Edit)) (build : Report) (reports : List Report)
    → (first : Told OwnTypes) (rest : List (Told OwnTypes)) (s : ℕ)
    → (h : Headline app nothing inputs limits taken (build ∷ reports))
    → h.told ≡ first ∷ rest
    → RootStands nothing nothing first.machine.state s
    → HasCells keeping answers first.machine.state s
    → (cell : ℕ)
    → at (model_of (last_state first.machine.state rest)) cell
    ≡ at (folded answers first.machine.state inputs rest (model_of first.machine.state)) cell

-- the logs of a build and of one click at the button, whose element is the first
abbrev pub click_logs : List (List Entry)
click_logs = (Build ∷ Made 1 ∷ Made 2 ∷ Made 3 ∷ []) ∷ (Taken 1 ∷ Heard 3 ∷ Rerun 3 ∷ []) ∷ []

-- their reports
abbrev pub clicked : List Report
clicked =
    record { log = Build ∷ Made 1 ∷ Made 2 ∷ Made 3 ∷ []; units = 0; bodies = 4; edits = 1; default_enabled = true }
    ∷ record { log = Taken 1 ∷ Heard 3 ∷ Rerun 3 ∷ []; units = 1; bodies = 1; edits = 1; default_enabled = true }
    ∷ []

-- a test: every session that finished, with such a click, has these reports
abbrev pub OneClick : Type 0
OneClick =
    (limits : Limits) (taken : Option (List Edit)) (reports : List Report)
    → Ran app nothing (click 1 ∷ []) limits taken reports
    → reports ≡ clicked
