-- What a click leaves of a runtime that is kept: the number is one more, and the button shows it.
use Rattle.std.specs.Prelude.{ℕ, ◌+◌, true, false, codes, min, List, Some, ◌≡◌}
use Rattle.rt_app.specs.Along.{NoneRemoves}
use Rattle.rt_app.specs.Asides.{Raised}
use Rattle.rt_app.specs.CallsOnDoms.{CallRan, HandleRan, LedTo, NoneOpens, Settles, left_by}
use Rattle.rt_app.specs.Causes.{Limits}
use Rattle.rt_app.specs.Edits.{Edit}
use Rattle.rt_app.specs.Lists.{at}
use Rattle.rt_app.specs.ReducedShows.{ShowsOf, Stays}
use Rattle.rt_app.specs.Reduces.{reduced}
use Rattle.rt_app.specs.Replay.{Entry, Machine}
use Rattle.rt_app.specs.State.{CellRow, State}
use Rattle.rt_app.specs.Updates.{model_of}
use Rattle.rt_app.specs.Words.{last_number}
use Rattle.examples_template.specs.Meaning.{OwnTypes, answers, keeping, nothing}
use Rattle.examples_template.specs.Sentences.{OneRaises, app, click}

-- where the listener of a cell alone hears clicks at an element: after one that is handled and a call that settles the number is one
-- more, unless the cell's owner went; and what shows is the page's function of what the click made of the values
abbrev pub ClickSettles : Type 0
ClickSettles =
    (limits : Limits) (w : State OwnTypes) (u v : Machine OwnTypes) (heard log : List Entry) (edits more : List Edit)
    → (element cell : ℕ) (row : CellRow OwnTypes)
    → OneRaises w element cell
    → at w.cells cell ≡ Some row
    → NoneOpens heard
    → HandleRan app limits w (Raised (codes "click") nothing element true false) heard edits u
    → LedTo app limits nothing true u.state
    → CallRan app limits Settles u.state log more v
    → (NoneRemoves row.owner log → at (model_of (left_by Settles v.state)) cell ≡ Some (min (row.value + 1) last_number))
    × ShowsOf keeping answers (left_by Settles v.state) (λ n. Stays w log n) (reduced answers w (click element))
