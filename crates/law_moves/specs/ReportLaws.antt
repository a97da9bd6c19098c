-- What a session's reports come to.
use Rattle.std.specs.Prelude.{◌≡◌, true, List, [], ◌∷◌, ◌++◌, Some, None}
use Rattle.rt_model.specs.Tree.{Types}
use Rattle.rt_model.specs.World.{Application}
use Rattle.rt_model.specs.State.{Fault}
use Rattle.rt_model.specs.Next.{next}
use Rattle.rt_model.specs.Replay.{Entry, Input, Machine, waiting}
use Rattle.rt_model.specs.Document.{Edit}
use Rattle.rt_model.specs.Causes.{Limits}
use Rattle.rt_model.specs.Told.{is_settled}
use Rattle.rt_model.specs.Reports.{Report, logs_of, OneEach, OneEachThen, Counts}
use Rattle.rt_model.specs.Ran.{Ran, RanTo}
use Rattle.law_moves.specs.Moves.{AtRest}
use Rattle.law_moves.specs.Sessions.{Sofar}
use Rattle.law_moves.specs.Underway.{Rests, Refused}

-- at rest, where no listener waits and no unit is next, nothing is at work or owed
abbrev pub RestOwesNone : Types → Type 0
RestOwesNone K = (m : Machine K) → AtRest m → m.built ≡ true → waiting m ≡ [] → next m.state ≡ None → is_settled m ≡ true

module _ {K : Types} (app : Application K) where
  -- a report that rests where nothing is owed joins those before it
  abbrev pub SofarMore : Type 0
  SofarMore =
      (limits : Limits) (props : K.Props) (inputs : List (Input K)) (reports : List Report) (edits more : List Edit) (from m : Machine K)
      (report : Report)
      → Sofar app limits props inputs reports edits from
      → Rests app limits props inputs from report.log more m
      → is_settled m ≡ true
      → Counts report (record { edits = more; machine = m })
      → Sofar app limits props inputs (reports ++ report ∷ []) (edits ++ more) m

  -- where all are done, that is what the definitions do
  abbrev pub SofarRan : Type 0
  SofarRan =
      (limits : Limits) (props : K.Props) (inputs : List (Input K)) (reports : List Report) (edits : List Edit) (m : Machine K)
      → Sofar app limits props inputs reports edits m
      → OneEach inputs (logs_of reports)
      → Ran app props inputs limits (Some edits) reports

  -- the same where a refusal came in the last one
  abbrev pub SofarRanTo : Type 0
  SofarRanTo =
      (limits : Limits) (props : K.Props) (inputs : List (Input K)) (reports : List Report) (edits more : List Edit) (from : Machine K)
      (log : List Entry) (fault : Fault)
      → Sofar app limits props inputs reports edits from
      → Refused app limits props inputs from log more fault
      → OneEachThen inputs (logs_of reports) log
      → RanTo app props inputs limits (Some (edits ++ more)) reports fault
