-- The headline: what a session's reports and edits say.
use Rattle.std.specs.Prelude.{ℕ, true, List, [], ◌∷◌, ◌++◌, Option, Some, None, Result, Ok, ◌≡◌, is_some}
use Rattle.std.specs.List.{AllByRecursion}
use Rattle.rt_model.specs.Lists.{at, joined}
use Rattle.rt_model.specs.Tree.{Types, is_suspense_boundary}
use Rattle.rt_model.specs.World.{Application}
use Rattle.rt_model.specs.State.{FallbackSide, Fault, Scope, State, is_side, is_held}
use Rattle.rt_model.specs.Replay.{Entry, Input, Machine, start}
use Rattle.rt_model.specs.Document.{Forest, Empty, Edit, DocFault, document_after}
use Rattle.rt_model.specs.View.{view}
use Rattle.rt_model.specs.Told.{Told, Telling, tell_reports, tell_log, telling, is_settled, edits_of}
use Rattle.rt_model.specs.Current.{AllCurrent}
use Rattle.rt_model.specs.Causes.{Limits, refusal, replay_within, edits_at_refusal}
use Rattle.rt_model.specs.Reports.{Report, logs_of, OneEach, OneEachThen, AllCount}

-- what a sink tells that it took, where it tells it
abbrev pub TookOf : Option (List Edit) → List Edit → Type 0
TookOf None edits = Unit {0}
TookOf (Some taken) edits = taken ≡ edits

module _ {K : Types} where
  -- after the edits of each report the document is what shows; no edit faults
  abbrev pub DocumentIs : Result Forest DocFault → List (Told K) → Type 0
  DocumentIs before [] = Unit {0}
  DocumentIs (Ok before) (told ∷ rest) =
      (document_after told.edits before ≡ Ok (view told.machine.state)) × DocumentIs (document_after told.edits before) rest
  DocumentIs _ (told ∷ rest) = ⊥

  -- a suspense boundary shows its fallback exactly while a task holds it, and its holders are live
  abbrev pub HeldIsShown : State K → Scope K → Type 0
  HeldIsShown w x =
      (is_suspense_boundary x.component ≡ true → is_side x.shows FallbackSide ≡ is_held x)
      ×
      AllByRecursion (λ (h : ℕ × ℕ). is_some (at w.tasks h.0) ≡ true) x.holders

  -- of every live boundary: its fallback shows just while it is held
  abbrev pub AllHeldShown : State K → Type 0
  AllHeldShown w = AllByRecursion (λ (e : ℕ × Scope K). HeldIsShown w e.1) w.scopes

  -- the replay after the last report
  abbrev pub last_machine : Machine K → List (Told K) → Machine K
  last_machine m [] = m
  last_machine m (told ∷ rest) = last_machine told.machine rest

-- finished reports and what is told of them: the edits of each and the state after it
pub record Recorded
    {K : Types} (app : Application K)
    (props : K.Props) (inputs : List (Input K)) (reports : List Report) (told : List (Told K))
    : Type 0 where
  -- replay accepts the joined logs, with these edits and states
  pub accepted : tell_reports app (start app props inputs) (logs_of reports) ≡ Some told
  -- each report counts right
  pub counted : AllCount reports told
  -- after each report nothing is at work and nothing is owed
  pub settled : AllByRecursion (λ (r : Told K). is_settled r.machine ≡ true) told

-- what they say besides, of a lawful application
pub record Holds
    {K : Types} (app : Application K)
    (props : K.Props) (inputs : List (Input K)) (reports : List Report) (told : List (Told K))
    : Type 0 where
  pub recorded : Recorded app props inputs reports told
  -- run from an empty document the edits never fault, and give what shows
  pub shown : DocumentIs (Ok Empty) told
  -- every kept output is current
  pub current : AllByRecursion (λ (r : Told K). AllCurrent app r.machine.state) told
  -- a boundary shows its fallback exactly while it is held by live tasks
  pub held : AllByRecursion (λ (r : Told K). AllHeldShown r.machine.state) told

-- the session ends with these reports
pub record AllDone
    {K : Types} (app : Application K) (props : K.Props) (inputs : List (Input K)) (limits : Limits)
    (taken : Option (List Edit)) (reports : List Report) (told : List (Told K))
    : Type 0 where
  -- a report for the build and one for each input
  pub one_each : OneEach inputs (logs_of reports)
  -- no refusal came before an entry
  pub within :
      replay_within app limits (Some (start app props inputs)) (joined (logs_of reports))
      ≡
      Some (last_machine (start app props inputs) told)
  -- the sink took just these edits
  pub edits : TookOf taken (joined (edits_of told))

-- the session goes on from these reports and comes to this fault
pub record Stopped
    {K : Types} (app : Application K) (props : K.Props) (inputs : List (Input K)) (limits : Limits)
    (taken : Option (List Edit)) (reports : List Report) (told : List (Told K)) (fault : Fault)
    : Type 0 where
  -- the entries since the last report
  pub log : List Entry
  -- the build and the inputs have one log each, and the last log opens with what came next
  pub one_each : OneEachThen inputs (logs_of reports) log
  -- the replay at the end of the log, with the edits so far
  pub last : Telling K
  -- replay accepts the log
  pub goes_on : tell_log app (Some (telling (last_machine (start app props inputs) told))) log ≡ Some last
  -- no refusal came earlier
  pub within : replay_within app limits (Some (start app props inputs)) (joined (logs_of reports) ++ log) ≡ Some last.machine
  -- the refusal is this fault
  pub cause : refusal limits last.machine ≡ Some fault
  -- the sink took the edits of the reports and those up to the refusal
  pub edits : TookOf taken (joined (edits_of told) ++ edits_at_refusal app limits last)

-- the headline: a session's answer, its reports, and the edits that the sink took
pub record Headline
    {K : Types} (app : Application K)
    (props : K.Props) (inputs : List (Input K)) (limits : Limits) (taken : Option (List Edit)) (reports : List Report)
    : Type 0 where
  pub told : List (Told K)
  pub holds : Holds app props inputs reports told
  pub done : AllDone app props inputs limits taken reports told

-- a session that came to a fault: what its finished reports say, how it went on to the refusal, and the edits up to there
pub record CameTo
    {K : Types} (app : Application K)
    (props : K.Props) (inputs : List (Input K)) (limits : Limits) (taken : Option (List Edit)) (reports : List Report) (fault : Fault)
    : Type 0 where
  pub told : List (Told K)
  pub holds : Holds app props inputs reports told
  pub stopped : Stopped app props inputs limits taken reports told fault
