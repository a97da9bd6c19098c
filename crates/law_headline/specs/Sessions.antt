-- Of every lawful application: what code proves of a session's reports is the headline.
use Rattle.std.specs.Prelude.{List, [], ◌++◌, Option, Some, Ok, ◌≡◌, ◌≢◌}
use Rattle.std.specs.List.{AllByRecursion}
use Rattle.rt_model.specs.Lists.{joined}
use Rattle.rt_model.specs.Tree.{Types}
use Rattle.rt_model.specs.World.{Application}
use Rattle.rt_model.specs.Laws.{IsLawful}
use Rattle.rt_model.specs.State.{Fault}
use Rattle.rt_model.specs.Replay.{Entry, Input, Machine, start}
use Rattle.rt_model.specs.Causes.{Limits, replay_within}
use Rattle.rt_model.specs.Document.{Empty, Edit}
use Rattle.rt_model.specs.Told.{Told}
use Rattle.rt_model.specs.Reports.{Report, logs_of}
use Rattle.rt_model.specs.Headline.{DocumentIs, Recorded, Holds, Headline, CameTo}
use Rattle.rt_model.specs.Ran.{Ran, RanTo}
use Rattle.rt_model.specs.Finished.{RanIsValid}
use Rattle.law_headline.specs.Carried.{HeadlinesCarryAnew}

module _ {K : Types} (app : Application K) where
  -- of a session that finished: its edits, run from an empty document, never fault, and after each report give what shows
  abbrev pub RanShows : Type 0
  RanShows =
      IsLawful K app
      → (props : K.Props) (inputs : List (Input K)) (limits : Limits) (taken : Option (List Edit)) (reports : List Report)
      → (ran : Ran app props inputs limits taken reports)
      → DocumentIs (Ok Empty) ran.told

  -- so it is with the finished reports of a session that came to a fault
  abbrev pub RanToShows : Type 0
  RanToShows =
      IsLawful K app
      → (props : K.Props) (inputs : List (Input K)) (limits : Limits) (taken : Option (List Edit)) (reports : List Report) (fault : Fault)
      → (ran : RanTo app props inputs limits taken reports fault)
      → DocumentIs (Ok Empty) ran.told

  -- a session that finished keeps the headline
  abbrev pub RanIsHeadline : Type 0
  RanIsHeadline =
      IsLawful K app
      → (props : K.Props) (inputs : List (Input K)) (limits : Limits) (taken : Option (List Edit)) (reports : List Report)
      → Ran app props inputs limits taken reports
      → Headline app props inputs limits taken reports

  -- a session that came to a fault keeps it of its finished reports, and came to that fault
  abbrev pub RanToIsCameTo : Type 0
  RanToIsCameTo =
      IsLawful K app
      → (props : K.Props) (inputs : List (Input K)) (limits : Limits) (taken : Option (List Edit)) (reports : List Report) (fault : Fault)
      → RanTo app props inputs limits taken reports fault
      → CameTo app props inputs limits taken reports fault

  -- reports that were finished keep it, whatever came after them: where each log has entries, and replay goes on from there
  abbrev pub FinishedHold : Type 0
  FinishedHold =
      IsLawful K app
      → (props : K.Props) (inputs : List (Input K)) (limits : Limits) (reports : List Report) (told : List (Told K))
      → (more : List Entry) (last : Machine K)
      → AllByRecursion (λ (log : List Entry). log ≢ []) (logs_of reports)
      → Recorded app props inputs reports told
      → replay_within app limits (Some (start app props inputs)) (joined (logs_of reports) ++ more) ≡ Some last
      → Holds app props inputs reports told

  -- all that follows from what code proves of a session, whichever way it ended
  pub record SessionsHold : Type 0 where
    -- one that finished keeps the headline, its edits carry no number that came before but of hidden nodes, and its inputs are valid
    pub headline : RanIsHeadline
    pub carried : HeadlinesCarryAnew app
    pub valid : RanIsValid app
    -- one that came to a fault keeps it of its finished reports
    pub came_to : RanToIsCameTo
    -- so do reports that were finished, whatever came after them
    pub held : FinishedHold
