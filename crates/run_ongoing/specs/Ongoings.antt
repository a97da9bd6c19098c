-- A session whose inputs come one by one, and of whose past nothing is kept: what holds of it whatever follows.
use Rattle.std.specs.Prelude.{◌≡◌, ℕ, List, [], ◌∷◌, ◌++◌, map, Option, Some, None, Result, Ok, Err}
use Rattle.rt_edits.specs.Sinks.{grown}
use Rattle.rt_edits.specs.declared.edit.Edit.{Edit}
use Rattle.rt_model.specs.OneLog.{types}
use Rattle.rt_model.specs.Replay as replay
use Rattle.rt_model.specs.State as model
use Rattle.rt_model.specs.World.{Application}
use Rattle.run_machine.specs.Runs.{Runs}
use Rattle.run_machine.specs.Stands.{RunsAs}
use Rattle.run_outside.specs.Sessions.{BrokeOff, CameAt}
use Rattle.run_outside.specs.Short.{PartOf}
use Rattle.run_outside.specs.Sofar.{Sofar}
use Rattle.run_outside.specs.declared.ended.Ended.{Ended}
use Rattle.run_ongoing.specs.declared.ongoing.Ongoing.{Ongoing}
use Rattle.run_reports.specs.Seen.{fault_of, limits_of, report_of}
use Rattle.run_reports.specs.declared.fault.Fault.{Fault}
use Rattle.run_reports.specs.declared.limits.Limits.{Limits}
use Rattle.run_reports.specs.declared.report.Report.{Report}

-- edits that a sink took come behind those that were told so far. Of one sink for all inputs what it tells before and after is that; of a
-- new one for each, which tells its edits, these behind the others
abbrev pub Carries : (old new now after : Option (List Edit)) → Type 0
Carries old new now after = (own : List Edit) → new ≡ grown old own → after ≡ grown now own

module _ {P C Q V H T E L : Type 0} where
  -- how many inputs a session took in
  abbrev pub number_of : Ongoing P C Q V H T E L → ℕ
  number_of s = s.taken

module _ {P C Q V H T E L : Type 0} (meaning : P → Application (types C Q V H T E L)) (app : Application (types C Q V H T E L))
    (limits : Limits) (props : Q) (inputs : List (replay.Input (types C Q V H T E L))) (before now : Option (List Edit))
    (reports : List Report) where
  -- it means this application, it has taken these inputs in and told these reports, whose edits came behind those before: it goes on,
  -- whatever follows
  pub record AwaitsMore (s : Ongoing P C Q V H T E L) : Type 0 where
    pub owned : meaning s.app ≡ app
    pub limited : s.limits ≡ limits
    pub runs :
        (more : List (replay.Input (types C Q V H T E L)))
        → Runs app (limits_of limits) props (inputs ++ more) before now reports more s.taken s.machine
    pub sofar : (more : List (replay.Input (types C Q V H T E L))) → Sofar (inputs ++ more) more s.taken reports

module _ {C Q V H T E L : Type 0} (app : Application (types C Q V H T E L)) (limits : Limits) (props : Q)
    (inputs : List (replay.Input (types C Q V H T E L))) (before now : Option (List Edit)) (reports : List Report) where
  -- it ended early at the last of these inputs, after these reports: at a fault of the definitions, with the headline's sentences for the
  -- reports and the edits up to it; or it broke off
  abbrev pub EndsAt : Fault → Type 0
  EndsAt fault =
      ((at : model.Fault) → fault_of fault ≡ Some at → CameAt app props inputs (limits_of limits) before now (map report_of reports) at)
      × (fault_of fault ≡ None → BrokeOff app props inputs (limits_of limits) before now (map report_of reports) (PartOf fault))

module _ {P C Q V H T E L : Type 0} (meaning : P → Application (types C Q V H T E L)) (app : Application (types C Q V H T E L))
    (limits : Limits) (props : Q) where
  -- an input was taken in after these inputs and reports, by what is answered
  abbrev pub TakesOne :
      List (replay.Input (types C Q V H T E L)) → replay.Input (types C Q V H T E L) → (before now : Option (List Edit)) → List Report
      → Ongoing P C Q V H T E L → Result Report Fault → Type 0
  TakesOne inputs input before now reports s (Ok report) =
      AwaitsMore meaning app limits props (inputs ++ input ∷ []) before now (reports ++ report ∷ []) s
  TakesOne inputs input before now reports s (Err fault) = EndsAt app limits props (inputs ++ input ∷ []) before now reports fault

  -- it was built, by what is answered: no input was taken in yet
  abbrev pub BeginsAs : (before now : Option (List Edit)) → Result (Ongoing P C Q V H T E L × Report) Fault → Type 0
  BeginsAs before now (Ok made) = AwaitsMore meaning app limits props [] before now (made.1 ∷ []) made.0
  BeginsAs before now (Err fault) = EndsAt app limits props [] before now [] fault

  -- the same, by why it ends early
  abbrev pub TakenIn :
      List (replay.Input (types C Q V H T E L)) → replay.Input (types C Q V H T E L) → (before now : Option (List Edit)) → List Report
      → Ongoing P C Q V H T E L → Result Report Ended → Type 0
  TakenIn inputs input before now reports s (Ok report) =
      AwaitsMore meaning app limits props (inputs ++ input ∷ []) before now (reports ++ report ∷ []) s
  TakenIn inputs input before now reports s (Err ended) =
      RunsAs app (limits_of limits) props (inputs ++ input ∷ []) before now reports (Err ended)

  abbrev pub Begun : (before now : Option (List Edit)) → Result (Ongoing P C Q V H T E L × Report) Ended → Type 0
  Begun before now (Ok made) = AwaitsMore meaning app limits props [] before now (made.1 ∷ []) made.0
  Begun before now (Err ended) = RunsAs app (limits_of limits) props [] before now [] (Err ended)
