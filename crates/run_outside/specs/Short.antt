-- How far a session came that broke off, for want of memory or at its sink.
use Rattle.std.specs.Prelude.{◌≡◌, true, List, [], ◌∷◌, ◌++◌, Option, Some}
use Rattle.std.specs.List.{AllByRecursion}
use Rattle.rt_model.specs.Lists.{joined}
use Rattle.rt_model.specs.Tree.{Types}
use Rattle.rt_model.specs.World.{Application}
use Rattle.rt_model.specs.Replay.{Entry, Input, Machine, start}
use Rattle.rt_model.specs.Document.{Edit}
use Rattle.rt_model.specs.Causes.{Limits, replay_within, edits_at_refusal}
use Rattle.rt_model.specs.Told.{Told, Telling, opens, count_entries, telling, tell_log, tell_reports, is_settled, edits_of}
use Rattle.rt_model.specs.Reports.{Report, logs_of, AllCount}
use Rattle.rt_model.specs.Headline.{TookOf, last_machine}
use Rattle.rt_model.specs.Sentences.{IsFrontOf, TookBefore}
use Rattle.law_moves.specs.Reports.{ToldSo}
use Rattle.run_reports.specs.Counted.{BeginsOneEach}
use Rattle.run_reports.specs.declared.fault.Fault.{Fault}
use Rattle.run_reports.specs.declared.fault.Fault.TheVariants as faults
use Rattle.run_outside.specs.declared.ended.Ended.{Ended}
use Rattle.run_outside.specs.declared.ended.Ended.TheVariants as ends

-- what a sink took of edits that weren't all taken: where it failed, those before one that it refused; where memory was wanting, a front
abbrev pub PartOf : Fault → List Edit → List Edit → Type 0
PartOf faults.SinkFault taken edits = TookBefore taken edits
PartOf _ taken edits = IsFrontOf taken edits

-- the same by why a session ends
abbrev pub PartBy : Ended → List Edit → List Edit → Type 0
PartBy ends.Sink taken edits = TookBefore taken edits
PartBy _ taken edits = IsFrontOf taken edits

-- no entry, or those of the build or of one unit
abbrev pub IsOneUnit : List Entry → Type 0
IsOneUnit [] = Unit {0}
IsOneUnit (first ∷ more) = (opens first ≡ true) × (count_entries opens more ≡ 0)

-- a report that began at a machine broke off: all edits were taken of the units that were finished, and a part of those of the unit
-- that was cut
pub record Short
    {K : Types} (app : Application K) (limits : Limits) (Part : List Edit → List Edit → Type 0) (from : Machine K) (edits : List Edit)
    : Type 0 where
  -- the entries up to the last unit that was finished
  pub log : List Entry
  pub done : Telling K
  pub so : ToldSo app limits from log done
  -- those of the unit that was cut
  pub unit : List Entry
  pub one : IsOneUnit unit
  pub last : Telling K
  pub cut : ToldSo app limits from (log ++ unit) last
  -- the edits of that unit, and those of them that were taken
  pub whole : List Edit
  pub all : edits_at_refusal app limits last ≡ done.edits ++ whole
  pub taken : List Edit
  pub part : Part taken whole
  pub edits_are : done.edits ++ taken ≡ edits

-- the same in the midst of a log: it tells of a front of these entries, but for later ones that begin no unit
pub record ShortIn
    {K : Types} (app : Application K) (limits : Limits) (Part : List Edit → List Edit → Type 0) (from : Machine K) (entries : List Entry)
    (edits : List Edit)
    : Type 0 where
  pub short : Short app limits Part from edits
  pub later : List Entry
  pub none : count_entries opens later ≡ 0
  pub rest : List Entry
  pub front : (short.log ++ short.unit) ++ rest ≡ entries ++ later

-- what code proves of a session that broke off
pub record RanShort
    {K : Types} (app : Application K)
    (props : K.Props) (inputs : List (Input K)) (limits : Limits) (taken : Option (List Edit)) (reports : List Report)
    (Part : List Edit → List Edit → Type 0)
    : Type 0 where
  -- of the finished reports: the edits of each and the state after it
  pub told : List (Told K)
  -- replay accepts their joined logs
  pub accepted : tell_reports app (start app props inputs) (logs_of reports) ≡ Some told
  -- the build and the first inputs have one log each, in order
  pub begins : BeginsOneEach inputs (logs_of reports)
  -- each of them counts right
  pub counted : AllCount reports told
  -- after each of them nothing is at work and nothing is owed
  pub settled : AllByRecursion (λ (r : Told K). is_settled r.machine ≡ true) told
  -- the entries since the last report, up to the last unit that was finished
  pub log : List Entry
  -- the replay at their end, with the edits of these units
  pub done : Telling K
  pub goes_on : tell_log app (Some (telling (last_machine (start app props inputs) told))) log ≡ Some done
  -- the entries of the unit that was cut, none where no edit of it was due
  pub unit : List Entry
  pub one : IsOneUnit unit
  -- the replay at their end
  pub last : Telling K
  pub cut : tell_log app (Some done) unit ≡ Some last
  -- no refusal came earlier
  pub within :
      replay_within app limits (Some (start app props inputs)) (joined (logs_of reports) ++ (log ++ unit)) ≡ Some last.machine
  -- the edits of that unit; where an item of it was refused, those up to there
  pub whole : List Edit
  pub whole_is : edits_at_refusal app limits last ≡ done.edits ++ whole
  -- those of them that the sink took
  pub part : List Edit
  pub part_is : Part part whole
  -- the sink took the edits of the reports, those of the units that were finished since, and that part
  pub edits : TookOf taken (joined (edits_of told) ++ (done.edits ++ part))
