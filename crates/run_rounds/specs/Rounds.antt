-- What a program's call does on a machine, from one rest to the next.
use Rattle.std.specs.Prelude.{◌≡◌, ◌⊎◌, ℕ, Bool, true, List, [], ◌∷◌, ◌++◌, map, length, Option, Some, None, Result, Ok, Err}
use Rattle.rt_edits.specs.Sinks.{grown}
use Rattle.rt_edits.specs.declared.edit.Edit.{Edit}
use Rattle.tree_edits.specs.Documents.{edit_of}
use Rattle.rt_model.specs.Document as document
use Rattle.rt_model.specs.Next.{at_rest, look}
use Rattle.rt_model.specs.OneLog.{types}
use Rattle.rt_model.specs.Tree.{Types}
use Rattle.rt_model.specs.World.{Application, Firsts}
use Rattle.rt_model.specs.State as model
use Rattle.rt_model.specs.Replay as replay
use Rattle.rt_model.specs.Causes as causes
use Rattle.rt_model.specs.Causes.{refusal, edits_at_refusal}
use Rattle.rt_model.specs.Told.{Telling}
use Rattle.rt_model.specs.Asides.{resting}
use Rattle.rt_model.specs.Sentences.{events_end, render_ends}
use Rattle.law_moves.specs.Reports.{ToldSo}
use Rattle.law_behavior.specs.Doms.{Until, Events, Renders, Unended, NoneOpens, ends_by, GivenBuildRan, CallRan, CallSpent, CallStopped, RenderRan, RenderStopped, left_by}
use Rattle.run_reports.specs.Seen.{entry_of}
use Rattle.run_reports.specs.declared.report.Report.{Report}
use Rattle.rt_scopes.specs.Counts.{Counts}
use Rattle.run_state.specs.Mirror.{Unkept, state_of}
use Rattle.run_outside.specs.Ends.{fault_in}
use Rattle.run_machine.specs.Machines.{noted}
use Rattle.run_outside.specs.Short.{Short, PartBy}
use Rattle.run_outside.specs.declared.ended.Ended.{Ended}
use Rattle.run_machine.specs.declared.machine.Machine.{Machine}

-- but for the first entry of a log none begins a unit
abbrev pub OpensFirst : List replay.Entry → Type 0
OpensFirst [] = Unit {0}
OpensFirst (e ∷ more) = NoneOpens more

module _ {P C Q V H T E L : Type 0} where
  -- nothing is at work, and no entry waits for a report
  pub record Idle (m : Machine P C Q V H T E L) : Type 0 where
    pub work : m.work ≡ []
    pub hearing : m.hearing ≡ None
    pub first : m.first ≡ None
    pub course : (m.course).entries ≡ []

  -- nothing is at work, and the machine stands for this state, as the count of calls does; the entries of the call are still there
  pub record DoneAt (x : model.State (types C Q V H T E L)) (m : Machine P C Q V H T E L) (calls : ℕ) : Type 0 where
    pub work : m.work ≡ []
    pub hearing : m.hearing ≡ None
    pub first : m.first ≡ None
    pub kept : Unkept (types C Q V H T E L)
    pub is : state_of kept (m.scopes).state ≡ x
    pub counted : Counts calls kept.calls

  -- a machine at rest at a state of the definitions, and the count of calls stands for the calls up to there
  pub record RestsAt (w : model.State (types C Q V H T E L)) (m : Machine P C Q V H T E L) (calls : ℕ) : Type 0 where
    pub idle : Idle m
    pub kept : Unkept (types C Q V H T E L)
    pub is : state_of kept (m.scopes).state ≡ w
    pub counted : Counts calls kept.calls

module _ {K : Types} (app : Application K) (limits : causes.Limits) (from : replay.Machine K) where
  -- a build that began here came to a fault: a log at whose end the definitions refuse, and the sink took the edits up to there
  pub record CutFrom (before after : Option (List Edit)) (fault : model.Fault) : Type 0 where
    pub wrote : List Edit
    pub told : after ≡ grown before wrote
    pub log : List replay.Entry
    -- no entry but the build begins a unit
    pub alone : OpensFirst log
    pub last : Telling K
    pub so : ToldSo app limits from log last
    pub cause : refusal limits last.machine ≡ Some fault
    pub edits_are : edits_at_refusal app limits last ≡ map edit_of wrote

  -- what began here broke off, for want of memory or at its sink: the sink took the edits of the units that were finished, and such a
  -- part of those of the one that was cut
  pub record BrokeFrom (before after : Option (List Edit)) (Part : List document.Edit → List document.Edit → Type 0) : Type 0 where
    pub wrote : List Edit
    pub told : after ≡ grown before wrote
    pub short : Short app limits Part from (map edit_of wrote)

  -- so a build or a unit by itself broke off: no entry but its first begins a unit
  pub record BrokeAlone (before after : Option (List Edit)) (Part : List document.Edit → List document.Edit → Type 0) : Type 0 where
    pub broke : BrokeFrom before after Part
    pub alone : OpensFirst ((broke.short).log ++ (broke.short).unit)

module _ {K : Types} (app : Application K) (w : model.State K) where
  -- the log of a render that went on after events were processed, up to a machine between: no unit of it began where a test holds
  pub record PastEvents (log : List replay.Entry) : Type 0 where
    pub first : List replay.Entry
    pub more : List replay.Entry
    pub whole : first ++ more ≡ log
    pub between : replay.Machine K
    pub goes : replay.replay_on app (Some (resting (look w))) first ≡ Some between
    pub events : Unended app (λ (x : model.State K). events_end x) (resting (look w)) first
    pub calm : replay.is_quiet between ≡ true
    pub processed : events_end between.state ≡ true
    pub renders : Unended app (λ (x : model.State K). render_ends x) between more

  -- no unit of a call's log began where the call ends: a render processes events, or went on after that
  abbrev pub UnendedBy : Until → List replay.Entry → Type 0
  UnendedBy Renders log = Unended app (λ (x : model.State K). events_end x) (resting (look w)) log ⊎ PastEvents log
  UnendedBy until log = Unended app (λ (x : model.State K). ends_by until x) (resting (look w)) log

module _ {K : Types} (app : Application K) (limits : causes.Limits) (w : model.State K) where
  -- a call broke off, and had begun no unit where it ends
  pub record CallBroke (until : Until) (before after : Option (List Edit)) (Part : List document.Edit → List document.Edit → Type 0) :
      Type 0 where
    pub broke : BrokeFrom app limits (resting (look w)) before after Part
    pub unended : UnendedBy app w until ((broke.short).log ++ (broke.short).unit)

module _ {K : Types} (app : Application K) (limits : causes.Limits) (w : model.State K) where
  -- what is proved of a call that ended, by what it goes up to: a render goes up to there in its two parts
  abbrev pub RanBy : Until → List replay.Entry → List document.Edit → replay.Machine K → Type 0
  RanBy Renders log edits v = RenderRan app limits w log edits v
  RanBy until log edits v = CallRan app limits until w log edits v

  -- and of one that came to a fault: a render stops while events are processed, or after that
  abbrev pub StoppedBy : Until → List replay.Entry → List document.Edit → model.Fault → Type 0
  StoppedBy Renders log edits fault = CallStopped app limits Events w log edits fault ⊎ RenderStopped app limits w log edits fault
  StoppedBy until log edits fault = CallStopped app limits until w log edits fault

module _ {K : Types} (app : Application K) (limits : causes.Limits) (w : model.State K) (Rests : model.State K → Type 0) where
  -- a call that takes unit after unit ended, with this log: the sink took its edits, so many as are counted, and it rests at the state
  -- as the test for the end left it
  pub record EndedAt (until : Until) (before after : Option (List Edit)) (log : List replay.Entry) (count : ℕ) (default : Bool) :
      Type 0 where
    pub wrote : List Edit
    pub told : after ≡ grown before wrote
    pub counted : length wrote ≡ count
    pub last : replay.Machine K
    pub ran : RanBy app limits w until log (map edit_of wrote) last
    -- no default was prevented
    pub enabled : default ≡ true
    pub rests : Rests (left_by until last.state)

  -- units were spent: it rests, with what is owed
  pub record SpentAt (log : List replay.Entry) (edits : List document.Edit) : Type 0 where
    pub last : replay.Machine K
    pub spent : CallSpent app limits w log edits last
    pub rests : Rests (at_rest last.state)

module _ {P C Q V H T E L : Type 0} (app : Application (types C Q V H T E L)) (limits : causes.Limits)
    (w : model.State (types C Q V H T E L)) where
  -- a call ended: its report is that of what it did, and the machine is at rest
  abbrev pub RanOn : Until → Option (List Edit) → Option (List Edit) → Report → Machine P C Q V H T E L → ℕ → Type 0
  RanOn until before after report m calls =
      EndedAt app limits w (λ (x : model.State (types C Q V H T E L)). RestsAt x m calls) until before after (map entry_of report.log)
      report.edits report.default_enabled

  -- its units were spent, and the machine is at rest
  abbrev pub SpentOn : List replay.Entry → List document.Edit → Machine P C Q V H T E L → ℕ → Type 0
  SpentOn log edits m calls = SpentAt app limits w (λ (x : model.State (types C Q V H T E L)). RestsAt x m calls) log edits

  -- it came to a fault of the definitions
  pub record StoppedOn (until : Until) (before after : Option (List Edit)) (fault : model.Fault)
      (m : Machine P C Q V H T E L) (calls : ℕ) : Type 0 where
    pub wrote : List Edit
    pub told : after ≡ grown before wrote
    pub log : List replay.Entry
    pub stopped : StoppedBy app limits w until log (map edit_of wrote) fault
    pub spent : (units : ℕ) → fault ≡ model.OutOfTurns units → SpentOn log (map edit_of wrote) m calls

  -- before its report is made: its entries are those of the machine
  abbrev pub WentTo : Until → Option (List Edit) → Option (List Edit) → ℕ → Machine P C Q V H T E L → ℕ → Type 0
  WentTo until before after count m calls =
      EndedAt app limits w (λ (x : model.State (types C Q V H T E L)). DoneAt x m calls) until before after (noted m) count
      m.default_enabled

  abbrev pub SpentTo : List replay.Entry → List document.Edit → Machine P C Q V H T E L → ℕ → Type 0
  SpentTo log edits m calls = SpentAt app limits w (λ (x : model.State (types C Q V H T E L)). DoneAt x m calls) log edits

  pub record WentUpTo (until : Until) (before after : Option (List Edit)) (fault : model.Fault) (m : Machine P C Q V H T E L)
      (calls : ℕ) : Type 0 where
    pub wrote : List Edit
    pub told : after ≡ grown before wrote
    pub stopped : StoppedBy app limits w until (noted m) (map edit_of wrote) fault
    pub spent : (units : ℕ) → fault ≡ model.OutOfTurns units → SpentTo (noted m) (map edit_of wrote) m calls

  abbrev pub WentOn : Until → Option (List Edit) → Option (List Edit) → Result ℕ Ended → Machine P C Q V H T E L → ℕ → Type 0
  WentOn until before after (Ok count) m calls = WentTo until before after count m calls
  WentOn until before after (Err ended) m calls =
      (fault : model.Fault) → fault_in ended ≡ Some fault → WentUpTo until before after fault m calls

  -- by what is answered
  abbrev pub RunsOn : Until → Option (List Edit) → Option (List Edit) → Result Report Ended → Machine P C Q V H T E L → ℕ → Type 0
  RunsOn until before after (Ok report) m calls = RanOn until before after report m calls
  RunsOn until before after (Err ended) m calls =
      (fault : model.Fault) → fault_in ended ≡ Some fault → StoppedOn until before after fault m calls

module _ {P C Q V H T E L : Type 0} (app : Application (types C Q V H T E L)) (limits : causes.Limits) (props : Q)
    (firsts : Firsts) (provided : List (ℕ × V)) where
  -- the build ended: its report, what the sink took, and the machine rests where the build ended
  pub record BuiltOn (before after : Option (List Edit)) (report : Report) (m : Machine P C Q V H T E L) (calls : ℕ) : Type 0 where
    pub wrote : List Edit
    pub told : after ≡ grown before wrote
    pub counted : length wrote ≡ report.edits
    pub last : replay.Machine (types C Q V H T E L)
    pub ran : GivenBuildRan app limits props firsts provided (map entry_of report.log) (map edit_of wrote) last
    -- no entry but the build begins a unit
    pub alone : OpensFirst (map entry_of report.log)
    pub enabled : report.default_enabled ≡ true
    pub rests : RestsAt last.state m calls

module _ {K : Types} (app : Application K) (limits : causes.Limits) (props : K.Props) (firsts : Firsts)
    (provided : List (ℕ × K.Value)) where
  -- the build came to a fault of the definitions, which isn't that of spent units since a build takes none, or broke off
  abbrev pub BuildCut : Option (List Edit) → Option (List Edit) → Ended → Type 0
  BuildCut before after ended =
      ((fault : model.Fault) → fault_in ended ≡ Some fault
      → CutFrom app limits (replay.start_with app props firsts provided []) before after fault
      × ((units : ℕ) → fault ≡ model.OutOfTurns units → ⊥))
      × (fault_in ended ≡ None → BrokeAlone app limits (replay.start_with app props firsts provided []) before after (PartBy ended))
