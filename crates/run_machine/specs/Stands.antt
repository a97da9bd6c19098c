-- Where a session stands between two turns, and what it comes to.
use Rattle.std.specs.Prelude.{◌≡◌, ℕ, true, List, [], ◌∷◌, ◌++◌, map, length, Option, Some, None, Result, Ok, Err}
use Rattle.rt_edits.specs.Sinks.{grown}
use Rattle.rt_edits.specs.declared.edit.Edit.{Edit}
use Rattle.tree_edits.specs.Documents.{edit_of}
use Rattle.rt_model.specs.Document as doc
use Rattle.rt_model.specs.OneLog.{types}
use Rattle.rt_model.specs.Tree as tree
use Rattle.rt_model.specs.World.{Application}
use Rattle.rt_model.specs.State as model
use Rattle.rt_model.specs.Next.{next, at_rest}
use Rattle.rt_model.specs.Replay as replay
use Rattle.rt_model.specs.Causes as causes
use Rattle.law_moves.specs.Moves.{AtRest}
use Rattle.law_moves.specs.Reached.{Reached}
use Rattle.run_reports.specs.Seen.{entry_of, report_of}
use Rattle.run_reports.specs.declared.report.Report.{Report}
use Rattle.run_state.specs.Mirror.{Unkept}
use Rattle.law_moves.specs.Underway.{Rests, Works, Refused}
use Rattle.run_turns.specs.Counting.{CountsAlong, now_at}
use Rattle.run_machine.specs.Machines.{machine_of, noted, first_in, open_work, RemembersFor}
use Rattle.run_outside.specs.Ends.{fault_in}
use Rattle.run_outside.specs.Sessions.{Finished, FinishedAt, BrokeOff}
use Rattle.run_outside.specs.Short.{Short, ShortIn, PartBy}
use Rattle.run_outside.specs.declared.ended.Ended.{Ended}
use Rattle.run_machine.specs.declared.machine.Machine.{Machine}

module _ (K : tree.Types) where
  -- a report on its way: the session's props and inputs, the machine at which the report began, the entry that
  -- opened it, none of a program's own call, the inputs that are left, the number of those taken, and code's count of the application's
  -- calls, where it goes along
  pub record Going : Type 0 where
    pub props : K.Props
    pub inputs : List (replay.Input K)
    pub from : replay.Machine K
    pub opened : List replay.Entry
    pub left : List (replay.Input K)
    pub taken : ℕ
    pub count : Option ℕ

module _ {K : tree.Types} where
  -- the same with the count as it is by now
  abbrev pub counting : Going K → ℕ → Going K
  counting r count = record r { count = now_at count r.count }

  -- the same without a count
  abbrev pub without_count : Going K → Going K
  without_count r = record r { count = None }

module _ {K : tree.Types} (app : Application K) (limits : causes.Limits) (r : Going K) where
  -- it broke off, with the edits so far and those that the sink took since
  pub record Broke (edits : List doc.Edit) (before after : Option (List Edit)) (ended : Ended) : Type 0 where
    pub wrote : List Edit
    pub told : after ≡ grown before wrote
    pub short : Short app limits (PartBy ended) r.from (edits ++ map edit_of wrote)

  -- it broke off, and had begun no unit but those of these entries
  pub record BrokeIn (entries : List replay.Entry) (edits : List doc.Edit) (before after : Option (List Edit)) (ended : Ended) :
      Type 0 where
    pub wrote : List Edit
    pub told : after ≡ grown before wrote
    pub short : ShortIn app limits (PartBy ended) r.from entries (edits ++ map edit_of wrote)

module _ {P C Q V H T E L : Type 0} (app : Application (types C Q V H T E L)) (limits : causes.Limits) where
  -- between two reports: nothing is at work or owed, and the state is as the test for that left it
  pub record Between (left : List (replay.Input (types C Q V H T E L))) (taken : ℕ) (last : replay.Machine (types C Q V H T E L))
      (d : Machine P C Q V H T E L) : Type 0 where
    pub kept : Unkept (types C Q V H T E L)
    pub quiet : replay.waiting last ≡ []
    pub none : next last.state ≡ None
    pub idle : d.work ≡ []
    pub over : d.first ≡ None
    pub course : (d.course).entries ≡ []
    pub same : machine_of kept left taken d ≡ record last { state = at_rest last.state }

module _ {P C Q V H T E L : Type 0} (app : Application (types C Q V H T E L)) (limits : causes.Limits) (r : Going (types C Q V H T E L))
  where
    -- where nothing is at work, or in the midst of the unit that this entry began
    abbrev pub StandsFor : Option replay.Entry → List doc.Edit → Machine P C Q V H T E L → Type 0
    StandsFor None edits d =
        (g : Unkept (types C Q V H T E L))
        × Rests app limits r.props r.inputs r.from (r.opened ++ noted d) edits (machine_of g r.left r.taken d)
        × CountsAlong r.count g.calls
    StandsFor (Some first) edits d =
        (g : Unkept (types C Q V H T E L))
        × (w : model.State (types C Q V H T E L))
        × Works app limits r.props r.inputs r.from (r.opened ++ noted d) edits w first (machine_of g r.left r.taken d)
        × RemembersFor (Some first) d w.scopes
        × CountsAlong r.count g.calls

    -- where no listener waits, either
    abbrev pub StandsQuiet : List doc.Edit → Machine P C Q V H T E L → Type 0
    StandsQuiet edits d =
        (g : Unkept (types C Q V H T E L))
        × Rests app limits r.props r.inputs r.from (r.opened ++ noted d) edits (machine_of g r.left r.taken d)
        × (replay.waiting (machine_of g r.left r.taken d) ≡ [])
        × CountsAlong r.count g.calls

    -- with these edits so far
    abbrev pub StandsAt : List doc.Edit → Machine P C Q V H T E L → Type 0
    StandsAt edits d = StandsFor (first_in d) edits d

    -- nothing is left to do: the report's last machine, at which nothing is owed, with the state as the test for that left it
    pub record Settled (edits : List doc.Edit) (d : Machine P C Q V H T E L) : Type 0 where
      pub kept : Unkept (types C Q V H T E L)
      pub last : replay.Machine (types C Q V H T E L)
      pub rests : Rests app limits r.props r.inputs r.from (r.opened ++ noted d) edits last
      pub quiet : replay.waiting last ≡ []
      pub none : next last.state ≡ None
      pub idle : d.work ≡ []
      pub over : d.first ≡ None
      pub same : machine_of kept r.left r.taken d ≡ record last { state = at_rest last.state }
      pub along : CountsAlong r.count kept.calls

    -- a fault came: the report so far, with what the sink took of it
    pub record CameTo (edits : List doc.Edit) (before after : Option (List Edit)) (fault : model.Fault) (d : Machine P C Q V H T E L) :
        Type 0 where
      pub wrote : List Edit
      pub told : after ≡ grown before wrote
      pub refused : Refused app limits r.props r.inputs r.from (r.opened ++ noted d) (edits ++ map edit_of wrote) fault

    -- the fault for which it ends, if it is one of the definitions'
    abbrev pub Comes : List doc.Edit → Option (List Edit) → Option (List Edit) → Ended → Machine P C Q V H T E L → Type 0
    Comes edits before after ended d = (fault : model.Fault) → fault_in ended ≡ Some fault → CameTo edits before after fault d

    -- it ends early: at a fault of the definitions, or it broke off
    abbrev pub EndsEarly : List doc.Edit → Option (List Edit) → Option (List Edit) → Ended → Machine P C Q V H T E L → Type 0
    EndsEarly edits before after ended d =
        Comes edits before after ended d × (fault_in ended ≡ None → Broke app limits r edits before after ended)

    -- edits were written, and it stands with them
    pub record GoesOn (edits : List doc.Edit) (before after : Option (List Edit)) (count : ℕ) (d : Machine P C Q V H T E L) : Type 0 where
      pub wrote : List Edit
      pub told : after ≡ grown before wrote
      pub counted : length wrote ≡ count
      pub stands : StandsAt (edits ++ map edit_of wrote) d

    -- edits were written, and nothing is left to do
    pub record Over (edits : List doc.Edit) (before after : Option (List Edit)) (count : ℕ) (d : Machine P C Q V H T E L) : Type 0 where
      pub wrote : List Edit
      pub told : after ≡ grown before wrote
      pub counted : length wrote ≡ count
      pub settled : Settled (edits ++ map edit_of wrote) d

    -- the same with an item of the open work taken off, which is still to be served
    abbrev pub StandsBefore : model.Item (types C Q V H T E L) → replay.Entry → List doc.Edit → Machine P C Q V H T E L → Type 0
    StandsBefore item first edits d =
        (g : Unkept (types C Q V H T E L))
        × (w : model.State (types C Q V H T E L))
        × Works app limits r.props r.inputs r.from (r.opened ++ noted d) edits w first
        (record (machine_of g r.left r.taken d) { work = item ∷ open_work d })
        × RemembersFor (Some first) d w.scopes
        × CountsAlong r.count g.calls

    -- it broke off, and had begun no unit but those that were noted here
    abbrev pub BrokeAt : List doc.Edit → Option (List Edit) → Option (List Edit) → Ended → Machine P C Q V H T E L → Type 0
    BrokeAt edits before after ended d = BrokeIn app limits r (r.opened ++ noted d) edits before after ended

    -- a turn, by what is answered
    abbrev pub TurnsAs :
        List doc.Edit → Option (List Edit) → Option (List Edit) → Machine P C Q V H T E L → Machine P C Q V H T E L
        → Result (Option ℕ) Ended → Type 0
    TurnsAs edits before after old new (Ok None) = (after ≡ before) × Settled edits new
    TurnsAs edits before after old new (Ok (Some count)) = GoesOn edits before after count new
    TurnsAs edits before after old new (Err ended) =
        Comes edits before after ended new × (fault_in ended ≡ None → BrokeAt edits before after ended old)

    -- a turn where nothing is at work, which writes nothing
    abbrev pub QuietAs : List doc.Edit → Machine P C Q V H T E L → Result (Option ℕ) Ended → Type 0
    QuietAs edits d (Ok None) = Settled edits d
    QuietAs edits d (Ok (Some count)) = StandsAt edits d
    QuietAs edits d (Err ended) =
        (fault : model.Fault) → fault_in ended ≡ Some fault → Refused app limits r.props r.inputs r.from (r.opened ++ noted d) edits fault

    -- turns up to where nothing is left to do, or to a fault
    abbrev pub SettlesAs : List doc.Edit → Option (List Edit) → Option (List Edit) → Machine P C Q V H T E L → Result ℕ Ended → Type 0
    SettlesAs edits before after d (Ok count) = Over edits before after count d
    SettlesAs edits before after d (Err ended) = EndsEarly edits before after ended d

    -- a report is finished: its log, its edits, and the last machine, at which nothing is owed
    pub record Reported (report : Report) (before after : Option (List Edit)) (d : Machine P C Q V H T E L) : Type 0 where
      pub wrote : List Edit
      pub told : after ≡ grown before wrote
      pub counted : length wrote ≡ report.edits
      pub last : replay.Machine (types C Q V H T E L)
      pub rests : Rests app limits r.props r.inputs r.from (map entry_of report.log) (map edit_of wrote) last
      pub default_enabled : report.default_enabled ≡ last.default_enabled
      pub between : Between app limits r.left r.taken last d

    -- by what is answered
    abbrev pub ReportsAs : Option (List Edit) → Option (List Edit) → Machine P C Q V H T E L → Result Report Ended → Type 0
    ReportsAs before after d (Ok report) = Reported report before after d
    ReportsAs before after d (Err ended) = EndsEarly [] before after ended d

module _ {P C Q V H T E L : Type 0} (app : Application (types C Q V H T E L)) (limits : causes.Limits) (props : Q)
    (inputs : List (replay.Input (types C Q V H T E L))) where
  -- a report may follow: this machine was the last one
  pub record Follows (left : List (replay.Input (types C Q V H T E L))) (taken : ℕ) (last : replay.Machine (types C Q V H T E L))
      (d : Machine P C Q V H T E L) : Type 0 where
    pub rest : AtRest last
    pub built : last.built ≡ true
    pub reached : Reached app limits props inputs last
    pub between : Between app limits left taken last d

module _ {K : tree.Types} (app : Application K) (limits : causes.Limits) (props : K.Props) (inputs : List (replay.Input K)) where
  -- all reports: the edits, or a fault after those that were finished, or it broke off after them
  abbrev pub RunsAs : Option (List Edit) → Option (List Edit) → List Report → Result (Unit {0}) Ended → Type 0
  RunsAs before after reports (Ok u) = Finished app props inputs limits before after (map report_of reports)
  RunsAs before after reports (Err ended) =
      ((fault : model.Fault) → fault_in ended ≡ Some fault → FinishedAt app props inputs limits before after (map report_of reports) fault)
      ×
      (fault_in ended ≡ None → BrokeOff app props inputs limits before after (map report_of reports) (PartBy ended))
