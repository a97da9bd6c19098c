-- Entries, reports, faults, inputs and limits of code as those of the model.
use Rattle.std.specs.Prelude.{map, Option, Some, None}
use Rattle.run_records.specs.Records.{counter_of}
use Rattle.rt_model.specs.State as state
use Rattle.rt_model.specs.Replay as replay
use Rattle.rt_model.specs.Reports as told
use Rattle.rt_model.specs.Causes as causes
use Rattle.rt_model.specs.OneLog.{types}
use Rattle.run_reports.specs.declared.entry.Entry.{Entry}
use Rattle.run_reports.specs.declared.entry.Entry.TheVariants as entries
use Rattle.run_reports.specs.declared.report.Report.{Report}
use Rattle.run_reports.specs.declared.limits.Limits.{Limits}
use Rattle.run_reports.specs.declared.input.Input.{Input}
use Rattle.run_reports.specs.declared.input.Input.TheVariants as inputs
use Rattle.run_reports.specs.declared.fault.Fault.{Fault}
use Rattle.run_reports.specs.declared.fault.Fault.TheVariants as faults
use Rattle.rt_inbox.specs.declared.message.Post.{Post}
use Rattle.rt_inbox.specs.declared.message.Post.TheVariants as posts
use Rattle.rt_inbox.specs.declared.message.Msg.{Msg}

-- an entry of a log
abbrev pub entry_of : Entry → replay.Entry
entry_of entries.Build = replay.Build
entry_of (entries.Input k) = replay.Taken k
entry_of (entries.Heard s) = replay.Heard s.0
entry_of (entries.Rerun s) = replay.Rerun s.0
entry_of (entries.Poll t) = replay.Poll t.0
entry_of (entries.Effects s) = replay.Effects s.0
entry_of (entries.Made s) = replay.Made s.0
entry_of (entries.Fed s) = replay.Fed s.0
entry_of (entries.Kept s) = replay.Kept s.0
entry_of (entries.Removed s) = replay.Removed s.0

-- a report
abbrev pub report_of : Report → told.Report
report_of r =
    record { log = map entry_of r.log; units = r.units; bodies = r.bodies; edits = r.edits; default_enabled = r.default_enabled }

-- a fault that the definitions know; want of memory and a failed sink are none
abbrev pub fault_of : Fault → Option state.Fault
fault_of faults.OutOfMemory = None
fault_of faults.SinkFault = None
fault_of (faults.OutOfTurns units) = Some (state.OutOfTurns units)
fault_of (faults.TooDeep height) = Some (state.TooDeep height)
fault_of (faults.IdsExhausted what) = Some (state.IdsExhausted (counter_of what))
fault_of (faults.HookChanged scope index kept asked) = Some (state.HookChanged scope.0 index kept asked)
fault_of (faults.NoSuchTask scope task) = Some (state.NoSuchTask scope.0 task.0)
fault_of (faults.BadNode scope) = Some (state.BadNode scope.0)

-- what a message asks for
abbrev pub post_of : Post → replay.Post
post_of (posts.Mark s) = replay.MarkScope s.0
post_of (posts.Wake t) = replay.WakeTask t.0
post_of posts.AllDirty = replay.AllDirty

-- a message
abbrev pub message_of : Msg → replay.Message
message_of m = record { poster = m.poster; sequence = m.seq; what = post_of m.what }

module _ {P C Q V H T E L : Type 0} where
  -- what reaches a session from outside
  abbrev pub input_of : Input P C Q V H T E L → replay.Input (types C Q V H T E L)
  input_of (inputs.Event name payload element bubbles) = replay.EventAt name payload element.0 bubbles
  input_of (inputs.Wake t) = replay.WakeOf t.0
  input_of (inputs.Write cell value) = replay.WriteOf cell value
  input_of (inputs.Mark s) = replay.MarkOf s.0
  input_of (inputs.Drain messages) = replay.Drain (map message_of messages)

-- how far a session goes
abbrev pub limits_of : Limits → causes.Limits
limits_of l = record { units = l.units; height = l.height; drain = l.drain }

-- the limits where nothing else is said, which are those that the definitions call usual
abbrev pub usual : Limits
usual = record { units = causes.usual.units; height = causes.usual.height; drain = causes.usual.drain }
