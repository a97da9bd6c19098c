-- What a sink took, and why a session ends early.
use Rattle.std.specs.Prelude.{◌≡◌, ℕ, ◌<◌, ◌≤◌, List, map, length, Option, Some, None}
use Rattle.rt_model.specs.State as model
use Rattle.rt_edits.specs.Sinks.{grown}
use Rattle.rt_edits.specs.declared.edit.Edit.{Edit}
use Rattle.tree_edits.specs.Documents.{edit_of}
use Rattle.run_reports.specs.declared.fault.Fault.{Fault}
use Rattle.run_reports.specs.declared.fault.Fault.TheVariants as faults
use Rattle.run_reports.specs.declared.limits.Limits.{Limits}
use Rattle.run_state.specs.Names.{fault_of}
use Rattle.run_state.specs.declared.names.Stop.TheVariants as stops
use Rattle.run_outside.specs.Short.{PartBy}
use Rattle.run_outside.specs.declared.ended.Ended.{Ended}
use Rattle.run_outside.specs.declared.ended.Ended.TheVariants as ends

-- a sink took so many edits: what it tells before and after, and its count of failures, which doesn't fall
pub record Took (old new : Option (List Edit)) (before after taken : ℕ) : Type 0 where
  pub edits : List Edit
  pub told : new ≡ grown old edits
  pub counted : length edits ≡ taken
  pub later : before ≤ after

-- a cause by the limits, and by the sink's count of failures before and after
abbrev pub Explains : Limits → ℕ → ℕ → Ended → Type 0
Explains limits before after ends.Sink = before < after
Explains limits before after (ends.OutOfTurns units) = units ≡ limits.units
Explains limits before after (ends.TooDeep height) = limits.height < height
Explains limits before after (ends.Run stop) = Unit {0}

-- it ended early for its cause, when the sink had taken at least so many edits
pub record Ends (limits : Limits) (least : ℕ) (old new : Option (List Edit)) (before after : ℕ) (ended : Ended) : Type 0 where
  pub edits : List Edit
  pub told : new ≡ grown old edits
  pub counted : least ≤ length edits
  pub later : before ≤ after
  pub cause : Explains limits before after ended

-- a fault by its cause: a failure of the sink is counted, spent units are those of the limit, a height is above the limit
abbrev pub Causes : Limits → ℕ → ℕ → Fault → Type 0
Causes limits before after faults.OutOfMemory = Unit {0}
Causes limits before after faults.SinkFault = before < after
Causes limits before after (faults.OutOfTurns units) = units ≡ limits.units
Causes limits before after (faults.TooDeep height) = limits.height < height
Causes limits before after (faults.IdsExhausted what) = Unit {0}
Causes limits before after (faults.HookChanged scope index kept asked) = Unit {0}
Causes limits before after (faults.NoSuchTask scope task) = Unit {0}
Causes limits before after (faults.BadNode scope) = Unit {0}

-- the fault of the definitions for which a session ends, none where memory was wanting or the sink failed
abbrev pub fault_in : Ended → Option model.Fault
fault_in ends.Sink = None
fault_in (ends.OutOfTurns units) = Some (model.OutOfTurns units)
fault_in (ends.TooDeep height) = Some (model.TooDeep height)
fault_in (ends.Run stops.OutOfMemory) = None
fault_in (ends.Run (stops.Fault what)) = Some (fault_of what)

-- edits were written up to where the session broke off
pub record WrotePart (edits : List Edit) (before after : Option (List Edit)) (ended : Ended) : Type 0 where
  pub wrote : List Edit
  pub told : after ≡ grown before wrote
  pub part : PartBy ended (map edit_of wrote) (map edit_of edits)
