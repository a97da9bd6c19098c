-- Which fault each failure is served as, and what each of these says.
use Rattle.std.specs.Prelude.{◌≡◌, ◌<◌, ℕ, Some}
use Rattle.rt_html.specs.declared.error.HtmlError.{HtmlError}
use Rattle.rt_html.specs.declared.error.HtmlError.TheVariants as spellings
use Rattle.rt_model.specs.State as model
use Rattle.run_answers.specs.declared.refusal.DomFault.{DomFault}
use Rattle.run_answers.specs.declared.refusal.DomFault.TheVariants as doms
use Rattle.run_outside.specs.Ends.{Causes}
use Rattle.run_reports.specs.Seen.{fault_of}
use Rattle.run_reports.specs.declared.fault.Fault.{Fault}
use Rattle.run_reports.specs.declared.fault.Fault.TheVariants as runs
use Rattle.run_reports.specs.declared.limits.Limits.{Limits}
use Rattle.show_streams.specs.declared.out.OutError.{OutError}
use Rattle.show_streams.specs.declared.out.OutError.TheVariants as outs
use Rattle.rt_served.specs.declared.refusal.ServeFault.{ServeFault}
use Rattle.rt_served.specs.declared.refusal.ServeFault.TheVariants as faults

-- that of an out
abbrev pub put_fault : OutError → ServeFault
put_fault outs.Failed = faults.OutFault
put_fault outs.OutOfMemory = faults.OutOfMemory

-- that of nodes that aren't spelt
abbrev pub html_fault : HtmlError → ServeFault
html_fault spellings.BadName = faults.BadName
html_fault spellings.OutOfMemory = faults.OutOfMemory

-- that of a run: memory that is wanting is the same wherever it is
abbrev pub run_fault : Fault → ServeFault
run_fault runs.OutOfMemory = faults.OutOfMemory
run_fault runs.SinkFault = faults.Run runs.SinkFault
run_fault (runs.OutOfTurns units) = faults.Run (runs.OutOfTurns units)
run_fault (runs.TooDeep height) = faults.Run (runs.TooDeep height)
run_fault (runs.IdsExhausted what) = faults.Run (runs.IdsExhausted what)
run_fault (runs.HookChanged scope index kept asked) = faults.Run (runs.HookChanged scope index kept asked)
run_fault (runs.NoSuchTask scope task) = faults.Run (runs.NoSuchTask scope task)
run_fault (runs.BadNode scope) = faults.Run (runs.BadNode scope)

-- that of a call of a dom: a run's own; a dom that is built and has come to no fault answers no other
abbrev pub dom_fault : DomFault → ServeFault
dom_fault (doms.Run fault) = run_fault fault
dom_fault doms.NotBuilt = faults.OutOfMemory
dom_fault doms.AlreadyBuilt = faults.OutOfMemory
dom_fault doms.Failed = faults.OutOfMemory

-- the run came to a fault of the definitions, which come to it as well; spent units are those of the limit, a height is above it
pub record RunFails (limits : Limits) (Comes : model.Fault → Type 0) (what : Fault) : Type 0 where
  pub fault : model.Fault
  pub known : fault_of what ≡ Some fault
  pub comes : Comes fault
  pub cause : Causes limits 0 0 what

-- a fault by its cause: the run comes to it, or a name can't be spelt, or a failure of the out is counted
abbrev pub CausedBy : Limits → (model.Fault → Type 0) → Type 0 → ℕ → ℕ → ServeFault → Type 0
CausedBy limits Comes Unspelt before after (faults.Run what) = RunFails limits Comes what
CausedBy limits Comes Unspelt before after faults.BadName = Unspelt
CausedBy limits Comes Unspelt before after faults.OutFault = before < after
CausedBy limits Comes Unspelt before after faults.OutOfMemory = Unit {0}

-- what was put before a fault: whole texts before one of a run, and before another one maybe a part of the last
abbrev pub PartBy : ServeFault → Type 0 → Type 0 → Type 0
PartBy (faults.Run what) Whole Front = Whole
PartBy faults.BadName Whole Front = Front
PartBy faults.OutFault Whole Front = Front
PartBy faults.OutOfMemory Whole Front = Front
