-- The entries that a turn leaves.
use Rattle.std.specs.Prelude.{◌≡◌, List, ◌++◌, map, Result, Ok, Err}
use Rattle.rt_model.specs.Replay as replay
use Rattle.run_reports.specs.Seen.{entry_of}
use Rattle.run_reports.specs.declared.entry.Entry.{Entry}
use Rattle.run_state.specs.declared.names.Stop.{Stop}
use Rattle.run_state.specs.declared.names.Stop.TheVariants as stops

-- these entries were written down; where memory was wanting nothing is said
abbrev pub NotedBy : {A : Type 0} → List Entry → List Entry → List replay.Entry → Result A Stop → Type 0
NotedBy before after es (Ok answer) = map entry_of after ≡ map entry_of before ++ es
NotedBy before after es (Err stops.OutOfMemory) = Unit {0}
NotedBy before after es (Err (stops.Fault what)) = map entry_of after ≡ map entry_of before ++ es
