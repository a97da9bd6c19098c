-- Where the program stops, and its status.
use Rattle.std.specs.Prelude.{ℕ, Result, Ok, Err}
use Rattle.show_streams.specs.declared.out.OutError.{OutError}
use Rattle.show_streams.specs.declared.out.OutError.TheVariants as errors
use Rattle.show_words.specs.declared.reason.Stop.{Stop}
use Rattle.show_words.specs.declared.reason.Stop.TheVariants as stops

-- a failure, or want of memory
abbrev pub stop_of : OutError → Stop
stop_of errors.Failed = stops.Out
stop_of errors.OutOfMemory = stops.OutOfMemory

-- the status of what the program comes to
abbrev pub status_of : Result (Unit {0}) Stop → ℕ
status_of (Ok u) = 0
status_of (Err stops.Words) = 2
status_of (Err stops.Form) = 3
status_of (Err stops.Fault) = 4
status_of (Err stops.Source) = 5
status_of (Err stops.Out) = 6
status_of (Err stops.OutOfMemory) = 7
