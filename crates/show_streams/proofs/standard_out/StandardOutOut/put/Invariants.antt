-- The bytes that were put are within the given ones, and nothing failed so far.
use Rattle.std.proofs.Common.{◌≡◌, ◌≤◌, length}
use Rattle.show_streams.proofs.standard_out.StandardOutOut.put.Given as goal

abbrev pub invariant-loop : goal.invariant-loop
invariant-loop g l = record { within : l.done ≤ length l.bytes; same : l.self.faults ≡ l.fn.self.faults }
