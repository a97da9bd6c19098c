-- An interrupted read counts as no failure.
use Rattle.std.proofs.Common.{◌≡◌}
use Rattle.show_streams.proofs.standard_in.StandardInSource.read.Given as goal

abbrev pub invariant-loop : goal.invariant-loop
invariant-loop g l = l.self.faults ≡ l.fn.self.faults
