use Rattle.std.proofs.Common.{◌≡◌, ◌+◌, drop}
use Rattle.run_named.specs.Named.{slot_at}
use Rattle.run_named.proofs.paths.slot_at.Given as goal

abbrev pub invariant-loop-index : goal.invariant-loop-index
invariant-loop-index l = l.index + slot_at (drop l.index l.paths) l.path ≡ slot_at l.paths l.path
