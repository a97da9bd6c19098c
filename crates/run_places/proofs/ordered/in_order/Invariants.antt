-- The numbers so far, and those that are left, are all.
use Rattle.std.proofs.Common.{◌-◌, ◌++◌, ◌≡◌}
use Rattle.run_places.specs.Drawn.{under}
use Rattle.run_places.proofs.ordered.in_order.Given as goal

abbrev pub invariant-loop-index : goal.invariant-loop-index
invariant-loop-index l = l.numbers ++ under l.drawn l.index (l.count - l.index) ≡ under l.drawn 0 l.count
