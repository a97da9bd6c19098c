-- What is left breaks first what the whole does.
use Rattle.std.proofs.Common.{◌≡◌, drop, map}
use Rattle.author_pieces.specs.Breaches.{bad_among, bad_in}
use Rattle.author_pieces.proofs.breaches.+bad_in.Given as goal

abbrev pub invariant-bad_among-loop-index : goal.invariant-bad_among-loop-index
invariant-bad_among-loop-index g l =
    bad_among (map (bad_in l.slots) l.nodes) l.above 0 ≡ bad_among (map (bad_in l.slots) (drop l.index l.nodes)) l.above l.index
