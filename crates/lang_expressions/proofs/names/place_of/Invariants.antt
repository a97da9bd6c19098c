-- The place so far, or a later one.
use Rattle.std.proofs.Common.{◌≡◌, drop}
use Rattle.lang_expressions.specs.Names.{place_of, place_from}
use Rattle.lang_expressions.proofs.names.place_of.Given as goal

abbrev pub invariant-loop-at : goal.invariant-loop-at
invariant-loop-at l = place_of l.names l.name ≡ place_from l.at l.name (drop l.at l.names) l.place
