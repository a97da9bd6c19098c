-- The edits so far, and those that are left, are those of all.
use Rattle.std.proofs.Common.{◌≡◌, ◌++◌, drop, map}
use Rattle.tree_edits.specs.Documents.{edit_of}
use Rattle.run_shown.specs.Tops.{removed}
use Rattle.run_shown.proofs.sides.removals.Given as goal

abbrev pub invariant-loop-number : goal.invariant-loop-number
invariant-loop-number l = map edit_of l.edits ++ removed (drop l.number-index l.tops) ≡ removed l.tops
