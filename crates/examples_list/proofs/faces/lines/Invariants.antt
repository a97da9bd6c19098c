-- The lines so far, before those of the items that are left, are all lines.
use Rattle.std.proofs.Common.{◌≡◌, ◌++◌, drop}
use Rattle.examples_list.specs.Meaning.{lines}
use Rattle.examples_list.proofs.faces.lines.Given as goal

abbrev pub invariant-loop-index : goal.invariant-loop-index
invariant-loop-index l = l.lines ++ lines l.scope.0 l.items l.index (drop l.index l.words) ≡ lines l.scope.0 l.items 0 l.words
