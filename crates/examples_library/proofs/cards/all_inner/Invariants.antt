-- The trees so far are those of the components so far.
use Rattle.std.proofs.Common.{◌≡◌, ◌++◌, drop}
use Rattle.examples_library.specs.Meaning.{all_inner}
use Rattle.examples_library.proofs.cards.all_inner.Given as goal

abbrev pub invariant-loop-item : goal.invariant-loop-item
invariant-loop-item g l = l.trees ++ all_inner g.P.HasChildren.giving (drop l.item-index l.inside) ≡ all_inner g.P.HasChildren.giving l.inside
