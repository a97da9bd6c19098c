-- The levels fall from an expression to its operands, and what is read so far stands before the rest.
use Rattle.std.proofs.Common.{◌≡◌, ◌+◌, ◌*◌, drop}
use Rattle.serde_json.specs.View.{items_view}
use Rattle.lang_expressions.specs.Lists.{read_each}
use Rattle.lang_expressions.proofs.Steps.{after}
use Rattle.lang_expressions.specs.Expressions.{expression_of}
use Rattle.lang_expressions.proofs.expressions.+expression.Given as goal

abbrev pub decreases-expression : goal.decreases-expression
decreases-expression l = 4 * l.levels

abbrev pub decreases-formed : goal.decreases-formed
decreases-formed l = 4 * l.levels + 3

abbrev pub decreases-row : goal.decreases-row
decreases-row l = 4 * l.levels + 2

abbrev pub decreases-expressions : goal.decreases-expressions
decreases-expressions l = 4 * l.levels + 1

abbrev pub invariant-expressions-loop-value : goal.invariant-expressions-loop-value
invariant-expressions-loop-value l =
    read_each (expression_of l.levels l.names l.variables) (items_view l.values)
    ≡ after l.read.items (read_each (expression_of l.levels l.names l.variables) (items_view (drop l.value-index l.values)))
