-- The levels fall from a statement to those in it; what is read so far goes on with the rest.
use Rattle.std.proofs.Common.{◌≡◌, ◌+◌, ◌*◌, drop}
use Rattle.serde_json.specs.View.{items_view}
use Rattle.lang_expressions.specs.Lists.{steps}
use Rattle.lang_sources.specs.Statements.{statement_of, block_of, one_more}
use Rattle.lang_sources.proofs.statements.+statement.Given as goal

abbrev pub decreases-statement : goal.decreases-statement
decreases-statement l = 4 * l.levels

abbrev pub decreases-when_of : goal.decreases-when_of
decreases-when_of l = 4 * l.levels + 2

abbrev pub decreases-block : goal.decreases-block
decreases-block l = 4 * l.levels + 1

abbrev pub invariant-block-loop-value : goal.invariant-block-loop-value
invariant-block-loop-value l =
    block_of (statement_of l.levels l.names l.place) l.fn.variables.items (items_view l.values)
    ≡ steps (one_more (statement_of l.levels l.names l.place)) (l.variables.items, l.statements.items) (items_view (drop l.value-index l.values))
