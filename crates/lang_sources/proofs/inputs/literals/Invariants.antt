-- What is read so far stands before the rest.
use Rattle.std.proofs.Common.{◌≡◌, drop}
use Rattle.serde_json.specs.View.{items_view}
use Rattle.lang_expressions.specs.Lists.{read_each}
use Rattle.lang_expressions.proofs.Steps.{after}
use Rattle.lang_sources.specs.Inputs.{literal_in}
use Rattle.lang_sources.proofs.inputs.literals.Given as goal

abbrev pub invariant-loop-value : goal.invariant-loop-value
invariant-loop-value l = read_each literal_in (items_view l.values) ≡ after l.read.items (read_each literal_in (items_view (drop l.value-index l.values)))
