-- The texts so far, each of them in the set, and what comes after them.
use Rattle.std.proofs.Common.{◌≡◌, drop}
use Rattle.serde_json.specs.View.{items_view}
use Rattle.lang_expressions.specs.Lists.{steps}
use Rattle.lang_expressions.specs.Names.{one_more_text, distinct_texts}
use Rattle.lang_expressions.proofs.Seen.{Same}
use Rattle.lang_expressions.proofs.names.distinct_texts.Given as goal

abbrev pub invariant-loop-value : goal.invariant-loop-value
invariant-loop-value l =
    (distinct_texts (items_view l.values) ≡ steps one_more_text l.texts.items (items_view (drop l.value-index l.values)))
    × Same l.texts.items l.seen
