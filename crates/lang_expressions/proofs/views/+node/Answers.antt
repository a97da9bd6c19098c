-- Each turn of the loop reads one more node, or refuses it.
use Rattle.std.proofs.Common.{rules, ◌≡◌, Some, None}
use Rattle.serde_json.specs.View.{view}
use Rattle.lang_expressions.proofs.Steps.{one_read, one_refused, all_read}
use Rattle.lang_expressions.specs.Views.{node_of}
use Rattle.lang_expressions.proofs.views.+node.Goals as goal

pub nodes-returns-in_default : goal.nodes-returns-in_default
nodes-returns-in_default t c =
    let refused : None ≡ node_of c.args.levels c.args.names.now c.args.variables.now (view c.value-item.result) = search rules in
    record { nodes = one_refused _ _ c.loop-value.value-index c.value-item.result _ _ (search rules) (search rules) c.loop-value.invariant refused }

pub nodes-loop-value-preserved : goal.nodes-loop-value-preserved
nodes-loop-value-preserved t c =
    let read : Some c.in-Some.one ≡ node_of c.args.levels c.args.names.now c.args.variables.now (view c.value-item.result) = search rules in
    let more = one_read _ _ c.loop-value.value-index c.value-item.result _ c.in-Some.one _ (search rules) (search rules) c.loop-value.invariant read in
    search (rules, more)

pub nodes-returns : goal.nodes-returns
nodes-returns t c = record { nodes = all_read _ _ c.loop-value.value-index _ _ (search rules) c.loop-value.invariant }
