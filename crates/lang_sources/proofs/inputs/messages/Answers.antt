-- Each turn of the loop reads one more value, or refuses it.
use Rattle.std.proofs.Common.{rules, ◌≡◌, Some, None}
use Rattle.serde_json.specs.View.{view}
use Rattle.lang_expressions.proofs.Steps.{one_read, one_refused, all_read}
use Rattle.lang_sources.specs.Inputs.{post_in}
use Rattle.lang_sources.proofs.inputs.messages.Goals as goal

pub returns-in_default : goal.returns-in_default
returns-in_default c =
    let refused : None ≡ post_in (view c.value-item.result) = search rules in
    record { posts = one_refused post_in _ c.loop-value.value-index c.value-item.result _ _ (search rules) (search rules) c.loop-value.invariant refused }

pub loop-value-preserved : goal.loop-value-preserved
loop-value-preserved c =
    let read : Some c.in-Some.one ≡ post_in (view c.value-item.result) = search rules in
    let more = one_read post_in _ c.loop-value.value-index c.value-item.result _ c.in-Some.one _ (search rules) (search rules) c.loop-value.invariant read in
    search (rules, more)

pub returns : goal.returns
returns c = record { posts = all_read post_in _ c.loop-value.value-index _ _ (search rules) c.loop-value.invariant }
