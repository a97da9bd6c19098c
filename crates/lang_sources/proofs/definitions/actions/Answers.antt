-- Each turn of the loop reads one more member, or refuses it.
use Rattle.std.proofs.Common.{rules, ◌≡◌, Some, None}
use Rattle.serde_json.specs.View.{view}
use Rattle.lang_expressions.proofs.Steps.{member_read, member_refused, members_read}
use Rattle.lang_sources.specs.Definitions.{action_in}
use Rattle.lang_sources.proofs.definitions.actions.Goals as goal

pub returns-in_default : goal.returns-in_default
returns-in_default c =
    let refused : None ≡ action_in c.args.names.now (view c.in-Some.value.now) = search rules in
    record { actions = member_refused (λ _. action_in c.args.names.now) _ _ _ c.in-Some.value.now _ _ c.in-Some.ensures.steps c.loop-name.invariant refused }

pub loop-name-preserved : goal.loop-name-preserved
loop-name-preserved c =
    let read : Some c.in-Some-2.one ≡ action_in c.args.names.now (view c.in-Some.value.now) = search rules in
    let more = member_read (λ _. action_in c.args.names.now) _ _ _ c.in-Some.value.now _ c.in-Some-2.one _ c.in-Some.ensures.steps c.loop-name.invariant read in
    search (rules, more)

pub returns : goal.returns
returns c = record { actions = members_read (λ _. action_in c.args.names.now) _ _ _ c.in-None.ensures.steps.0 c.loop-name.invariant }
