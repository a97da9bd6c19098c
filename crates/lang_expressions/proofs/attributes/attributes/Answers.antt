-- Each turn of the loop reads one more member, or refuses it.
use Rattle.std.proofs.Common.{rules, ◌≡◌, Some, None, string_bytes}
use Rattle.serde_json.specs.View.{view}
use Rattle.lang_expressions.proofs.Steps.{member_read, member_refused, members_read}
use Rattle.lang_expressions.specs.Attributes.{attribute_in}
use Rattle.lang_expressions.proofs.attributes.attributes.Goals as goal

pub returns-in_default : goal.returns-in_default
returns-in_default c =
    let reading = attribute_in c.args.names.now c.args.variables.now in
    let refused : None ≡ reading (string_bytes c.in-Some.name.now) (view c.in-Some.value.now) = search rules in
    record { attributes = member_refused reading _ _ c.in-Some.name.now c.in-Some.value.now _ _ c.in-Some.ensures.steps c.loop-name.invariant refused }

pub loop-name-preserved : goal.loop-name-preserved
loop-name-preserved c =
    let reading = attribute_in c.args.names.now c.args.variables.now in
    let read : Some c.in-Some-2.one ≡ reading (string_bytes c.in-Some.name.now) (view c.in-Some.value.now) = search rules in
    let more = member_read reading _ _ c.in-Some.name.now c.in-Some.value.now _ c.in-Some-2.one _ c.in-Some.ensures.steps c.loop-name.invariant read in
    search (rules, more)

pub returns : goal.returns
returns c =
    let reading = attribute_in c.args.names.now c.args.variables.now in
    record { attributes = members_read reading _ _ _ c.in-None.ensures.steps.0 c.loop-name.invariant }
