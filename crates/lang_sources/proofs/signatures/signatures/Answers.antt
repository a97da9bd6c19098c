-- Each turn of the loop reads one more member, or refuses it.
use Rattle.std.proofs.Common.{rules, ◌≡◌, Some, None, string_bytes}
use Rattle.serde_json.specs.View.{view}
use Rattle.lang_expressions.proofs.Steps.{member_read, member_refused, members_read}
use Rattle.lang_sources.specs.Signatures.{signature_in}
use Rattle.lang_sources.proofs.signatures.signatures.Goals as goal

pub returns-in_default : goal.returns-in_default
returns-in_default c =
    let refused : None ≡ signature_in (string_bytes c.in-Some.name.now) (view c.in-Some.value.now) = search rules in
    record { signatures = member_refused signature_in _ _ c.in-Some.name.now c.in-Some.value.now _ _ c.in-Some.ensures.steps c.loop-name.invariant refused }

pub loop-name-preserved : goal.loop-name-preserved
loop-name-preserved c =
    let read : Some c.in-Some-2.one ≡ signature_in (string_bytes c.in-Some.name.now) (view c.in-Some.value.now) = search rules in
    let more = member_read signature_in _ _ c.in-Some.name.now c.in-Some.value.now _ c.in-Some-2.one _ c.in-Some.ensures.steps c.loop-name.invariant read in
    search (rules, more)

pub returns : goal.returns
returns c = record { signatures = members_read signature_in _ _ _ c.in-None.ensures.steps.0 c.loop-name.invariant }
