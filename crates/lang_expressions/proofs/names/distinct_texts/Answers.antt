-- Each turn of the loop takes one more text, or refuses the value.
use Rattle.std.proofs.Common.{rules, ◌≡◌, Some, None, true, false, not, ◌∙◌}
use Rattle.std.specs.Prelude.{is_some}
use Rattle.serde_json.specs.View.{view}
use Rattle.lang_expressions.specs.Names.{is_seen, one_more_text, place_of}
use Rattle.lang_expressions.proofs.Seen.{same_none, same_more, not_new, is_new}
use Rattle.lang_expressions.proofs.Steps.{step_on, step_off, step_end}
use Rattle.lang_expressions.proofs.names.distinct_texts.Goals as goal

pub loop-value-init : goal.loop-value-init
loop-value-init c = (search rules, same_none _ _ c.new-texts.ensures.items c.new-seen.ensures.empty)

pub returns-in_default : goal.returns-in_default
returns-in_default c =
    let refused : None ≡ one_more_text c.loop-value.texts.items (view c.value-item.result) = search rules in
    record { texts = step_off one_more_text _ _ c.loop-value.value-index c.value-item.result _ (search rules) (search rules) c.loop-value.invariant.0 refused }

pub returns-then-not-fresh : goal.returns-then-not-fresh
returns-then-not-fresh c =
    let text = c.in-Some.text.now in
    let told : not (is_seen c.loop-value.seen text) ≡ false = search rules in
    let there : is_some (place_of c.loop-value.texts.items text) ≡ true = c.loop-value.invariant.1 text ∙ not_new (is_seen c.loop-value.seen text) told in
    let refused : None ≡ one_more_text c.loop-value.texts.items (view c.value-item.result) = search (rules, there) in
    record { texts = step_off one_more_text _ _ c.loop-value.value-index c.value-item.result _ (search rules) (search rules) c.loop-value.invariant.0 refused }

pub loop-value-preserved : goal.loop-value-preserved
loop-value-preserved c =
    let text = c.in-Some.text.now in
    let told : not (is_seen c.loop-value.seen text) ≡ true = search rules in
    let away : is_some (place_of c.loop-value.texts.items text) ≡ false = c.loop-value.invariant.1 text ∙ is_new (is_seen c.loop-value.seen text) told in
    let next : Some c.push.new.self.items ≡ one_more_text c.loop-value.texts.items (view c.value-item.result) = search (rules, away) in (
      step_on one_more_text _ c.push.new.self.items _ c.loop-value.value-index c.value-item.result _ (search rules) (search rules) c.loop-value.invariant.0 next,
      same_more c.loop-value.texts.items c.push.new.self.items c.loop-value.seen c.see.new.seen text c.loop-value.invariant.1 (search rules) c.in_ok-fresh.ensures.more,
    )

pub returns : goal.returns
returns c = record { texts = step_end one_more_text _ _ c.loop-value.value-index _ (search rules) c.loop-value.invariant.0 }
