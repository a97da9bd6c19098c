-- One more part, and none.
use Rattle.std.proofs.Common.{rules, ◌≡◌, ◌∙◌, sym, ap, arith, string_bytes}
use Rattle.rt_language.specs.Formulas.{plain_value}
use Rattle.rt_language.specs.Values.{TextValue}
use Rattle.lang_syntax.specs.Mirror.{expression_of}
use Rattle.lang_script.proofs.Plainly.{text_on, text_over}
use Rattle.lang_script.proofs.plain.+plain.Goals as goal

pub plain_text-loop-part-preserved : goal.plain_text-loop-part-preserved
plain_text-loop-part-preserved t c =
    let h : c.in_ok-value.value ≡ plain_value c.args.held.now (expression_of c.part-item.result) = search rules in
    c.loop-part.invariant ∙ text_on c.args.held.now c.args.parts.now _ _ _ _ c.in_ok-value.value (omega arith) c.part-item.is h (search rules)

pub plain_text-returns : goal.plain_text-returns
plain_text-returns t c =
    let value : TextValue (string_bytes c.loop-part.text) ≡ c.new.result = search rules in
    record {
      value =
          sym (ap TextValue (c.loop-part.invariant ∙ text_over c.args.held.now c.args.parts.now _ (string_bytes c.loop-part.text) (omega arith)) ∙ value);
    }
