-- An attribute comes before the next one, or it doesn't.
use Rattle.std.proofs.Common.{◌≡◌, Bool, true, false, ◌&&◌, ◌+◌, drop, map, sym, ap, ◌∙◌, arith}
use Rattle.std.proofs.lemmas.Grind.{common_steps}
use Rattle.std.proofs.lemmas.List.{take_rest}
use Rattle.tree_edits.specs.Documents.{doc_attribute_of}
use Rattle.rt_html.specs.Reading.{ascend}
use Rattle.rt_html.proofs.Orders.{ascend_step}
use Rattle.rt_html.proofs.fitting.ascend.Goals as goal

pub returns-then-not-is_before_first : goal.returns-then-not-is_before_first
returns-then-not-is_before_first c =
    let no : c.is_before_first.result ≡ false = grind arith in
    sym
    (c.loop-at.invariant
    ∙ ascend_step c.args.attrs.now c.loop-at.at c.index-attrs-at.result _ c.is_before_first.result c.loop-at-test.true c.index-attrs-at.is
    c.is_before_first.ensures (grind (arith, common_steps, take_rest))
    ∙ ap (λ (b : Bool). b && ascend (map doc_attribute_of (drop (c.loop-at.at + 1) c.args.attrs.now))) no)

pub loop-at-preserved : goal.loop-at-preserved
loop-at-preserved c =
    let yes : c.is_before_first.result ≡ true = grind arith in
    c.loop-at.invariant
    ∙ ascend_step c.args.attrs.now c.loop-at.at c.index-attrs-at.result _ c.is_before_first.result c.loop-at-test.true c.index-attrs-at.is
    c.is_before_first.ensures (grind (arith, common_steps, take_rest))
    ∙ ap (λ (b : Bool). b && ascend (map doc_attribute_of (drop (c.loop-at.at + 1) c.args.attrs.now))) yes
