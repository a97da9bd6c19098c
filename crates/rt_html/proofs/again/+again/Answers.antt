-- What is written of an element and of a text.
use Rattle.std.proofs.Common.{arith, ◌∙◌, ap}
use Rattle.std.proofs.lemmas.Grind.{common_steps}
use Rattle.rt_html.specs.declared.plain.Plain.{Plain}
use Rattle.rt_html.specs.Reading.{plain_below, plain_content}
use Rattle.rt_html.specs.Spelling.{html, node_html}
use Rattle.rt_html.proofs.Plains.{spelt_Element, spelt_Text}
use Rattle.rt_html.proofs.again.+again.Goals as goal

pub put_plain-returns-in_ok-put_row-in-Element : goal.put_plain-returns-in_ok-put_row-in-Element
put_plain-returns-in_ok-put_row-in-Element t c =
    rw (ap (λ (node : Plain). node_html (plain_content node) (html (plain_below node))) c.in-Element.is
    ∙ spelt_Element c.in-Element.tag c.in-Element.namespace c.in-Element.attrs c.in-Element.children)
    (grind (arith, common_steps))

pub put_plain-returns-in_ok-word-in-Text : goal.put_plain-returns-in_ok-word-in-Text
put_plain-returns-in_ok-word-in-Text t c =
    rw (ap (λ (node : Plain). node_html (plain_content node) (html (plain_below node))) c.in-Text.is ∙ spelt_Text c.in-Text.text)
    (grind (arith, common_steps))
