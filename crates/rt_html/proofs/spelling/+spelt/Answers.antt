-- What is written of an element and of a text.
use Rattle.std.proofs.Common.{arith, ◌∙◌, ap}
use Rattle.std.proofs.lemmas.Grind.{common_steps}
use Rattle.rt_edits.specs.declared.doc_node.DocKind.{DocKind}
use Rattle.tree_edits.specs.Documents.{content_of, forest_below}
use Rattle.rt_html.specs.Spelling.{html, node_html}
use Rattle.rt_html.proofs.Spelt.{spelt_Element, spelt_Text}
use Rattle.rt_html.proofs.spelling.+spelt.Goals as goal

pub put_kind-returns-in_ok-put_nodes-in-Element : goal.put_kind-returns-in_ok-put_nodes-in-Element
put_kind-returns-in_ok-put_nodes-in-Element t c =
    rw (ap (λ (kind : DocKind). node_html (content_of kind) (html (forest_below kind))) c.in-Element.is
    ∙ spelt_Element c.in-Element.tag c.in-Element.namespace c.in-Element.attrs c.in-Element.listeners c.in-Element.children)
    (grind (arith, common_steps))

pub put_kind-returns-in_ok-word-in-Text : goal.put_kind-returns-in_ok-word-in-Text
put_kind-returns-in_ok-word-in-Text t c =
    rw (ap (λ (kind : DocKind). node_html (content_of kind) (html (forest_below kind))) c.in-Text.is ∙ spelt_Text c.in-Text.text)
    (grind (arith, common_steps))
