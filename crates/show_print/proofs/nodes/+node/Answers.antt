use Rattle.std.proofs.Common.{arith, ◌∙◌, ap}
use Rattle.std.proofs.lemmas.Grind.{common_steps}
use Rattle.rt_edits.specs.declared.doc_node.DocKind.{DocKind}
use Rattle.tree_edits.specs.Documents.{content_of, forest_below}
use Rattle.rt_language.specs.Lines.{node_text, node_texts}
use Rattle.show_print.proofs.Forests.{shown-Element, shown-Text, shown-Placeholder}
use Rattle.show_print.proofs.nodes.+node.Goals as goal

-- src/nodes.rt:41:1
pub put_kind-returns-in_ok-put_nodes-in-Element : goal.put_kind-returns-in_ok-put_nodes-in-Element
put_kind-returns-in_ok-put_nodes-in-Element t c =
    rw (ap (λ (kind : DocKind). node_text c.args.number (content_of kind) (node_texts (forest_below kind))) c.in-Element.is
    ∙ shown-Element c.args.number c.in-Element.tag c.in-Element.namespace c.in-Element.attrs c.in-Element.listeners c.in-Element.children)
    (grind (arith, common_steps))

-- src/nodes.rt:41:1
pub put_kind-returns-in_ok-quoted-in-Text : goal.put_kind-returns-in_ok-quoted-in-Text
put_kind-returns-in_ok-quoted-in-Text t c =
    rw (ap (λ (kind : DocKind). node_text c.args.number (content_of kind) (node_texts (forest_below kind))) c.in-Text.is ∙ shown-Text c.args.number c.in-Text.text)
    (grind (arith, common_steps))

-- src/nodes.rt:41:1
pub put_kind-returns-in_ok-byte-in-Placeholder : goal.put_kind-returns-in_ok-byte-in-Placeholder
put_kind-returns-in_ok-byte-in-Placeholder t c =
    rw (ap (λ (kind : DocKind). node_text c.args.number (content_of kind) (node_texts (forest_below kind))) c.in-Placeholder.is ∙ shown-Placeholder c.args.number)
    (grind (arith, common_steps))
