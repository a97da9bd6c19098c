-- Each kind of node, and one more node of a row.
use Rattle.std.proofs.Common.{◌≡◌, ◌∷◌, ◌+◌, ◌<◌, ◌∙◌, List, ℕ, ap, sym, drop, length, arith}
use Rattle.tree_nodes.specs.Forms.{attributes_in_form, form_then, marked, node_in_form, nodes_in_form, space_in_form, text_in_form}
use Rattle.tree_nodes.specs.declared.written.Form.{Form}
use Rattle.tree_nodes.specs.declared.template.TemplateNode.{TemplateNode}
use Rattle.tree_nodes.proofs.Forms.{next_node, node_Dynamic, node_Element, node_Text, none_left}
use Rattle.tree_nodes.proofs.written.+written.Goals as goal

pub write_node-returns-in_ok-write_nodes-in-Element : goal.write_node-returns-in_ok-write_nodes-in-Element
write_node-returns-in_ok-write_nodes-in-Element t c =
    λ rest.
    let n = c.in-Element in
    let f : Form = c.args.form.now in
    let kids : Form = nodes_in_form c.as_slice-in-Element.result.now rest in
    let counted : Form = marked c.len-in-Element.result kids in
    let attrs : Form = attributes_in_form c.as_slice.result.now counted in
    let many : Form = marked c.len.result attrs in
    let space : Form = space_in_form n.namespace many in
    let named : Form = text_in_form n.tag space in
    c.in_ok-write_nodes-in-Element.ensures rest
    ∙ c.in_ok-write_mark-in-Element-3.ensures kids
    ∙ c.in_ok-write_attributes-in-Element.ensures counted
    ∙ c.in_ok-write_mark-in-Element-2.ensures attrs
    ∙ c.in_ok-write_space-in-Element.ensures many
    ∙ c.in_ok-write_text-in-Element.ensures space
    ∙ c.in_ok-write_mark-in-Element.ensures named
    ∙ (
    λ i.
    form_then f
    (marked 0
    (text_in_form n.tag
    (space_in_form n.namespace
    (marked (c.len.ensures.items i)
    (attributes_in_form (c.as_slice.ensures.items i)
    (marked (c.len-in-Element.ensures.items i) (nodes_in_form (c.as_slice-in-Element.ensures.items i) rest)))))))
    )
    ∙ ap (λ (x : Form). form_then f x) (sym (ap (λ (m : TemplateNode). node_in_form m rest) n.is ∙ node_Element n.tag n.namespace n.attrs n.children rest))

pub write_node-returns-in_ok-write_text-in-Text : goal.write_node-returns-in_ok-write_text-in-Text
write_node-returns-in_ok-write_text-in-Text t c =
    λ rest.
    let n = c.in-Text in
    let f : Form = c.args.form.now in
    c.in_ok-write_text-in-Text.ensures rest
    ∙ c.in_ok-write_mark-in-Text.ensures (text_in_form n.text rest)
    ∙ ap (λ (x : Form). form_then f x) (sym (ap (λ (m : TemplateNode). node_in_form m rest) n.is ∙ node_Text n.text rest))

pub write_node-returns-in_ok-write_mark-in-Dynamic-2 : goal.write_node-returns-in_ok-write_mark-in-Dynamic-2
write_node-returns-in_ok-write_mark-in-Dynamic-2 t c =
    λ rest.
    let n = c.in-Dynamic in
    let f : Form = c.args.form.now in
    c.in_ok-write_mark-in-Dynamic-2.ensures rest
    ∙ c.in_ok-write_mark-in-Dynamic.ensures (marked n.id rest)
    ∙ ap (λ (x : Form). form_then f x) (sym (ap (λ (m : TemplateNode). node_in_form m rest) n.is ∙ node_Dynamic n.id rest))

pub write_nodes-loop-node-preserved : goal.write_nodes-loop-node-preserved
write_nodes-loop-node-preserved t c =
    λ rest.
    let xs : List TemplateNode = c.args.nodes.now in
    let i : ℕ = c.loop-node.node-index in
    let low : i < length xs = omega arith in
    let left : drop i xs ≡ c.node-item.result ∷ drop (i + 1) xs = next_node xs i c.node-item.result low c.node-item.is in
    c.in_ok-write_node.ensures (nodes_in_form (drop (i + 1) xs) rest)
    ∙ ap (λ (ns : List TemplateNode). form_then c.loop-node.form (nodes_in_form ns rest)) (sym left)
    ∙ c.loop-node.invariant rest

pub write_nodes-returns : goal.write_nodes-returns
write_nodes-returns t c =
    λ rest.
    let xs : List TemplateNode = c.args.nodes.now in
    ap (λ (ns : List TemplateNode). form_then c.loop-node.form (nodes_in_form ns rest)) (sym (none_left xs c.loop-node.node-index c.loop-node-test.false))
    ∙ c.loop-node.invariant rest
