use Rattle.std.proofs.Common.{◌≡◌, ◌∷◌, ◌+◌, ◌<◌, ◌∙◌, List, ℕ, ap, sym, drop, length, arith}
use Rattle.tree_nodes.specs.Forms.{attributes_in_form, form_then}
use Rattle.tree_nodes.specs.declared.template.TemplateAttribute.{TemplateAttribute}
use Rattle.tree_nodes.proofs.Forms.{next_node, none_left}
use Rattle.tree_nodes.proofs.written.write_attributes.Goals as goal

pub loop-attr-preserved : goal.loop-attr-preserved
loop-attr-preserved c =
    λ rest.
    let xs : List TemplateAttribute = c.args.attrs.now in
    let i : ℕ = c.loop-attr.attr-index in
    let low : i < length xs = omega arith in
    let next : drop i xs ≡ c.attr-item.result ∷ drop (i + 1) xs = next_node xs i c.attr-item.result low c.attr-item.is in
    c.in_ok-write_attribute.ensures (attributes_in_form (drop (i + 1) xs) rest)
    ∙ ap (λ (left : List TemplateAttribute). form_then c.loop-attr.form (attributes_in_form left rest)) (sym next)
    ∙ c.loop-attr.invariant rest

pub returns : goal.returns
returns c =
    λ rest.
    let xs : List TemplateAttribute = c.args.attrs.now in
    ap (λ (left : List TemplateAttribute). form_then c.loop-attr.form (attributes_in_form left rest)) (sym (none_left xs c.loop-attr.attr-index c.loop-attr-test.false))
    ∙ c.loop-attr.invariant rest
