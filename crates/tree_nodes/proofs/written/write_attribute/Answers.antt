use Rattle.std.proofs.Common.{◌∙◌, ap, sym}
use Rattle.tree_nodes.specs.Forms.{attribute_in_form, form_then, marked, space_in_form, text_in_form}
use Rattle.tree_nodes.specs.declared.written.Form.{Form}
use Rattle.tree_nodes.proofs.written.write_attribute.Goals as goal

pub returns-in_ok-write_text-in-Static-2 : goal.returns-in_ok-write_text-in-Static-2
returns-in_ok-write_text-in-Static-2 c =
    λ rest.
    let a = c.in-Static in
    let last : Form = text_in_form a.value rest in
    let space : Form = space_in_form a.namespace last in
    c.in_ok-write_text-in-Static-2.ensures rest
    ∙ c.in_ok-write_space-in-Static.ensures last
    ∙ c.in_ok-write_text-in-Static.ensures space
    ∙ c.in_ok-write_mark-in-Static.ensures (text_in_form a.name space)
    ∙ ap (λ x. form_then c.args.form.now (attribute_in_form x rest)) (sym a.is)

pub returns-in_ok-write_mark-in-Dynamic-2 : goal.returns-in_ok-write_mark-in-Dynamic-2
returns-in_ok-write_mark-in-Dynamic-2 c =
    λ rest.
    c.in_ok-write_mark-in-Dynamic-2.ensures rest
    ∙ c.in_ok-write_mark-in-Dynamic.ensures (marked c.in-Dynamic.id rest)
    ∙ ap (λ x. form_then c.args.form.now (attribute_in_form x rest)) (sym c.in-Dynamic.is)
