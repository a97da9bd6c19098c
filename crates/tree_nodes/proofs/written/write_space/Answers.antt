use Rattle.std.proofs.Common.{◌∙◌, ap, sym}
use Rattle.tree_nodes.specs.Forms.{form_then, space_in_form, text_in_form}
use Rattle.tree_nodes.proofs.written.write_space.Goals as goal

pub returns-in_ok-write_text-in-Some : goal.returns-in_ok-write_text-in-Some
returns-in_ok-write_text-in-Some c =
    λ rest.
    c.in_ok-write_text-in-Some.ensures rest
    ∙ c.in_ok-write_mark-in-Some.ensures (text_in_form c.in-Some.text rest)
    ∙ ap (λ o. form_then c.args.form.now (space_in_form o rest)) (sym c.in-Some.is)

pub returns-in_ok-write_mark-in-None : goal.returns-in_ok-write_mark-in-None
returns-in_ok-write_mark-in-None c =
    λ rest. c.in_ok-write_mark-in-None.ensures rest ∙ ap (λ o. form_then c.args.form.now (space_in_form o rest)) (sym c.in-None.is)
