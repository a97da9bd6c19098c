-- What is written of roots and paths is the form of the whole.
use Rattle.std.proofs.Common.{◌∙◌, ap, sym}
use Rattle.tree_nodes.specs.Forms.{all_paths_in_form, empty_form, form_then, roots_in_form}
use Rattle.tree_nodes.specs.declared.written.Form.{Form}
use Rattle.tree_nodes.proofs.Forms.{then_nothing}
use Rattle.tree_nodes.proofs.written.form_of.Goals as goal

pub returns : goal.returns
returns c =
    let attrs : Form = all_paths_in_form c.as_slice-3.result.now empty_form in
    let below : Form = all_paths_in_form c.as_slice-2.result.now attrs in
    sym (then_nothing c.write_all_paths-2.new.form)
    ∙ c.in_ok-write_all_paths-2.ensures empty_form
    ∙ c.in_ok-write_all_paths.ensures attrs
    ∙ c.in_ok-write_roots.ensures below
    ∙ ap (λ (f : Form). form_then f (roots_in_form c.as_slice.result.now below)) c.blank-form.ensures
    ∙ (
    λ i.
    roots_in_form (c.as_slice.ensures.items i)
    (all_paths_in_form (c.as_slice-2.ensures.items i) (all_paths_in_form (c.as_slice-3.ensures.items i) empty_form))
    )
