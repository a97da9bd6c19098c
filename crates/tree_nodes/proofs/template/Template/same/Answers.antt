-- Templates are one exactly where their forms are.
use Rattle.std.proofs.Common.{◌∙◌, ap}
use Rattle.tree_nodes.specs.declared.template.Written.{Written}
use Rattle.tree_nodes.proofs.Forms.{same_by_form}
use Rattle.tree_nodes.proofs.template.Template.same.Goals as goal

pub returns : goal.returns
returns c =
    rw (← c.self.view_is, ← c.other.view_is)
    (
    same_by_form c.is_same_form.result (c.as_ref.result.now).form (c.as_ref-2.result.now).form (c.self.inside.written.value).parts (c.other.inside.written.value).parts
    (ap (λ (w : Written). w.form) c.as_ref.ensures ∙ c.self.invariant)
    (ap (λ (w : Written). w.form) c.as_ref-2.ensures ∙ c.other.invariant)
    c.is_same_form.ensures
    )
