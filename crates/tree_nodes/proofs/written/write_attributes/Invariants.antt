-- What is written so far, and what is left, are what all attributes give.
use Rattle.std.proofs.Common.{◌≡◌, drop}
use Rattle.tree_nodes.specs.Forms.{attributes_in_form, form_then}
use Rattle.tree_nodes.specs.declared.written.Form.{Form}
use Rattle.tree_nodes.proofs.written.write_attributes.Given as goal

abbrev pub invariant-loop-attr : goal.invariant-loop-attr
invariant-loop-attr l =
    (rest : Form) → form_then l.form (attributes_in_form (drop l.attr-index l.attrs) rest) ≡ form_then l.initial.form (attributes_in_form l.attrs rest)
