use Rattle.std.proofs.Common.{◌∙◌, List, ℕ, ap}
use Rattle.tree_nodes.specs.Forms.{form_then, text_in_form}
use Rattle.tree_nodes.proofs.written.write_text.Goals as goal

pub returns : goal.returns
returns c =
    λ rest.
    c.in_ok-write_bytes.ensures rest ∙ ap (λ (t : List ℕ). form_then c.args.form.now (text_in_form t rest)) c.as_bytes.ensures.bytes
