-- How many bytes, and then the bytes.
use Rattle.std.proofs.Common.{◌≡◌, ◌++◌, ◌∙◌, List, ℕ, ap}
use Rattle.tree_nodes.specs.Forms.{form_then, texted}
use Rattle.tree_nodes.specs.declared.written.Form.{Form}
use Rattle.tree_nodes.proofs.Forms.{text_then}
use Rattle.tree_nodes.proofs.written.write_bytes.Goals as goal

pub returns : goal.returns
returns c =
    λ rest.
    let t : List ℕ = c.args.bytes.now in
    let counted : Form = c.write_mark.new.form in
    let bytes : c.append.new.self ≡ counted.marks ++ t =
    c.in_ok-append.ensures.ok ∙ ap (λ (b : List ℕ). counted.marks ++ b) c.in_ok-copied.ensures.items in
    (λ i. form_then (record counted { marks = bytes i }) rest)
    ∙ text_then counted rest t
    ∙ c.in_ok-write_mark.ensures (texted t rest)
