use Rattle.std.proofs.Common.{◌≡◌, ◌∷◌, ◌+◌, ◌<◌, ◌∙◌, List, ℕ, ap, sym, drop, length, arith}
use Rattle.tree_nodes.specs.Forms.{form_then, paths_in_form, text_in_form}
use Rattle.tree_nodes.specs.declared.written.Form.{Form}
use Rattle.tree_nodes.proofs.Forms.{next_node, none_left}
use Rattle.tree_nodes.proofs.written.write_paths.Goals as goal

pub loop-path-preserved : goal.loop-path-preserved
loop-path-preserved c =
    λ rest.
    let xs : List (List ℕ) = c.args.paths.now in
    let i : ℕ = c.loop-path.path-index in
    let low : i < length xs = omega arith in
    let next : drop i xs ≡ c.path-item.result ∷ drop (i + 1) xs = next_node xs i c.path-item.result low c.path-item.is in
    let below : Form = paths_in_form (drop (i + 1) xs) rest in
    c.in_ok-write_bytes.ensures below
    ∙ ap (λ (p : List ℕ). form_then c.loop-path.form (text_in_form p below)) c.as_slice.ensures.items
    ∙ ap (λ (left : List (List ℕ)). form_then c.loop-path.form (paths_in_form left rest)) (sym next)
    ∙ c.loop-path.invariant rest

pub returns : goal.returns
returns c =
    λ rest.
    let xs : List (List ℕ) = c.args.paths.now in
    ap (λ (left : List (List ℕ)). form_then c.loop-path.form (paths_in_form left rest)) (sym (none_left xs c.loop-path.path-index c.loop-path-test.false))
    ∙ c.loop-path.invariant rest
