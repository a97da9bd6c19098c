-- A number that fits a mark is one, and another one stands among the wide ones, too.
use Rattle.std.proofs.Common.{◌∙◌, List, ℕ, ap}
use Rattle.std.proofs.lemmas.Bool.{le-ltb, lt-ltb}
use Rattle.tree_nodes.specs.Forms.{form_then}
use Rattle.tree_nodes.proofs.Forms.{small_then, wide_then}
use Rattle.tree_nodes.proofs.written.write_mark.Goals as goal

pub returns-in_ok-push : goal.returns-in_ok-push
returns-in_ok-push c =
    λ rest.
    ap (λ (ms : List ℕ). form_then (record (c.args.form.now) { marks = ms }) rest) c.in_ok-push.ensures.ok
    ∙ small_then c.args.form.now rest c.args.mark (lt-ltb c.args.mark 255 c.if-mark-lt-WIDE.true)

pub returns-in_ok-push-3 : goal.returns-in_ok-push-3
returns-in_ok-push-3 c =
    λ rest.
    (λ i. form_then (record (c.args.form.now) { marks = c.in_ok-push-2.ensures.ok i; wides = c.in_ok-push-3.ensures.ok i }) rest)
    ∙ wide_then c.args.form.now rest c.args.mark (le-ltb c.args.mark 255 c.if-mark-lt-WIDE.false)
