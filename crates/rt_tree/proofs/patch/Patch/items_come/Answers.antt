-- New items come behind the last number in front of them.
use Rattle.std.proofs.Common.{ℕ, ◌∙◌, ap, map}
use Rattle.std.proofs.lemmas.Result.{IfOk-weaker}
use Rattle.run_places.specs.Places.{place_of}
use Rattle.run_places.proofs.Trails.{on_At}
use Rattle.run_shown.specs.Given.{given_to}
use Rattle.run_shown.specs.Pieces.{tops_by}
use Rattle.tree_edits.specs.Documents.{edit_of}
use Rattle.rt_tree.specs.Owns.{last_or}
use Rattle.rt_tree.proofs.MarkWrites.{in_writes}
use Rattle.rt_tree.proofs.patch.Patch.items_come.Goals as goal

pub returns : goal.returns
returns g c =
    let p = c.args.self.now in
    let inner = λ (t : ℕ). given_to p.given t in
    IfOk-weaker c.one_edit.result _ _
    (
    λ edits h app.
    ap (λ es. map edit_of es) h
    ∙ in_writes app p (place_of c.args.place.now) _ c.args.first c.args.trees.now c.items_from.result.now c.in_ok-front.front c.in_ok-numbers.numbers c.in_ok-nodes.nodes c.last_number.result
    (on_At _ ∙ ap place_of c.in_ok-steps.ensures.steps) c.in_ok-front.ensures (c.in_ok-numbers.ensures ∙ ap (λ ts. tops_by inner ts) c.as_slice.ensures.items)
    (c.last_number.ensures ∙ ap (λ ns. last_or 0 ns) c.as_slice-2.ensures.items)
    c.items_from.ensures c.in_ok-nodes.ensures
    )
    c.one_edit.ensures
