-- The old nodes at the top give way to what shows of the new slot.
use Rattle.std.proofs.Common.{◌∙◌, ap}
use Rattle.std.proofs.lemmas.Result.{IfOk-weaker}
use Rattle.run_places.specs.Places.{place_of}
use Rattle.run_places.proofs.Trails.{on_At}
use Rattle.run_shown.specs.Given.{given_to}
use Rattle.run_shown.specs.Pieces.{tops_by}
use Rattle.run_shown.specs.Tops.{replaced}
use Rattle.tree_edits.specs.Documents.{forest_of}
use Rattle.rt_tree.proofs.MarkWrites.{slot_writes}
use Rattle.rt_tree.proofs.patch.Patch.slot_gives.Goals as goal

pub returns : goal.returns
returns g c =
    let p = c.args.self.now in
    let nodes = c.in_ok-nodes.nodes in
    IfOk-weaker c.replaced_by.result _ _
    (
    λ edits h app.
    slot_writes app p (place_of c.args.place.now) _ c.args.next.now c.args.was.now c.in_ok-tops.tops c.in_ok-numbers.numbers nodes edits
    (on_At _ ∙ ap place_of c.in_ok-steps.ensures.steps) c.in_ok-tops.ensures (c.in_ok-numbers.ensures ∙ ap (λ ts. tops_by (λ t. given_to p.given t) ts) c.as_slice.ensures.items)
    c.in_ok-nodes.ensures (h ∙ ap (λ ns. replaced ns (forest_of nodes)) c.as_slice-2.ensures.items)
    )
    c.replaced_by.ensures
