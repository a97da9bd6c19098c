-- All at the top of the items goes.
use Rattle.std.proofs.Common.{◌∙◌, ap}
use Rattle.std.proofs.lemmas.Result.{IfOk-weaker}
use Rattle.run_places.specs.Places.{place_of}
use Rattle.run_shown.specs.Given.{given_to}
use Rattle.run_shown.specs.Pieces.{tops_by}
use Rattle.run_shown.specs.Tops.{removed}
use Rattle.rt_tree.proofs.MarkWrites.{out_writes}
use Rattle.rt_tree.proofs.patch.Patch.items_go.Goals as goal

pub returns : goal.returns
returns g c =
    let p = c.args.self.now in
    IfOk-weaker c.removals.result _ _
    (
    λ edits h app.
    out_writes app p (place_of c.args.place.now) c.args.first c.args.trees.now c.in_ok-tops.tops c.in_ok-numbers.numbers edits c.in_ok-tops.ensures
    (c.in_ok-numbers.ensures ∙ ap (λ ts. tops_by (λ t. given_to p.given t) ts) c.as_slice.ensures.items) (h ∙ ap removed c.as_slice-2.ensures.items)
    )
    c.removals.ensures
