-- What stands at the top of these items.
use Rattle.std.proofs.Common.{◌∙◌, ap}
use Rattle.std.proofs.lemmas.Result.{IfOk-weaker}
use Rattle.run_places.specs.Places.{place_of}
use Rattle.run_places.proofs.Trails.{on_At}
use Rattle.run_shown.specs.Pieces.{items_pieces}
use Rattle.rt_tree.proofs.patch.Patch.tops_before.Goals as goal

pub returns : goal.returns
returns g c =
    IfOk-weaker c.items_pieces.result _ _
    (
    λ tops h.
    h
    ∙ ap (λ p. items_pieces c.args.self.now.new.side 0 0 p c.items_before.result.now) (on_At _ ∙ ap place_of c.in_ok-steps.ensures.steps)
    ∙ ap (λ ts. items_pieces c.args.self.now.new.side 0 0 (place_of c.args.place.now) ts) c.items_before.ensures
    )
    c.items_pieces.ensures
