-- By what stands at its top.
use Rattle.std.proofs.Common.{◌∙◌, ap}
use Rattle.run_places.specs.Places.{place_of}
use Rattle.run_places.proofs.Trails.{on_At}
use Rattle.run_shown.specs.Pieces.{tree_pieces}
use Rattle.run_shown.specs.Unknowns.{first_in}
use Rattle.run_shown.proofs.Unknowns.{tree_at}
use Rattle.rt_tree.proofs.patch.Patch.tree_unknown.Goals as goal

pub returns : goal.returns
returns g c =
    let p = c.args.self.now in
    c.first_unknown.ensures
    ∙ ap (λ ts. first_in p.given ts)
    (c.as_slice.ensures.items
    ∙ c.in_ok-tops.ensures
    ∙ ap (λ q. tree_pieces p.old c.args.was.now q) (on_At _ ∙ ap place_of c.in_ok-steps.ensures.steps)
    ∙ tree_at p.old c.args.was.now (place_of c.args.above.now))
