-- The numbers at the top are those of what stands there.
use Rattle.std.proofs.Common.{◌∙◌, ap, sym}
use Rattle.std.proofs.lemmas.Result.{IfOk-weaker}
use Rattle.run_places.specs.Trails.{place_on}
use Rattle.run_shown.specs.Pieces.{tops_by}
use Rattle.run_shown.specs.Seen.{seen_by}
use Rattle.run_shown.proofs.TopsSeen.{tree_numbers}
use Rattle.run_shown.proofs.tops.tree_tops.Goals as goal

pub returns : goal.returns
returns g c =
    let asked = (c.args.shown.now).asked in
    let side = (c.args.shown.now).side.now in
    IfOk-weaker c.numbers_of.result _ _
    (λ tops h. h ∙ ap (λ ps. tops_by (λ t. seen_by asked t) ps) (c.as_slice.ensures.items ∙ c.in_ok-pieces.ensures) ∙ sym (tree_numbers asked side c.args.tree.now (place_on c.args.above.now)))
    c.numbers_of.ensures
