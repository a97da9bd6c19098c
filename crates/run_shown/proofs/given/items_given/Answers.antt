-- The side shows what was given for its child scopes.
use Rattle.std.proofs.Common.{◌∙◌}
use Rattle.std.proofs.lemmas.Result.{IfOk-weaker}
use Rattle.run_places.specs.Trails.{place_on}
use Rattle.run_shown.proofs.GivenViews.{given_items}
use Rattle.run_shown.proofs.given.items_given.Goals as goal

pub returns : goal.returns
returns g c =
    IfOk-weaker c.items_view.result _ _
    (λ row h. h ∙ given_items c.shown_by.result c.args.side.now c.args.given.now c.shown_by.ensures.side c.shown_by.ensures.asked c.args.first (place_on c.args.place.now) c.args.trees.now)
    c.items_view.ensures
