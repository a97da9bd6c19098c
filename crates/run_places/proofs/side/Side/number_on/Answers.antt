-- The number under a node's index is the one at its place.
use Rattle.std.proofs.Common.{◌∙◌, ap, sym}
use Rattle.rt_model.specs.Lists.{or_else}
use Rattle.run_places.specs.Places.{kind_of}
use Rattle.run_places.specs.Trails.{place_on}
use Rattle.run_places.proofs.Sided.{number_found, number_missing}
use Rattle.run_places.proofs.side.Side.number_on.Goals as goal

pub returns-in-Some : goal.returns-in-Some
returns-in-Some g c =
    let side = c.args.self.now in
    c.or_none.ensures ∙ ap (λ o. or_else 0 o) c.get.ensures
    ∙ sym (number_found side.nodes (place_on c.args.trail.now) (kind_of c.args.kind) c.in-Some.ensures.apart c.in-Some.index c.in-Some.ensures.found side.numbers)

pub returns-in-None : goal.returns-in-None
returns-in-None g c =
    let side = c.args.self.now in
    sym (number_missing side.nodes (place_on c.args.trail.now) (kind_of c.args.kind) c.in-None.ensures.apart c.in-None.ensures.found side.numbers)
