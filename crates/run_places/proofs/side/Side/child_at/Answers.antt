-- The child scope under a component's index is the one at its place.
use Rattle.std.proofs.Common.{◌∙◌, sym}
use Rattle.run_places.specs.Places.{place_of}
use Rattle.run_places.proofs.Sided.{child_found, child_missing}
use Rattle.run_places.proofs.side.Side.child_at.Goals as goal

pub returns-in-Some : goal.returns-in-Some
returns-in-Some g c =
    let side = c.args.self.now in
    c.get.ensures ∙ sym (child_found side.seats (place_of c.args.place.now) c.in-Some.ensures.apart c.in-Some.index c.in-Some.ensures.found side.children)

pub returns-in-None : goal.returns-in-None
returns-in-None g c =
    let side = c.args.self.now in
    sym (child_missing side.seats (place_of c.args.place.now) c.in-None.ensures.apart c.in-None.ensures.found side.children)
