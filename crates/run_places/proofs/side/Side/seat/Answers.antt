-- A child scope under a component's index is one more child scope at its place.
use Rattle.std.proofs.Common.{ap, ◌∙◌}
use Rattle.std.proofs.lemmas.Result.{on_err_weaker, on_ok_weaker}
use Rattle.run_places.specs.Places.{place_of, side_of}
use Rattle.run_places.specs.Sides.{joined_under}
use Rattle.run_places.proofs.Knowing.{children_put}
use Rattle.run_places.proofs.Sided.{child_more}
use Rattle.run_places.proofs.side.Side.seat.Goals as goal

pub returns-in-Some-clause-seated : goal.returns-in-Some-clause-seated
returns-in-Some-clause-seated g c =
    let side = c.args.self.now in
    on_ok_weaker c.push.result
    (
    λ h i.
    record (side_of side) {
      children = child_more side.seats (place_of c.args.place.now) c.in-Some.index c.args.child c.in-Some.ensures.found side.children c.push.new.self h i;
    }
    )
    c.push.ensures.ok

pub returns-in-Some-clause-others : goal.returns-in-Some-clause-others
returns-in-Some-clause-others g c =
    let side = c.args.self.now in
    on_ok_weaker c.push.result
    (
    λ h.
    children_put side c.push.new.self _
    ∙ (λ i. record side { children = (h ∙ ap (λ o. joined_under o c.args.child side.children) c.in-Some.ensures.found) i })
    )
    c.push.ensures.ok

pub returns-in-Some-clause-err : goal.returns-in-Some-clause-err
returns-in-Some-clause-err g c =
    let side = c.args.self.now in
    on_err_weaker c.push.result (λ h. children_put side c.push.new.self _ ∙ (λ i. record side { children = h i })) c.push.ensures.err
