-- A number under a node's index is one more number at its place.
use Rattle.std.proofs.Common.{ap, ◌∙◌}
use Rattle.std.proofs.lemmas.Result.{on_err_weaker, on_ok_weaker}
use Rattle.run_places.specs.Places.{kind_of, place_of, side_of}
use Rattle.run_places.specs.Sides.{joined_under}
use Rattle.run_places.proofs.Knowing.{numbers_put}
use Rattle.run_places.proofs.Sided.{number_more}
use Rattle.run_places.proofs.side.Side.draw.Goals as goal

pub returns-in-Some-clause-drawn : goal.returns-in-Some-clause-drawn
returns-in-Some-clause-drawn g c =
    let side = c.args.self.now in
    on_ok_weaker c.push.result
    (
    λ h i.
    record (side_of side) {
      numbers = number_more side.nodes (place_of c.args.place.now) (kind_of c.args.kind) c.in-Some.index c.args.number c.in-Some.ensures.found side.numbers c.push.new.self h i;
    }
    )
    c.push.ensures.ok

pub returns-in-Some-clause-others : goal.returns-in-Some-clause-others
returns-in-Some-clause-others g c =
    let side = c.args.self.now in
    on_ok_weaker c.push.result
    (
    λ h.
    numbers_put side c.push.new.self _
    ∙ (λ i. record side { numbers = (h ∙ ap (λ o. joined_under o c.args.number side.numbers) c.in-Some.ensures.found) i })
    )
    c.push.ensures.ok

pub returns-in-Some-clause-err : goal.returns-in-Some-clause-err
returns-in-Some-clause-err g c =
    let side = c.args.self.now in
    on_err_weaker c.push.result (λ h. numbers_put side c.push.new.self _ ∙ (λ i. record side { numbers = h i })) c.push.ensures.err
