-- A component that stays is fed, and the one that the side knows goes to it.
use Rattle.std.proofs.Common.{◌∙◌, [], ◌∷◌, ◌++◌, ap, sym}
use Rattle.std.proofs.lemmas.Result.{on_ok_weaker}
use Rattle.run_places.specs.Places.{place_of}
use Rattle.run_places.specs.Trails.{place_on, steps_of}
use Rattle.run_work.specs.After.{goes_to}
use Rattle.run_work.specs.Grounds.{known_or}
use Rattle.run_work.proofs.Founding.{seat_fed, seat_place_is}
use Rattle.run_work.proofs.patched.Patched.feed.Goals as goal

pub returns : goal.returns
returns g c =
    let ground = c.args.ground.now in
    let place = ap (λ s. place_of s) (c.in_ok-place-2.ensures.same ∙ c.in_ok-place.ensures ∙ ap (λ o. known_or o (steps_of c.args.trail.now)) c.seat_place.ensures)
    ∙ seat_place_is ground.side.now (steps_of c.args.trail.now) c.index_on-known.result c.index_on-known.ensures.found in
    on_ok_weaker c.push.result
    (λ more. seat_fed ground c.args.self.now (place_on c.args.trail.now) c.args.was.now c.args.component.now c.index_on-known.result c.in_ok-place-2.place c.in_ok-component.component _ c.add_seat.new.seats c.go_to.new.to
    c.index_on-known.ensures.found place c.in_ok-component.ensures (c.go_to.ensures ∙ ap (λ n. goes_to c.args.self.now.seats_to c.index_on-known.result n) c.len.ensures.items)
    (c.in_ok-place-2.ensures.more ∙ ap (λ s. c.args.self.now.seats ++ s ∷ []) (sym c.in_ok-place-2.ensures.same)) more)
    c.push.ensures.ok
