-- A child is made for a component that comes.
use Rattle.std.proofs.Common.{◌∙◌, [], ◌∷◌, ◌++◌, ap, sym}
use Rattle.std.proofs.lemmas.Result.{on_ok_weaker}
use Rattle.run_places.specs.Places.{place_of}
use Rattle.run_places.specs.Trails.{place_on}
use Rattle.run_work.proofs.Founding.{seat_made}
use Rattle.run_work.proofs.patched.Patched.make.Goals as goal

pub returns : goal.returns
returns g c =
    on_ok_weaker c.push.result
    (λ more. seat_made c.args.ground.now c.args.self.now (place_on c.args.trail.now) c.args.component.now c.in_ok-place.place c.in_ok-component.component _ c.add_seat.new.seats
    (ap (λ s. place_of s) (c.in_ok-place.ensures.same ∙ c.in_ok-place_on.ensures)) c.in_ok-component.ensures
    (c.in_ok-place.ensures.more ∙ ap (λ s. c.args.self.now.seats ++ s ∷ []) (sym c.in_ok-place.ensures.same)) more)
    c.push.ensures.ok
