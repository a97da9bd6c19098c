-- The component that was guessed, or else the one that its key names.
use Rattle.std.proofs.Common.{◌∙◌, ap, sym}
use Rattle.run_places.specs.Indexed.{is_seat_at}
use Rattle.run_places.specs.Trails.{place_on}
use Rattle.run_places.proofs.Guessed.{seat_guessed}
use Rattle.run_places.proofs.seats.Seats.index_on.Goals as goal

pub returns-then-stands_on-clause-found : goal.returns-then-stands_on-clause-found
returns-then-stands_on-clause-found c =
    let p = place_on c.args.trail.now in
    let guess = c.item_on-guess.result in
    rw (← c.self.view_is)
    (seat_guessed c.self.inside.items p guess c.self.invariant.1
    (ap (λ xs. is_seat_at xs p guess) (sym c.as_slice.ensures.items) ∙ sym c.stands_on.ensures ∙ c.if-stands_on.true))

pub returns-then-stands_on-clause-apart : goal.returns-then-stands_on-clause-apart
returns-then-stands_on-clause-apart c = rw (← c.self.view_is) c.self.invariant.1
