use Rattle.std.proofs.Common.{◌∙◌, ◌<◌, ◌≤◌, length, arith, sym, ap, subst}
use Rattle.run_places.specs.Indexed.{first_of_seats, seat_index}
use Rattle.run_places.specs.Keys.{picks}
use Rattle.run_places.specs.Trails.{place_on, steps_of}
use Rattle.run_places.proofs.Hits.{among_seats, first_in_seats, seat_found}
use Rattle.run_places.proofs.seats.Seats.found_on.Goals as goal

pub key_run-run-requires : goal.key_run-run-requires
key_run-run-requires c = let is = c.as_slice-2.ensures.items in record { ascending = rw is (c.self.invariant.0 (let many : 1 < length c.self.inside.items = omega (arith, c.if-len-le-ALONE.false, c.len.ensures.items) in many)).ascending }

pub returns-clause-found : goal.returns-clause-found
returns-clause-found c =
    let seats = c.self.inside.items in
    let p = place_on c.args.trail.now in
    rw (← c.self.view_is)
    (c.first_on.ensures
    ∙ ap (λ xs. first_of_seats xs p c.key_run-run.result.now) c.as_slice-3.ensures.items
    ∙ among_seats seats p c.key_run-run.result.now
    ∙ ap (λ is. first_in_seats seats p is)
    (c.key_run-run.ensures.indices ∙ (λ i. picks (c.steps_key_on.ensures i) (c.as_slice-2.ensures.items i)) ∙ (c.self.invariant.0 (let many : 1 < length c.self.inside.items = omega (arith, c.if-len-le-ALONE.false, c.len.ensures.items) in many)).each _)
    ∙ sym (seat_found (steps_of c.args.trail.now) seats))

pub returns-clause-apart : goal.returns-clause-apart
returns-clause-apart c = rw (← c.self.view_is) c.self.invariant.1

-- one alone is looked at
pub alone_on-requires : goal.alone_on-requires
alone_on-requires c =
    let few : length c.self.inside.items ≤ 1 = omega (arith, c.if-len-le-ALONE.true, c.len.ensures.items) in
    subst (λ xs. length xs ≤ 1) (sym c.as_slice.ensures.items) few

pub returns-then-len-le-ALONE-clause-found : goal.returns-then-len-le-ALONE-clause-found
returns-then-len-le-ALONE-clause-found c = rw (← c.self.view_is) (c.alone_on.ensures ∙ ap (λ xs. seat_index xs (place_on c.args.trail.now)) c.as_slice.ensures.items)

pub returns-then-len-le-ALONE-clause-apart : goal.returns-then-len-le-ALONE-clause-apart
returns-then-len-le-ALONE-clause-apart c = rw (← c.self.view_is) c.self.invariant.1
