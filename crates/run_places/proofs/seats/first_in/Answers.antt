-- The first one at a place is the first one at an index that its key names.
use Rattle.std.proofs.Common.{◌∙◌, sym, ap}
use Rattle.run_places.specs.Keys.{picks}
use Rattle.run_places.specs.Places.{place_of}
use Rattle.run_places.proofs.Hits.{among_seats, first_in_seats, seat_found}
use Rattle.run_places.proofs.seats.first_in.Goals as goal

pub key_run-run-requires : goal.key_run-run-requires
key_run-run-requires c = record { ascending = c.requires.ascending }

pub returns : goal.returns
returns c =
    let seats = c.args.items.now in
    let p = place_of c.args.place.now in
    c.first_at.ensures
    ∙ among_seats seats p c.key_run-run.result.now
    ∙ ap (λ is. first_in_seats seats p is)
    (c.key_run-run.ensures.indices ∙ ap (λ key. picks key c.args.sorted.now) c.key_from.ensures ∙ c.requires.each _)
    ∙ sym (seat_found c.args.place.now seats)
