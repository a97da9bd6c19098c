use Rattle.std.proofs.Common.{◌∙◌, ap, sym}
use Rattle.std.specs.Prelude.{Some, None, if◌then◌else◌}
use Rattle.run_places.specs.Places.{place_of}
use Rattle.run_places.proofs.Alone.{alone_seat}
use Rattle.run_places.proofs.seats.alone_at.Goals as goal

pub returns-then-is_at : goal.returns-then-is_at
returns-then-is_at c =
    sym (ap (λ b. if b then Some 0 else None) (sym c.is_at.ensures ∙ c.if-is_at.true)) ∙ alone_seat c.args.items.now (place_of c.args.place.now) c.requires

pub returns-else-is_at : goal.returns-else-is_at
returns-else-is_at c =
    sym (ap (λ b. if b then Some 0 else None) (sym c.is_at.ensures ∙ c.if-is_at.false)) ∙ alone_seat c.args.items.now (place_of c.args.place.now) c.requires
