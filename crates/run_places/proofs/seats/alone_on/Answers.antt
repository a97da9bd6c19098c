use Rattle.std.proofs.Common.{◌∙◌, ap, sym}
use Rattle.std.specs.Prelude.{Some, None, if◌then◌else◌}
use Rattle.run_places.specs.Trails.{place_on}
use Rattle.run_places.proofs.Alone.{alone_seat}
use Rattle.run_places.proofs.seats.alone_on.Goals as goal

pub returns-then-stands_on : goal.returns-then-stands_on
returns-then-stands_on c =
    sym (ap (λ b. if b then Some 0 else None) (sym c.stands_on.ensures ∙ c.if-stands_on.true)) ∙ alone_seat c.args.items.now (place_on c.args.trail.now) c.requires

pub returns-else-stands_on : goal.returns-else-stands_on
returns-else-stands_on c =
    sym (ap (λ b. if b then Some 0 else None) (sym c.stands_on.ensures ∙ c.if-stands_on.false)) ∙ alone_seat c.args.items.now (place_on c.args.trail.now) c.requires
