use Rattle.std.proofs.Common.{rules, refl}
use Rattle.run_records.specs.Kept.{scope_of}
use Rattle.run_places.specs.Places.{kind_of, place_of, side_name_of}
use Rattle.run_state.specs.Sides.{more_number}
use Rattle.run_state.proofs.Placed.{put_told}
use Rattle.run_state.proofs.Unchanged.{table_stays}
use Rattle.run_state.proofs.joining.put_number.Goals as goal

pub returns-clause-put : goal.returns-clause-put
returns-clause-put g c =
    put_told c.change.result _ scope_of (λ x. more_number (side_name_of c.args.side) (place_of c.args.place.now, kind_of c.args.kind, c.args.number) x) c.args.rows.now c.change.new.self c.args.scope c.change.ensures.changed
    (λ x y ret. search rules)

pub returns-clause-err : goal.returns-clause-err
returns-clause-err g c = table_stays c.change.result _ c.args.rows.now c.change.new.self c.args.scope _ refl c.change.ensures.absent c.change.ensures.changed (λ x y ret. search rules)
