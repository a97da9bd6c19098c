-- The rows are the scopes of each state that has these.
use Rattle.std.proofs.Common.{ap, length, refl}
use Rattle.run_shown.proofs.Standing.{shows_rows}
use Rattle.run_shown.proofs.look.Look.now.Goals as goal

pub returns : goal.returns
returns g c = record { each = λ s. refl; shows = λ w is. shows_rows _ (c.args.rows.now).table (λ s. refl) (ap length c.as_slice.ensures.rows) w is }
