-- It shows what was kept, and of other scopes what stands.
use Rattle.std.proofs.Common.{refl}
use Rattle.run_shown.proofs.Standing.{shows_stood}
use Rattle.run_shown.proofs.look.Look.before.Goals as goal

pub returns : goal.returns
returns g c =
    record {
      each = λ scope. refl;
      stood = refl;
      count = refl;
      shows = λ w stands is. shows_stood _ (c.args.rows.now).table c.args.stood.now c.args.scopes (λ s. refl) refl w stands is;
    }
