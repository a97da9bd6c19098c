use Rattle.std.proofs.Common.{◌≡◌}
use Rattle.run_state.proofs.state.State.is_shown.Goals as goal

pub returns : goal.returns
returns g c = λ kept. c.shows.ensures
