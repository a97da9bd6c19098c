-- The least of the entered scopes is the least of the live ones.
use Rattle.std.proofs.Common.{◌∙◌}
use Rattle.run_state.proofs.Entered.{seen_least}
use Rattle.run_state.proofs.state.State.first_seen.Goals as goal

pub returns : goal.returns
returns g c = λ kept. c.first_seen.ensures.first ∙ seen_least kept c.args.self.now
