-- The root wrapper alone.
use Rattle.std.proofs.Common.{◌≡◌, subst}
use Rattle.run_records.specs.Records.{firsts_of}
use Rattle.rt_model.specs.Replay.{first_state}
use Rattle.run_state.specs.Mirror.{at_first, state_of}
use Rattle.run_machine.proofs.machine.Machine.start_from.Goals as goal

pub returns-clause-state : goal.returns-clause-state
returns-clause-state g c =
    subst (λ r. state_of at_first c.add_root.new.self ≡ first_state r c.args.props (firsts_of c.args.firsts)) c.in_ok-root.ensures.means
    (c.in_ok-add_root.ensures _ c.in_ok-scopes.ensures.empty)
