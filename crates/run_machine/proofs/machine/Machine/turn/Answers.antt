use Rattle.rt_scopes.proofs.KnownLeft.{knows_none}
use Rattle.run_state.specs.Mirror.{state_of}
use Rattle.run_machine.proofs.machine.Machine.turn.Goals as goal

pub turn_knowing-requires : goal.turn_knowing-requires
turn_knowing-requires g c = record { knows = λ kept. knows_none (state_of kept c.args.self.now.scopes.state) c.new-known.result.rows.items c.new-known.ensures.empty }
