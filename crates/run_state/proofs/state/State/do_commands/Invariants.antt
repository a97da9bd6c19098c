use Rattle.std.proofs.Common.{◌≡◌, ◌++◌, length, map}
use Rattle.std.specs.Vec.Iter.{into_iter_items, into_iter_len}
use Rattle.rt_model.specs.OneLog.{types}
use Rattle.rt_model.specs.World.{Application}
use Rattle.rt_model.specs.Laws.{Tests}
use Rattle.rt_model.specs.Commands.{commands}
use Rattle.run_records.specs.Records.{command_of}
use Rattle.run_state.specs.Anew.{left_of}
use Rattle.run_state.specs.Mirror.{state_of}
use Rattle.run_state.proofs.state.State.do_commands.Given as goal

abbrev pub invariant-loop-command : goal.invariant-loop-command
invariant-loop-command g l = record {
  done : (app : Application (types _ _ _ _ _ _ _)) → Tests _ app.same_value → (kept : _) →
      commands app (state_of kept l.self) l.scope l.polled (left_of l.left ++ map command_of (into_iter_items l.command-iterator)) ≡ commands app (state_of kept l.fn.self) l.scope l.polled (map command_of l.fn.commands);
  count : into_iter_len l.command-iterator ≡ length (into_iter_items l.command-iterator);
}
