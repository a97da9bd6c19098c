-- From here on the look-up finds what it does from its start.
use Rattle.std.proofs.Common.{◌≡◌, ◌+◌, ◌-◌, length}
use Rattle.rt_model.specs.Program.{looked_up}
use Rattle.run_records.specs.Records.{given_of, world_of}
use Rattle.author_calls.specs.Calls.{call_of}
use Rattle.author_calls.proofs.cx.Cx.look_up.Given as goal

abbrev pub invariant-loop-steps : goal.invariant-loop-steps
invariant-loop-steps g l = record {
  rest :
      looked_up (world_of l.fn.self.world) l.kind (length (given_of l.fn.self.world).parents + 1 - l._steps) l.scope.0 (call_of l.self)
      ≡ looked_up (world_of l.fn.self.world) l.kind (length (given_of l.fn.self.world).parents + 1) l.fn.from.0 (call_of l.fn.self);
  fault : l.self.fault ≡ l.fn.self.fault;
  world : l.self.world ≡ l.fn.self.world;
}
