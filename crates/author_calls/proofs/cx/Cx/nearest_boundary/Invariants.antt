-- From here on the climb ends where it does from its start; the rows ascend.
use Rattle.std.proofs.Common.{◌≡◌, ◌-◌, length}
use Rattle.rt_model.specs.Program.{boundary_above, nearest_boundary}
use Rattle.run_records.specs.Records.{given_of}
use Rattle.author_calls.proofs.cx.Cx.nearest_boundary.Given as goal

abbrev pub invariant-loop-steps : goal.invariant-loop-steps
invariant-loop-steps g l = boundary_above (given_of l.self.world) (length (given_of l.self.world).parents - l._steps) l.scope.0 ≡ nearest_boundary (given_of l.self.world)
