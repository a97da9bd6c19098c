-- The rest of the rows names the scope where the whole does.
use Rattle.std.proofs.Common.{◌≡◌, drop}
use Rattle.rt_model.specs.Lists.{has}
use Rattle.run_records.specs.World.{boundaries_in}
use Rattle.run_records.proofs.rows.is_boundary_in.Given as goal

abbrev pub invariant-loop-entry : goal.invariant-loop-entry
invariant-loop-entry g l = has (boundaries_in (drop l.entry-index l.scopes)) l.number ≡ has (boundaries_in l.scopes) l.number
