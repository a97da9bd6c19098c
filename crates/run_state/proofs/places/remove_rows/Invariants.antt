use Rattle.std.proofs.Common.{◌≡◌, length}
use Rattle.rt_model.specs.Lists.{without}
use Rattle.run_records.specs.Kept.{each, scope_of}
use Rattle.run_named.specs.Standings.{IsPlaced}
use Rattle.run_state.proofs.places.remove_rows.Given as goal

abbrev pub invariant-loop-row : goal.invariant-loop-row
invariant-loop-row g l = record {
  rows : without l.rows l.scope ≡ without l.initial.rows l.scope;
  placed : IsPlaced (each scope_of l.initial.rows) l.initial.places → IsPlaced (each scope_of l.rows) l.places;
}

abbrev pub decreases-loop-row : goal.decreases-loop-row
decreases-loop-row g l = length l.rows
