use Rattle.std.proofs.Common.{◌≡◌, drop}
use Rattle.rt_model.specs.Removal.{tell_all, cell_sources}
use Rattle.run_state.specs.Mirror.{state_of}
use Rattle.run_state.proofs.state.State.tell_cells.Given as goal

abbrev pub invariant-loop-cell : goal.invariant-loop-cell
invariant-loop-cell g l = (kept : _) → tell_all (state_of kept l.self) (cell_sources (drop l.cell-index l.cells)) ≡ tell_all (state_of kept l.fn.self) (cell_sources l.cells)
