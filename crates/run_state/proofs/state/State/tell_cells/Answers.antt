use Rattle.std.proofs.Common.{◌∙◌}
use Rattle.run_state.specs.Mirror.{state_of}
use Rattle.run_state.proofs.Removed.{cells_step, cells_end}
use Rattle.run_state.proofs.state.State.tell_cells.Goals as goal

pub loop-cell-preserved : goal.loop-cell-preserved
loop-cell-preserved g c = λ kept.
    cells_step c.args.cells.now c.loop-cell.cell-index 0 (state_of kept c.loop-cell.self) (state_of kept c.tell.new.self) c.loop-cell-test.true
    (c.in_ok-tell.ensures.told kept)
    ∙ c.loop-cell.invariant kept

pub returns : goal.returns
returns g c = λ kept. cells_end c.args.cells.now c.loop-cell.cell-index _ _ c.loop-cell-test.false (c.loop-cell.invariant kept)
