-- By the cell that was found.
use Rattle.run_answers.proofs.CellValues.{cell_value}
use Rattle.run_answers.proofs.kept.value_of.Goals as goal

pub returns : goal.returns
returns g c =
    record {
      value = λ kept. cell_value _ _ _ _ _ _ _ (c.args.state.now.cells).cells c.args.cell _ c.get.ensures.value;
    }
