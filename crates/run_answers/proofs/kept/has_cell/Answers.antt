-- A value is found exactly where the cell is there.
use Rattle.std.proofs.Common.{Some, None}
use Rattle.run_state.specs.Mirror.{cell_of}
use Rattle.run_answers.proofs.Looked.{cell_is}
use Rattle.run_answers.proofs.kept.has_cell.Goals as goal

pub returns-in-Some : goal.returns-in-Some
returns-in-Some g c = λ kept. cell_is cell_of (c.args.state.now.cells).cells c.args.cell (Some c.in-Some._value.now) c.in-Some.ensures.value

pub returns-in-None : goal.returns-in-None
returns-in-None g c = λ kept. cell_is cell_of (c.args.state.now.cells).cells c.args.cell None c.in-None.ensures.value
