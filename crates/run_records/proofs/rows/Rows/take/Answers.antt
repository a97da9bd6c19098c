-- What is taken out leaves the other rows.
use Rattle.std.proofs.Common.{ap, ◌∙◌}
use Rattle.run_records.specs.World.{rows_in}
use Rattle.run_records.proofs.RowsAt.{row-without}
use Rattle.run_records.proofs.rows.Rows.take.Goals as goal

pub returns-clause-others : goal.returns-clause-others
returns-clause-others g c = ap (λ rows. rows_in rows) c.take.ensures.others ∙ row-without c.args.self.now.table c.args.id.0
