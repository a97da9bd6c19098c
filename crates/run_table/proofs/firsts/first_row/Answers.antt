-- The index that is listed is that of the first row.
use Rattle.std.proofs.Common.{◌∙◌}
use Rattle.run_table.proofs.Listed.{listed-row}
use Rattle.run_table.proofs.firsts.first_row.Goals as goal

pub returns-then-listed : goal.returns-then-listed
returns-then-listed g c =
    listed-row c.args.rows.now c.args.number c.listed_index.result (c.listed_index.ensures ∙ c.requires.lists c.if-listed.true c.args.number)
