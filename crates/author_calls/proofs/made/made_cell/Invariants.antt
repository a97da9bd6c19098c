-- The value that the commands so far give the cell.
use Rattle.std.proofs.Common.{◌≡◌, [], take}
use Rattle.std.specs.Option.{option_copied}
use Rattle.rt_model.specs.Lists.{at}
use Rattle.run_records.specs.Records.{gathered}
use Rattle.author_calls.specs.Calls.{and_cell}
use Rattle.author_calls.proofs.made.made_cell.Given as goal

abbrev pub invariant-loop-command : goal.invariant-loop-command
invariant-loop-command g l = option_copied l.made ≡ at (gathered and_cell (take l.command-index l.commands) []) l.cell
