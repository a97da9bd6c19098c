use Rattle.std.proofs.Common.{arith}
use Rattle.std.proofs.lemmas.Bool.Decides.{nat_tests}
use Rattle.run_table.proofs.Lives.{last-below, none-last}
use Rattle.run_table.proofs.shelf.is_above.Goals as goal

pub returns-in-Some : goal.returns-in-Some
returns-in-Some g c = λ less. last-below c.args.rows.now c.args.number c.in-Some.last c.in-Some.ensures.item (grind (arith, nat_tests, less))

pub returns-in-None : goal.returns-in-None
returns-in-None g c = λ _. none-last c.args.rows.now c.args.number c.in-None.ensures.item
