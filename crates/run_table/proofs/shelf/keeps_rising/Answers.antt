use Rattle.run_table.proofs.Lives.{rises-pushed}
use Rattle.run_table.proofs.shelf.keeps_rising.Goals as goal

pub returns-then-rising : goal.returns-then-rising
returns-then-rising g c = λ above value. rises-pushed c.args.rows.now c.args.number value (c.is_above.ensures above) (c.requires.rises c.if-rising.true)

pub returns : goal.returns
returns g c = λ so value. absurd (cc so)
