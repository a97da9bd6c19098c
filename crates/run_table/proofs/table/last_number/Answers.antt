use Rattle.std.proofs.Common.{ap, sym, arith}
use Rattle.run_table.proofs.table.last_number.Goals as goal

pub returns-in-Some-clause-last : goal.returns-in-Some-clause-last
returns-in-Some-clause-last g c = λ d. ap (λ p. p.0) (sym (c.in-Some.ensures.item.3.1 d))

pub returns-in-None-clause-none : goal.returns-in-None-clause-none
returns-in-None-clause-none g c = omega (arith, c.in-None.ensures.item.3)
