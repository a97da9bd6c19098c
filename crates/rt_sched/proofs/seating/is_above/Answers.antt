use Rattle.std.proofs.Common.{◌<◌, arith}
use Rattle.std.proofs.lemmas.Bool.Decides.{nat_tests}
use Rattle.rt_sched.proofs.seating.is_above.Goals as goal

pub returns-in-Some : goal.returns-in-Some
returns-in-Some c = λ less k d ends. let is = c.in-Some.ensures.last k d ends in let low : c.in-Some.last < c.args.number = grind (arith, nat_tests, less) in omega (arith, is, low)

pub returns-in-None : goal.returns-in-None
returns-in-None c = λ _ k d ends. absurd (omega (arith, ends, c.in-None.ensures.none))
