use Rattle.std.proofs.Common.{rules, ◌≡◌, ◌++◌}
use Rattle.show_logs.proofs.Numbers.{numbered_on}
use Rattle.show_logs.proofs.words.numbered.Goals as goal

pub returns-in-Some : goal.returns-in-Some
returns-in-Some c =
    let begins : c.args.word.now ≡ c.args.name.now ++ c.in-Some.digits.now = search rules in
    record { number = numbered_on c.args.word.now c.args.name.now c.in-Some.digits.now c.number_of.result begins c.number_of.ensures.number }

pub returns-in-None : goal.returns-in-None
returns-in-None c = record { number = λ n small is. c.in-None.ensures.cases _ is }
