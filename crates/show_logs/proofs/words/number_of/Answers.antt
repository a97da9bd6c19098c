use Rattle.std.proofs.Common.{rules, ◌≡◌, ℕ, true, false, Ok}
use Rattle.show_logs.proofs.Numbers.{unread, misread, printed}
use Rattle.show_logs.proofs.words.number_of.Goals as goal

pub returns-in_default : goal.returns-in_default
returns-in_default c =
    let none : (n : ℕ) → c.parse.result ≡ Ok n → ⊥ = search rules in
    record { number = unread c.args.digits.now c.parse.result none c.parse.ensures.value.0 }

pub returns-then-same : goal.returns-then-same
returns-then-same c =
    let holds : c.in_ok-same.same ≡ true = search rules in
    record { number = (printed c.args.digits.now c.in-Ok.number c.in_ok-same.same c.in_ok-same.ensures.printed holds, search rules) }

pub returns-else-same : goal.returns-else-same
returns-else-same c =
    let other : c.in_ok-same.same ≡ false = search rules in
    let found : c.parse.result ≡ Ok c.in-Ok.number = search rules in
    record { number = misread c.args.digits.now c.in-Ok.number c.parse.result c.in_ok-same.same found c.parse.ensures.value.0 c.in_ok-same.ensures.printed other }
