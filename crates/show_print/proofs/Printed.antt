-- What JSON's writer prints of one token.
use Rattle.std.proofs.Common.{ℕ, List, [], ◌∷◌, ◌≡◌}
use Rattle.std.proofs.lemmas.List.{append-nil}
use Rattle.json.specs.Token.{string, number}
use Rattle.json.specs.Print.{print, print_from, quoted}

-- a string is its quoted text
pub print-string : (s : List ℕ) → print (string s ∷ []) ≡ quoted s
unfolding print_from
print-string s = append-nil (quoted s)

-- a number is its digits
pub print-number : (s : List ℕ) → print (number s ∷ []) ≡ s
unfolding print_from
print-number s = append-nil s

pub ruleset printing = (print-string, print-number)
