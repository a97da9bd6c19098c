-- What JSON's writer prints of a string.
use Rattle.std.proofs.Common.{ℕ, List, [], ◌∷◌, ◌≡◌}
use Rattle.std.proofs.lemmas.List.{append-nil}
use Rattle.json.specs.Token.{string}
use Rattle.json.specs.Print.{print, print_from, quoted}

-- a string is its quoted text
pub print-string : (s : List ℕ) → print (string s ∷ []) ≡ quoted s
unfolding print_from
print-string s = append-nil (quoted s)

pub ruleset printing = (print-string)
