-- What the names of a source stand for.
use Rattle.std.specs.Prelude.{ℕ, List, [], ◌∷◌, ◌+◌, Option, Some, None, if◌then◌else◌, bytes_eq}
use Rattle.lang_expressions.specs.declared.signatures.Signature.{Signature}

-- the place of what has a name, counted from a place on, and how many params it has
abbrev pub signature_from : ℕ → List ℕ → List Signature → Option (ℕ × ℕ)
signature_from at name [] = None
signature_from at name (next ∷ signatures) = if bytes_eq next.name name then Some (at, next.params)
    else signature_from (at + 1) name signatures

-- the place from 0 of what has a name, and how many params it has
unfoldable pub signature_of : List Signature → List ℕ → Option (ℕ × ℕ)
signature_of signatures name = signature_from 0 name signatures
