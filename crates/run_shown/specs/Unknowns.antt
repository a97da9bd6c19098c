-- For which child scopes at the top no nodes were given.
use Rattle.std.specs.Prelude.{ℕ, nat_eq, ◌-◌, if◌then◌else◌, Bool, List, [], ◌∷◌, length, slice_get, Option, Some, None}
use Rattle.std.specs.List.{list_any}
use Rattle.run_shown.specs.declared.asked.GivenRows.{GivenRows}
use Rattle.run_shown.specs.declared.pieces.Top.{Top}
use Rattle.run_shown.specs.declared.pieces.Top.TheVariants as top

-- whether nodes were given for a scope
abbrev pub is_given : GivenRows → ℕ → Bool
is_given given t = list_any (λ r. nat_eq r.0 t) given.rows

-- the child scope that stands there, if none were given for it
abbrev pub unknown_in : GivenRows → Top → Option ℕ
unknown_in given (top.Own n) = None
unknown_in given (top.Child t) = if is_given given t then None else Some t

-- this one, or else another
abbrev pub or_next : Option ℕ → Option ℕ → Option ℕ
or_next None next = next
or_next (Some t) next = Some t

-- the first of them at the top
abbrev pub first_in : GivenRows → List Top → Option ℕ
first_in given [] = None
first_in given (p ∷ ps) = or_next (unknown_in given p) (first_in given ps)

-- the one that stands there, if anything does
abbrev pub unknown_of : GivenRows → Option Top → Option ℕ
unknown_of given None = None
unknown_of given (Some p) = unknown_in given p

-- the one at the end of the top
abbrev pub last_in : GivenRows → List Top → Option ℕ
last_in given ps = unknown_of given (slice_get ps (length ps - 1))
