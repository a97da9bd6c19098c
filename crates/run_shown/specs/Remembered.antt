-- What is remembered of scopes, under their numbers.
use Rattle.std.specs.Prelude.{ℕ, List, [], ◌∷◌, Option, Some, None}
use Rattle.run_shown.specs.declared.remembered.Held.{Held}
use Rattle.run_shown.specs.declared.remembered.Held.TheVariants as helds

-- what was, where something is remembered
abbrev pub was_in : {A : Type 0} → Option (Option A) → Option A
was_in None = None
was_in (Some was) = was

module _ {T : Type 0} where
  -- the rows, in the order in which they were put in
  abbrev pub rows_held : Held T → List (ℕ × Option T)
  rows_held helds.None = []
  rows_held (helds.One row) = row ∷ []
  rows_held (helds.Many rows) = rows
