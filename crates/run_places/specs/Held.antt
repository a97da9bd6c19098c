-- The numbers that were drawn, wherever they are kept.
use Rattle.std.specs.Prelude.{ℕ, List, [], ◌∷◌}
use Rattle.run_places.specs.declared.drawn.Kept.{Kept}
use Rattle.run_places.specs.declared.drawn.Kept.TheVariants as kept

-- none, one alone, or those of a counted owner
abbrev pub pairs_in : Kept → List (ℕ × ℕ)
pairs_in kept.None = []
pairs_in (kept.One pair) = pair ∷ []
pairs_in (kept.Many pairs) = pairs.value
