-- What stands at a place.
use Rattle.std.proofs.Common.{ℕ, zero, suc, List, [], ◌∷◌, ◌≡◌, refl, slice_get, map}
use Rattle.std.specs.Prelude.{option_map}
use Rattle.rt_model.specs.Lists.{nth}

pub nth-get : {A : Type 0} (xs : List A) (i : ℕ) → nth xs i ≡ slice_get xs i
nth-get [] i = refl
nth-get (x ∷ xs) zero = refl
nth-get (x ∷ xs) (suc i) = nth-get xs i

pub nth-map : {A B : Type 0} (f : A → B) (xs : List A) (i : ℕ) → nth (map f xs) i ≡ option_map f (nth xs i)
nth-map f [] i = refl
nth-map f (x ∷ xs) zero = refl
nth-map f (x ∷ xs) (suc i) = nth-map f xs i

pub ruleset placed = (nth-get, nth-map)
