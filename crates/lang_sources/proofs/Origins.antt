-- Where what was read came from.
use Rattle.std.proofs.Common.{◌≡◌, Bool, true, false, Option, Some, None, option_map, option_and_then, if◌then◌else◌, refl}
pub use Rattle.rt_lemmas.proofs.Options.{some_same as same, none_is}

-- what was mapped
pub mapped : {A B : Type 0} (f : A → B) (o : Option A) (y : B) → option_map f o ≡ Some y → (x : A) × ((o ≡ Some x) × (f x ≡ y))
mapped f None y h = none_is y h
mapped f (Some x) y h = (x, (refl, same (f x) y h))

-- what came first
pub first : {A B : Type 0} (f : A → Option B) (o : Option A) (y : B) → option_and_then f o ≡ Some y → (x : A) × ((o ≡ Some x) × (f x ≡ Some y))
first f None y h = none_is y h
first f (Some x) y h = (x, (refl, h))

-- what held
pub held : {A : Type 0} (b : Bool) (o : Option A) (y : A) → (if b then o else None) ≡ Some y → (b ≡ true) × (o ≡ Some y)
held true o y h = (refl, h)
held false o y h = none_is y h
