-- What was made of what may lack memory.
use Rattle.std.specs.Prelude.{◌≡◌, Result, Ok}

module _ {A E : Type 0} where
  -- it was had, and this holds of it
  abbrev pub Had : Result A E → (A → Type 0) → Type 0
  Had one holds = (x : A) × ((one ≡ Ok x) × holds x)

module _ {A B E : Type 0} where
  -- both were had, and this holds of them
  abbrev pub HadBoth : Result A E → Result B E → (A → B → Type 0) → Type 0
  HadBoth left right holds = (x : A) × ((y : B) × ((left ≡ Ok x) × ((right ≡ Ok y) × holds x y)))
