-- Values that are there, or none.
use Rattle.std.proofs.Common.{None, Some, false, not, refl, true, ◌≡◌}
use Rattle.std.specs.Prelude.{Option, is_some}

-- two values that are there alike are one
pub some_same : {A : Type 0} (x y : A) → Some x ≡ Some y → x ≡ y
some_same x y h = cc

-- what is denied to be there is none
pub not_some : {A : Type 0} (o : Option A) → not (is_some o) ≡ true → o ≡ None
not_some None h = refl
not_some (Some a) h = cc

-- what tests as not there is none
pub none_of : {A : Type 0} (o : Option A) → is_some o ≡ false → o ≡ None
none_of None h = refl
none_of (Some a) h = cc

-- two values that are there alike are one
pub some_is : {A : Type 0} {a b : A} → Some a ≡ Some b → a ≡ b
some_is h = cc

-- none is no value
pub none_some : {A : Type 0} {P : Type 0} {a : A} → None ≡ Some a → P
none_some h = cc

-- none is no value
pub none_is : {A C : Type 0} (x : A) → None ≡ Some x → C
none_is x h = cc

-- by whether a value is there
pub by_option : {A : Type 0} {R : Type 0} (o : Option A) → (o ≡ None → R) → ((a : A) → o ≡ Some a → R) → R
by_option None f g = f refl
by_option (Some a) f g = g a refl

-- what tests as there is there
pub some_of : {A : Type 0} (o : Option A) → is_some o ≡ true → (a : A) × (o ≡ Some a)
some_of None h = cc
some_of (Some a) h = (a, refl)
