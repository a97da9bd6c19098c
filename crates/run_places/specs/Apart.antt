-- Lists in which nothing stands twice.
use Rattle.std.specs.Prelude.{ℕ, List, Some, slice_get, ◌≡◌}

-- what stands at two indices stands at one
abbrev pub Apart : {A : Type 0} → List A → Type 0
Apart {A} xs = (i j : ℕ) (x : A) → slice_get xs i ≡ Some x → slice_get xs j ≡ Some x → i ≡ j
