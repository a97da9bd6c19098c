-- Which numbers stand in lists that are put together.
use Rattle.std.proofs.Common.{ℕ, true, false, List, [], ◌∷◌, ◌++◌, ◌≡◌, refl, nat_eq}
use Rattle.rt_model.specs.Lists.{has}
use Rattle.rt_model.proofs.Members.{by_either, clash, or_left, or_right}
pub use Rattle.rt_model.proofs.Members.{has_first}

-- what stands in one of two lists, by which
pub by_part : {P : Type 0} (xs ys : List ℕ) (s : ℕ) → has (xs ++ ys) s ≡ true → (has xs s ≡ true → P) → (has ys s ≡ true → P) → P
by_part [] ys s h f g = g h
by_part (x ∷ xs) ys s h f g =
    by_either (nat_eq x s) (has (xs ++ ys) s) h
    (λ q. f (or_left (nat_eq x s) (has xs s) q))
    (λ q. by_part xs ys s q (λ r. f (or_right (nat_eq x s) (has xs s) r)) g)

-- the only number of a list of one
pub has_only : {P : Type 0} (n s : ℕ) → has (n ∷ []) s ≡ true → (nat_eq n s ≡ true → P) → P
has_only n s h f = by_either (nat_eq n s) false h f (λ g. clash g refl)
