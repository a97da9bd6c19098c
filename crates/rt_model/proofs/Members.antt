-- Tests that hold, and which numbers a list has after one joins or leaves it.
use Rattle.std.proofs.Common.{ℕ, Bool, true, false, List, [], ◌∷◌, ◌++◌, ◌≡◌, ◌⊎◌, inl, inr, ◌||◌, refl, sym, ap, ◌∙◌, nat_eq}
use Rattle.std.proofs.lemmas.Bool.{eqb-true}
use Rattle.std.specs.Prelude.{if◌then◌else◌}
pub use Rattle.rt_lemmas.proofs.Bools.{or_right, clash, or_left}
pub use Rattle.rt_lemmas.proofs.Numbers.{other_way as turned_round}
use Rattle.rt_model.specs.Lists.{drop_number, has, join}
use Rattle.rt_model.proofs.Maps.{by_test, pick_true, pick_false, eq_same}

pub by_either : {P : Type 0} (a b : Bool) → a || b ≡ true → (a ≡ true → P) → (b ≡ true → P) → P
by_either true b h f g = f refl
by_either false b h f g = g h

-- numbers

pub number_stays : (xs : List ℕ) (n s : ℕ) → nat_eq n s ≡ false → has xs s ≡ true → has (drop_number xs n) s ≡ true
number_stays [] n s other h = h
number_stays (x ∷ xs) n s other h =
    by_test (nat_eq x n)
    (
    λ q.
    let apart : nat_eq x s ≡ false = ap (λ (k : ℕ). nat_eq k s) (eqb-true x n q) ∙ other in
    ap (λ (ys : List ℕ). has ys s) (pick_true (drop_number xs n) (x ∷ drop_number xs n) q)
    ∙ number_stays xs n s other (by_either (nat_eq x s) (has xs s) h (λ g. clash g apart) (λ g. g))
    )
    (
    λ q.
    ap (λ (ys : List ℕ). has ys s) (pick_false (drop_number xs n) (x ∷ drop_number xs n) q)
    ∙ by_either (nat_eq x s) (has xs s) h
    (λ g. or_left (nat_eq x s) (has (drop_number xs n) s) g)
    (λ g. or_right (nat_eq x s) (has (drop_number xs n) s) (number_stays xs n s other g))
    )

pub has_first : (xs ys : List ℕ) (s : ℕ) → has xs s ≡ true → has (xs ++ ys) s ≡ true
has_first [] ys s h = clash h refl
has_first (x ∷ xs) ys s h =
    by_either (nat_eq x s) (has xs s) h
    (λ g. or_left (nat_eq x s) (has (xs ++ ys) s) g)
    (λ g. or_right (nat_eq x s) (has (xs ++ ys) s) (has_first xs ys s g))

pub has_last : (xs : List ℕ) (s : ℕ) → has (xs ++ s ∷ []) s ≡ true
has_last [] s = or_left (nat_eq s s) false (eq_same s)
has_last (x ∷ xs) s = or_right (nat_eq x s) (has (xs ++ s ∷ []) s) (has_last xs s)

pub join_keeps : (xs : List ℕ) (n s : ℕ) → has xs s ≡ true → has (join xs n) s ≡ true
join_keeps xs n s h = keeps (has xs n)
  where
    keeps : (b : Bool) → has (if b then xs else xs ++ n ∷ []) s ≡ true
    keeps true = h
    keeps false = has_first xs (n ∷ []) s h

pub join_has : (xs : List ℕ) (s : ℕ) → has (join xs s) s ≡ true
join_has xs s =
    by_test (has xs s)
    (λ q. ap (λ (ys : List ℕ). has ys s) (pick_true xs (xs ++ s ∷ []) q) ∙ q)
    (λ q. ap (λ (ys : List ℕ). has ys s) (pick_false xs (xs ++ s ∷ []) q) ∙ has_last xs s)

-- what is left after a number was taken out was there, and is another one
pub number_left : (xs : List ℕ) (n s : ℕ) → has (drop_number xs n) s ≡ true → (has xs s ≡ true) × (nat_eq n s ≡ false)
number_left [] n s h = clash h refl
number_left (x ∷ xs) n s h =
    by_test (nat_eq x n)
    (
    λ q.
    let rest = number_left xs n s (sym (ap (λ (ys : List ℕ). has ys s) (pick_true (drop_number xs n) (x ∷ drop_number xs n) q)) ∙ h) in
    (or_right (nat_eq x s) (has xs s) rest.0, rest.1)
    )
    (
    λ q.
    by_either (nat_eq x s) (has (drop_number xs n) s) (sym (ap (λ (ys : List ℕ). has ys s) (pick_false (drop_number xs n) (x ∷ drop_number xs n) q)) ∙ h)
    (
    λ g.
    let same : x ≡ s = eqb-true x s g in
    (or_left (nat_eq x s) (has xs s) g, turned_round s n (ap (λ (k : ℕ). nat_eq k n) (sym same) ∙ q))
    )
    (λ g. let rest = number_left xs n s g in (or_right (nat_eq x s) (has xs s) rest.0, rest.1))
    )

pub number_gone : (xs : List ℕ) (n : ℕ) → has (drop_number xs n) n ≡ false
number_gone xs n =
    by_test (has (drop_number xs n) n)
    (λ q. clash (eq_same n) (number_left xs n n q).1)
    (λ q. q)

has_split : (xs ys : List ℕ) (s : ℕ) → has (xs ++ ys) s ≡ true → (has xs s ≡ true) ⊎ (has ys s ≡ true)
has_split [] ys s h = inr h
has_split (x ∷ xs) ys s h =
    by_either (nat_eq x s) (has (xs ++ ys) s) h
    (λ g. inl (or_left (nat_eq x s) (has xs s) g))
    (λ g. elim (has_split xs ys s g) [ inl a ↦ inl (or_right (nat_eq x s) (has xs s) a) | inr b ↦ inr b ])

-- what is there after a number joined was there, or is that number
pub join_left : (xs : List ℕ) (n s : ℕ) → has (join xs n) s ≡ true → (has xs s ≡ true) ⊎ (n ≡ s)
join_left xs n s h =
    by_test (has xs n)
    (λ q. inl (sym (ap (λ (ys : List ℕ). has ys s) (pick_true xs (xs ++ n ∷ []) q)) ∙ h))
    (
    λ q.
    elim (has_split xs (n ∷ []) s (sym (ap (λ (ys : List ℕ). has ys s) (pick_false xs (xs ++ n ∷ []) q)) ∙ h)) [
      | inl a ↦ inl a
      | inr b ↦ inr (by_either (nat_eq n s) false b (λ g. eqb-true n s g) (λ g. clash g refl))
    ]
    )
