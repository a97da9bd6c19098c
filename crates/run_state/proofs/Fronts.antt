-- Two lists with the same front.
use Rattle.std.proofs.Common.{◌≡◌, ℕ, zero, suc, ◌+◌, ◌<◌, ◌≤◌, List, [], ◌∷◌, length, get_or, take, refl, ap, sym, ◌∙◌, arith}
use Rattle.std.specs.Prelude.{remove}

-- a list whose front is that of a long one is as long
pub front_long : (k : ℕ) (xs ys : List ℕ) → take k xs ≡ take k ys → k ≤ length ys → k ≤ length xs
front_long zero xs ys same long = omega arith
front_long (suc k) xs [] same long = absurd (omega (arith, long))
front_long (suc k) [] (y ∷ ys) same long = absurd (cc same)
front_long (suc k) (x ∷ xs) (y ∷ ys) same long =
    let rest : k ≤ length xs = front_long k xs ys (ap (λ (ns : List ℕ). tail ns) same) (omega (arith, long)) in
    omega (arith, rest)
  where
    tail : List ℕ → List ℕ
    tail [] = []
    tail (n ∷ ns) = ns

-- the last number of the front is the same
same_last : (i : ℕ) (xs ys : List ℕ) → take (suc i) xs ≡ take (suc i) ys → get_or xs i 0 ≡ get_or ys i 0
same_last i [] [] same = refl
same_last i [] (y ∷ ys) same = absurd (cc same)
same_last i (x ∷ xs) [] same = absurd (cc same)
same_last zero (x ∷ xs) (y ∷ ys) same = ap (λ (ns : List ℕ). get_or ns 0 0) same
same_last (suc i) (x ∷ xs) (y ∷ ys) same = same_last i xs ys (ap (λ (ns : List ℕ). tail ns) same)
  where
    tail : List ℕ → List ℕ
    tail [] = []
    tail (n ∷ ns) = ns

pub front_read : (i k : ℕ) (xs ys : List ℕ) → k ≡ i + 1 → take k xs ≡ take k ys → get_or xs i 0 ≡ get_or ys i 0
front_read i k xs ys is same =
    let next : suc i ≡ k = omega (arith, is) in
    same_last i xs ys (ap (λ n. take n xs) next ∙ same ∙ ap (λ n. take n ys) (sym next))

-- a shorter front is the same, too
shorter : (i : ℕ) (xs ys : List ℕ) → take (suc i) xs ≡ take (suc i) ys → take i xs ≡ take i ys
shorter zero xs ys same = refl
shorter (suc i) [] [] same = refl
shorter (suc i) [] (y ∷ ys) same = absurd (cc same)
shorter (suc i) (x ∷ xs) [] same = absurd (cc same)
shorter (suc i) (x ∷ xs) (y ∷ ys) same =
    λ j. ap (λ (ns : List ℕ). get_or ns 0 0) same j ∷ shorter i xs ys (ap (λ (ns : List ℕ). tail ns) same) j
  where
    tail : List ℕ → List ℕ
    tail [] = []
    tail (n ∷ ns) = ns

pub front_shorter : (m i k : ℕ) (new old all : List ℕ) → i ≡ m → k ≡ i + 1 → take i new ≡ take i old → take k old ≡ take k all → take m new ≡ take m all
front_shorter m i k new old all is next one same =
    let more : suc i ≡ k = omega (arith, next) in
    ap (λ n. take n new) (sym is) ∙ one
    ∙ shorter i old all (ap (λ n. take n old) more ∙ same ∙ ap (λ n. take n all) (sym more))
    ∙ ap (λ n. take n all) is

-- what goes at an index leaves the front before it
pub front_left : (xs : List ℕ) (i : ℕ) → take i (remove xs i) ≡ take i xs
front_left [] zero = refl
front_left [] (suc i) = refl
front_left (x ∷ xs) zero = refl
front_left (x ∷ xs) (suc i) = ap (λ (ns : List ℕ). x ∷ ns) (front_left xs i)
