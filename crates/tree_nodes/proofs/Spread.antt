-- Places that go out from one place by different steps are apart.
use Rattle.std.proofs.Common.{◌≡◌, ◌≢◌, ℕ, ◌+◌, ◌<◌, List, [], ◌∷◌, ◌++◌, length, sym, ◌∙◌, ap, subst, arith, append_assoc, append-nil, length-append}
use Rattle.std.specs.List.{All, AllPairs}
use Rattle.std.proofs.lemmas.List.{append_cancel_left}
use Rattle.std.proofs.lemmas.List.Elements.{All-nil, All-cons, All-head, All-tail, All-append, All-weaker}
use Rattle.std.proofs.lemmas.List.Kept.{AllPairs-cons}

-- the place is the one at these steps, or below it
abbrev pub IsUnder : {S : Type 0} → List S → List S → Type 0
IsUnder {S} at place = (rest : List S) × (place ≡ at ++ rest)

-- what stands below the steps to it
abbrev pub Row : Type 0 → Type 0 → Type 0
Row S A = List S → List (List S × A)

from_here : {S : Type 0} (at rest place : List S) (s : S) → place ≡ (at ++ s ∷ []) ++ rest → place ≡ at ++ (s ∷ rest)
from_here at rest place s is = is ∙ append_assoc at (s ∷ []) rest

one_step : {S : Type 0} (at : List S) (s t : S) (p q : List S) → (s ≢ t) → IsUnder (at ++ s ∷ []) p → IsUnder (at ++ t ∷ []) q → p ≢ q
one_step at s t p q differ u v = λ same.
    let e : (s ∷ u.0) ≡ (t ∷ v.0) = append_cancel_left at (s ∷ u.0) (t ∷ v.0) (sym (from_here at u.0 p s u.1) ∙ same ∙ from_here at v.0 q t v.1) in
    differ (cc e)

module _ {K A : Type 0} where
  -- two entries have different keys
  abbrev pub Differs : K × A → K × A → Type 0
  Differs one other = one.0 ≢ other.0

  -- no two entries have the same key
  abbrev pub Apart : List (K × A) → Type 0
  Apart [] = Unit {0}
  Apart (x ∷ xs) = All (Differs x) xs × Apart xs

  apart-append : (xs ys : List (K × A)) → Apart xs → Apart ys → All (λ x. All (Differs x) ys) xs → Apart (xs ++ ys)
  apart-append [] ys ax ay differ = ay
  apart-append (x ∷ xs) ys ax ay differ = (
    All-append (Differs x) xs ys ax.0 (All-head (λ x. All (Differs x) ys) x xs differ),
    apart-append xs ys ax.1 ay (All-tail (λ x. All (Differs x) ys) x xs differ),
  )

  pub are_apart : (xs : List (K × A)) → Apart xs → AllPairs Differs xs
  are_apart [] apart = λ i j d less within. absurd (omega (arith, less, within))
  are_apart (x ∷ xs) apart = AllPairs-cons Differs x xs apart.0 (are_apart xs apart.1)

module _ {A : Type 0} where
  -- entries with the numbers from k on
  abbrev pub numbered : ℕ → List A → List (ℕ × A)
  numbered k [] = []
  numbered k (x ∷ xs) = (k, x) ∷ numbered (k + 1) xs

  above : (k m : ℕ) (xs : List A) → k < m → All (λ y. k ≢ y.0) (numbered m xs)
  above k m [] less = All-nil (λ y. k ≢ y.0)
  above k m (x ∷ xs) less = All-cons (λ y. k ≢ y.0) (m, x) (numbered (m + 1) xs) (λ same. omega (arith, same, less)) (above k (m + 1) xs (omega (arith, less)))

  pub numbered-apart : (k : ℕ) (xs : List A) → Apart (numbered k xs)
  numbered-apart k [] = tt
  numbered-apart k (x ∷ xs) = (above k (k + 1) xs (omega arith), numbered-apart (k + 1) xs)

module _ {S A : Type 0} where
  -- a row goes out from the steps to it, by different places
  abbrev pub IsSpread : Row S A → Type 0
  IsSpread row = (at : List S) → All (λ place. IsUnder at place.0) (row at) × Apart (row at)

  -- below one of the steps that go out from here
  abbrev pub IsBelow : List S → List S × A → Type 0
  IsBelow at place = (s : S) × IsUnder (at ++ s ∷ []) place.0

  -- rows below the steps of their keys
  abbrev pub placed : {T : Type 0} → (T → S) → List (T × Row S A) → Row S A
  placed step [] at = []
  placed step (x ∷ xs) at = x.1 (at ++ step x.0 ∷ []) ++ placed step xs at

  placed-below : {T : Type 0} (step : T → S) (xs : List (T × Row S A)) → All (λ x. IsSpread x.1) xs → (at : List S) → All (IsBelow at) (placed step xs at)
  placed-below step [] spread at = All-nil (IsBelow at)
  placed-below step (x ∷ xs) spread at =
      All-append (IsBelow at) (x.1 (at ++ step x.0 ∷ [])) (placed step xs at)
      (All-weaker (λ place. IsUnder (at ++ step x.0 ∷ []) place.0) (IsBelow at) (λ place under. (step x.0, under)) (x.1 (at ++ step x.0 ∷ [])) ((All-head (λ x. IsSpread x.1) x xs spread) (at ++ step x.0 ∷ [])).0)
      (placed-below step xs (All-tail (λ x. IsSpread x.1) x xs spread) at)

  placed-differ : {T : Type 0} (step : T → S) → ((t u : T) → step t ≡ step u → t ≡ u) → (t : T) (xs : List (T × Row S A)) → All (λ x. t ≢ x.0) xs → All (λ x. IsSpread x.1) xs
      → (at : List S) (place : List S × A) → IsUnder (at ++ step t ∷ []) place.0 → All (Differs place) (placed step xs at)
  placed-differ step only t [] differ spread at place under = All-nil (Differs place)
  placed-differ step only t (x ∷ xs) differ spread at place under =
      All-append (Differs place) (x.1 (at ++ step x.0 ∷ [])) (placed step xs at)
      (All-weaker (λ other. IsUnder (at ++ step x.0 ∷ []) other.0) (Differs place)
      (λ other below. one_step at (step t) (step x.0) place.0 other.0 (λ same. All-head (λ x. t ≢ x.0) x xs differ (only t x.0 same)) under below)
      (x.1 (at ++ step x.0 ∷ [])) ((All-head (λ x. IsSpread x.1) x xs spread) (at ++ step x.0 ∷ [])).0)
      (placed-differ step only t xs (All-tail (λ x. t ≢ x.0) x xs differ) (All-tail (λ x. IsSpread x.1) x xs spread) at place under)

  placed-apart : {T : Type 0} (step : T → S) → ((t u : T) → step t ≡ step u → t ≡ u) → (xs : List (T × Row S A)) → Apart xs → All (λ x. IsSpread x.1) xs
      → (at : List S) → Apart (placed step xs at)
  placed-apart step only [] apart spread at = tt
  placed-apart step only (x ∷ xs) apart spread at =
      let here = (All-head (λ x. IsSpread x.1) x xs spread) (at ++ step x.0 ∷ []) in
      let others = All-tail (λ x. IsSpread x.1) x xs spread in
      apart-append (x.1 (at ++ step x.0 ∷ [])) (placed step xs at) here.1 (placed-apart step only xs apart.1 others at)
      (All-weaker (λ place. IsUnder (at ++ step x.0 ∷ []) place.0) (λ place. All (Differs place) (placed step xs at))
      (λ place under. placed-differ step only x.0 xs apart.0 others at place under) (x.1 (at ++ step x.0 ∷ [])) here.0)

  under_from_below : (at : List S) (place : List S × A) → IsBelow at place → IsUnder at place.0
  under_from_below at place below = (below.0 ∷ below.1.0, from_here at below.1.0 place.0 below.0 below.1.1)

  -- rows that go out by different steps
  pub placed-spread : {T : Type 0} (step : T → S) → ((t u : T) → step t ≡ step u → t ≡ u) → (xs : List (T × Row S A)) → Apart xs → All (λ x. IsSpread x.1) xs → IsSpread (placed step xs)
  placed-spread step only xs apart spread = λ at. (
    All-weaker (IsBelow at) (λ place. IsUnder at place.0) (under_from_below at) (placed step xs at) (placed-below step xs spread at),
    placed-apart step only xs apart spread at,
  )

  -- one place alone
  pub one-spread : (a : A) → IsSpread (λ at. (at, a) ∷ [])
  one-spread a = λ at. (All-cons (λ place. IsUnder at place.0) (at, a) [] ([], sym (append-nil at)) (All-nil (λ place. IsUnder at place.0)), (All-nil (Differs (at, a)), tt))

  -- no place
  pub none-spread : (at : List S) → All (λ (place : List S × A). IsUnder at place.0) [] × Apart {K = List S} {A = A} []
  none-spread = λ at. (All-nil (λ place. IsUnder at place.0), tt)

  -- one place, and others below it
  pub first-spread : {T : Type 0} (step : T → S) → ((t u : T) → step t ≡ step u → t ≡ u) → (a : List S → A) (xs : List (T × Row S A)) → Apart xs → All (λ x. IsSpread x.1) xs
      → IsSpread (λ at. (at, a at) ∷ placed step xs at)
  first-spread step only a xs apart spread = λ at. (
    All-cons (λ place. IsUnder at place.0) (at, a at) (placed step xs at) ([], sym (append-nil at)) ((placed-spread step only xs apart spread) at).0,
    (
      All-weaker (IsBelow at) (Differs (at, a at)) (λ place below same.
          let e : length at ≡ length ((at ++ below.0 ∷ []) ++ below.1.0) = ap length (same ∙ below.1.1) in
          omega (arith, e, length-append (at ++ below.0 ∷ []) below.1.0, length-append at (below.0 ∷ []))) (placed step xs at) (placed-below step xs spread at),
      placed-apart step only xs apart spread at,
    ),
  )

module _ {S A : Type 0} where
  -- rows that give the same places
  pub spread-same : (row other : Row S A) → ((at : List S) → row at ≡ other at) → IsSpread other → IsSpread row
  spread-same row other same spread = λ at. subst (λ (places : List (List S × A)). All (λ place. IsUnder at place.0) places × Apart places) (sym (same at)) (spread at)

  -- rows by their numbers
  pub numbered-spread : (k : ℕ) (rows : List (Row S A)) → All IsSpread rows → All (λ x. IsSpread x.1) (numbered k rows)
  numbered-spread k [] spread = All-nil (λ (x : ℕ × Row S A). IsSpread x.1)
  numbered-spread k (row ∷ rows) spread = All-cons (λ (x : ℕ × Row S A). IsSpread x.1) (k, row) (numbered (k + 1) rows) (All-head IsSpread row rows spread) (numbered-spread (k + 1) rows (All-tail IsSpread row rows spread))
