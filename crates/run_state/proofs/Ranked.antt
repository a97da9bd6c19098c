-- Pairs of a height and a number, in their order.
use Rattle.std.proofs.Common.{◌≡◌, ◌⊎◌, inl, inr, ℕ, ◌+◌, ◌<◌, ◌≤◌, Bool, List, [], ◌∷◌, true, false, nat_eq, refl, ap, ◌∙◌, arith}
use Rattle.std.specs.Prelude.{if◌then◌else◌}
use Rattle.std.specs.declared.cmp.Ordering.{Ordering}
use Rattle.std.specs.declared.cmp.Ordering.TheVariants.{Less, Equal, Greater}
use Rattle.std.specs.Ordering.{MatchOrdering, is_eq, nat_cmp, ordering_then}
use Rattle.std.specs.BTreeMap.{is_at}
use Rattle.std.specs.Cmp.{Equal-is, IsTotalOrder, then_total, on_total, nat_cmp_total, tied_itself}
use Rattle.std.specs.FinMap.{nat_cmp-IsAntisymmetric}
use Rattle.std.specs.List.{AllByRecursion}
use Rattle.std.proofs.lemmas.Cmp.{ranked}
use Rattle.rt_lemmas.proofs.Orders.{both_tie}
use Rattle.rt_cells.proofs.HeldOnce.{ties}
use Rattle.run_state.specs.Effects.{has_rank, rank_cmp}
use Rattle.rt_model.proofs.Members.{by_either}

pub rank_total : IsTotalOrder rank_cmp
rank_total = then_total (on_total (λ rank. rank.0) nat_cmp_total) (on_total (λ rank. rank.1) nat_cmp_total)

pub rank_exact : (x y : ℕ × ℕ) → rank_cmp x y ≡ Equal → x ≡ y
rank_exact x y e =
    let parts = both_tie (nat_cmp x.0 y.0) (nat_cmp x.1 y.1) e in
    λ i. (nat_cmp-IsAntisymmetric x.0 y.0 parts.0 i, nat_cmp-IsAntisymmetric x.1 y.1 parts.1 i)

-- a pair ties with itself
pub rank_own : (h s : ℕ) → is_at (rank_cmp (h, s)) (h, s) ≡ true
rank_own h s = ap is_eq (tied_itself rank_total (h, s))

-- what one before another says of heights and numbers
less_parts : (a b s t : ℕ) (r q : Ordering) → MatchOrdering r (a < b) (a ≡ b) (b < a) → MatchOrdering q (s < t) (s ≡ t) (t < s) → ordering_then r q ≡ Less
    → (a < b) ⊎ ((a ≡ b) × (s ≤ t))
less_parts a b s t Less q h g e = inl h
less_parts a b s t Equal Less h g e = let low : s < t = g in inr (h, omega (arith, low))
less_parts a b s t Equal Equal h g e = absurd (cc e)
less_parts a b s t Equal Greater h g e = absurd (cc e)
less_parts a b s t Greater q h g e = absurd (cc e)

pub rank_less : (x y : ℕ × ℕ) → rank_cmp x y ≡ Less → (x.0 < y.0) ⊎ ((x.0 ≡ y.0) × (x.1 ≤ y.1))
rank_less x y e =
    less_parts x.0 y.0 x.1 y.1 (nat_cmp x.0 y.0) (nat_cmp x.1 y.1) (ranked x.0 y.0 (nat_cmp x.0 y.0) refl) (ranked x.1 y.1 (nat_cmp x.1 y.1) refl) e

-- a pair that is among those behind a first one comes after it
pub behind_first : (first : ℕ × ℕ) (ranks : List (ℕ × ℕ)) (h s : ℕ) → AllByRecursion (λ rank. rank_cmp first rank ≡ Less) ranks → has_rank ranks h s ≡ true
    → rank_cmp first (h, s) ≡ Less
behind_first first [] h s all there = absurd (cc there)
behind_first first (rank ∷ ranks) h s all there =
    by_either (is_at (rank_cmp (h, s)) rank) (has_rank ranks h s) there
    (λ own. ap (λ (r : ℕ × ℕ). rank_cmp first r) (rank_exact (h, s) rank ((Equal-is (rank_cmp (h, s) rank)).0 own)) ∙ all.0)
    (λ rest. behind_first first ranks h s all.1 rest)

-- pairs with other numbers, or of other heights, don't tie
pub rank_apart : (a b h s : ℕ) → nat_eq b s ≡ false → is_at (rank_cmp (a, b)) (h, s) ≡ false
rank_apart a b h s other = elim (nat_cmp a h) as (λ r. is_eq (ordering_then r (nat_cmp b s)) ≡ false) [ Less ↦ refl | Equal ↦ ties b s ∙ other | Greater ↦ refl ]

-- one is left less where one went
pub one_less : (left all : ℕ) (b : Bool) → b ≡ true → left + (if b then 1 else 0) ≡ all → left < all
one_less left all true so is = let more : left + 1 ≡ all = is in omega (arith, more)
one_less left all false so is = absurd (cc so)
