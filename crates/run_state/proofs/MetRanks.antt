-- The numbers of a height, as a search from its first pair on meets them.
use Rattle.std.proofs.Common.{◌≡◌, ℕ, ◌<◌, List, [], ◌∷◌, Bool, true, false, ◌||◌, length, map, nat_eq, sym, ap, ◌∙◌, arith}
use Rattle.std.specs.Prelude.{Option, Some, None, IfSome, IfNone, MatchOption}
use Rattle.std.specs.declared.ops.Bound.TheVariants.{Included, Unbounded}
use Rattle.std.specs.Ordering.{is_eq, nat_cmp}
use Rattle.std.specs.Cmp.{nat_cmp_total, tied_itself}
use Rattle.std.specs.FinMap.{nat_cmp-IsAntisymmetric}
use Rattle.std.specs.List.{filter, list_any, take_while}
use Rattle.std.specs.List.Sorted.{IsStrictlySortedBy}
use Rattle.std.specs.BTreeMap.{is_at}
use Rattle.std.specs.BTreeMap.Range.{range_contains}
use Rattle.rt_cells.proofs.HeldOnce.{ties}
use Rattle.rt_cells.proofs.NumbersOf.{zero_least}
use Rattle.rt_cells.proofs.Pairs.{begins, scan_first, second_found, seconds_rise, sorted_kept}
use Rattle.rt_cells.proofs.Scan.{goes_on, stops}
use Rattle.run_state.specs.Effects.{has_rank, rank_cmp}

-- those that are met from some pairs on
abbrev pub met_from : ℕ → List (ℕ × ℕ) → List ℕ
met_from h ranks = map (λ rank. rank.1) (take_while (λ rank. nat_eq h rank.0) ranks)

-- a pair of the height is met first
pub met_first : (h : ℕ) (ranks rest : List (ℕ × ℕ)) (rank : ℕ × ℕ) → ranks ≡ rank ∷ rest → nat_eq h rank.0 ≡ true → met_from h ranks ≡ rank.1 ∷ met_from h rest
met_first h ranks rest rank is own = ap (met_from h) is ∙ ap (map (λ rank. rank.1)) (goes_on (λ rank. nat_eq h rank.0) rank rest own)

-- at another pair none is left
pub met_none : (h : ℕ) (ranks rest : List (ℕ × ℕ)) (rank : ℕ × ℕ) → ranks ≡ rank ∷ rest → nat_eq h rank.0 ≡ false → met_from h ranks ≡ []
met_none h ranks rest rank is other = ap (met_from h) is ∙ ap (map (λ rank. rank.1)) (stops (λ rank. nat_eq h rank.0) rank rest other)

-- nor where no pair is
pub met_end : (h : ℕ) (ranks : List (ℕ × ℕ)) → ranks ≡ [] → met_from h ranks ≡ []
met_end h ranks is = ap (met_from h) is

module _ (ranks : List (ℕ × ℕ)) (sorted : IsStrictlySortedBy rank_cmp ranks) (h : ℕ) where
  -- the numbers of the height
  abbrev own : List ℕ
  own = map (λ rank. rank.1) (filter (begins nat_cmp nat_cmp h) ranks)

  -- what a search from the height's first pair on meets
  pub numbers_found : met_from h (filter (range_contains rank_cmp (Included (h, 0)) Unbounded) ranks) ≡ own
  numbers_found =
      ap (λ (test : ℕ × ℕ → Bool). map (λ rank. rank.1) (take_while test (filter (range_contains rank_cmp (Included (h, 0)) Unbounded) ranks)))
      (λ i rank. sym (ties h rank.0) i)
      ∙ ap (map (λ rank. rank.1)) (scan_first nat_cmp nat_cmp nat_cmp_total 0 zero_least h ranks sorted)

  pub numbers_ascend : IsStrictlySortedBy nat_cmp own
  numbers_ascend =
      sorted_kept rank_cmp nat_cmp (begins nat_cmp nat_cmp h) (λ rank. rank.1) (seconds_rise nat_cmp nat_cmp nat_cmp_total nat_cmp_total nat_cmp-IsAntisymmetric h) ranks sorted

  pub numbers_have : (n : ℕ) → list_any (is_at (nat_cmp n)) own ≡ has_rank ranks h n
  numbers_have n = second_found nat_cmp nat_cmp nat_cmp_total nat_cmp_total nat_cmp-IsAntisymmetric h n ranks

-- the first of numbers that are just those of a height
module _ (ranks : List (ℕ × ℕ)) (h : ℕ) (ns : List ℕ) (members : (n : ℕ) → list_any (is_at (nat_cmp n)) ns ≡ has_rank ranks h n) where
  pub first_has : (found : Option ℕ) (left : List ℕ) → MatchOption found (ns ≡ []) (λ n. ns ≡ n ∷ left) → IfSome found (λ n. has_rank ranks h n ≡ true)
  first_has None left is = tt
  first_has (Some n) left is =
      sym (members n) ∙ ap (list_any (is_at (nat_cmp n))) is ∙ ap (λ b. b || list_any (is_at (nat_cmp n)) left) (ap is_eq (tied_itself nat_cmp_total n))

  pub none_has : (found : Option ℕ) (left : List ℕ) → MatchOption found (ns ≡ []) (λ n. ns ≡ n ∷ left) → IfNone found ((n : ℕ) → has_rank ranks h n ≡ false)
  none_has None left is = λ n. sym (members n) ∙ ap (list_any (is_at (nat_cmp n))) is
  none_has (Some n) left is = tt

-- with each number that is met fewer are left
pub fewer_numbers : (old new : List ℕ) (n : ℕ) → old ≡ n ∷ new → length new < length old
fewer_numbers old new n is = omega (arith, ap length is)
