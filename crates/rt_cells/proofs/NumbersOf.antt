-- The numbers that stand by a scope are those of the things that were made for it.
use Rattle.std.proofs.Common.{◌≡◌, ℕ, List, [], ◌∷◌, map, Bool, true, false, None, Some, refl, sym, ap, ◌∙◌, arith}
use Rattle.std.specs.declared.cmp.Ordering.TheVariants.{Less, Equal, Greater}
use Rattle.std.specs.declared.ops.Bound.TheVariants.{Included, Unbounded}
use Rattle.std.specs.Ordering.{is_eq, is_le, nat_cmp, on}
use Rattle.std.specs.Cmp.{nat_cmp_total, ranked}
use Rattle.std.specs.FinMap.{nat_cmp-IsAntisymmetric}
use Rattle.std.specs.List.{filter, take_while, slice_get}
use Rattle.std.specs.List.Sorted.{IsStrictlySortedBy}
use Rattle.std.specs.Map.{keys_of}
use Rattle.std.specs.BTreeMap.Range.{range_contains}
use Rattle.rt_values.specs.declared.names.ScopeId.{ScopeId}
use Rattle.rt_cells.specs.declared.numbered.Held.{Held}
use Rattle.rt_values.specs.contracts.names.ScopeIdOrd.TheImpl.Laws as scope_laws
use Rattle.rt_cells.specs.Orders.{scope_cmp, same_scope}
use Rattle.rt_cells.specs.Held.{is_of, numbers_of, owner_cmp}
use Rattle.rt_cells.specs.Index.{IsIndexed}
use Rattle.rt_cells.proofs.Exact.{scope_total}
use Rattle.rt_cells.proofs.Scan.{goes_on, stops}
use Rattle.rt_cells.proofs.Pairs.{scan_first, seconds_are, sorted_kept, sorted_entries}

-- no number is below 0
pub zero_least : (n : ℕ) → is_le (nat_cmp 0 n) ≡ true
zero_least n = elim (nat_cmp 0 n) as (λ r. nat_cmp 0 n ≡ r → is_le r ≡ true) [
  | Less ↦ λ _. refl
  | Equal ↦ λ _. refl
  | Greater ↦ λ above. absurd (omega (arith, ranked 0 n Greater (sym above)))
] refl

-- what a scan from the scope's least pair on finds
pub numbers_found : {X : Type 0} (held : List (ℕ × Held X)) (owners : List (ScopeId × ℕ)) (next : ℕ) (scope : ScopeId) → IsIndexed held owners next
    → IsStrictlySortedBy owner_cmp owners
    → map (λ owned. owned.1) (take_while (λ owned. same_scope scope owned.0) (filter (range_contains owner_cmp (Included (scope, 0)) Unbounded) owners)) ≡ numbers_of scope held
numbers_found held owners next scope indexed sorted_owners =
    ap (λ (test : ScopeId × ℕ → Bool). map (λ owned. owned.1) (take_while test (filter (range_contains owner_cmp (Included (scope, 0)) Unbounded) owners)))
    (λ i owned. scope_laws.matches_eq-law scope owned.0 i)
    ∙ ap (map (λ owned. owned.1)) (scan_first scope_cmp nat_cmp scope_total 0 zero_least scope owners sorted_owners)
    ∙ seconds_are scope_cmp nat_cmp scope_total nat_cmp_total nat_cmp-IsAntisymmetric scope (λ thing. is_eq (scope_cmp scope thing.owner)) owners held sorted_owners indexed.ascending
    (λ number. indexed.tied (scope, number))

-- the first of what a scan finds is the first that it meets, where that is the scope's
pub first_found : (scope : ScopeId) (met : List (ScopeId × ℕ)) (numbers : List ℕ) → map (λ owned. owned.1) (take_while (λ owned. same_scope scope owned.0) met) ≡ numbers
    → (met ≡ [] → None ≡ slice_get numbers 0)
    × ((owned : ScopeId × ℕ) (rest : List (ScopeId × ℕ)) → met ≡ owned ∷ rest → same_scope scope owned.0 ≡ true → Some owned.1 ≡ slice_get numbers 0)
    × ((owned : ScopeId × ℕ) (rest : List (ScopeId × ℕ)) → met ≡ owned ∷ rest → same_scope scope owned.0 ≡ false → None ≡ slice_get numbers 0)
first_found scope met numbers found = (
  (λ none. ap (λ ns. slice_get ns 0) (ap (λ m. map (λ owned. owned.1) (take_while (λ owned. same_scope scope owned.0) m)) (sym none) ∙ found)),
  (λ owned rest is passes. ap (λ ns. slice_get ns 0) (ap (map (λ owned. owned.1)) (sym (goes_on (λ owned. same_scope scope owned.0) owned rest passes))
      ∙ ap (λ m. map (λ owned. owned.1) (take_while (λ owned. same_scope scope owned.0) m)) (sym is) ∙ found)),
  (λ owned rest is fails. ap (λ ns. slice_get ns 0) (ap (map (λ owned. owned.1)) (sym (stops (λ owned. same_scope scope owned.0) owned rest fails))
      ∙ ap (λ m. map (λ owned. owned.1) (take_while (λ owned. same_scope scope owned.0) m)) (sym is) ∙ found)),
)

-- a scope's numbers ascend where all numbers do
pub numbers_ascend : {X : Type 0} (scope : ScopeId) (held : List (ℕ × Held X)) → IsStrictlySortedBy nat_cmp (keys_of held) → IsStrictlySortedBy nat_cmp (numbers_of scope held)
numbers_ascend scope held ascending =
    sorted_kept (on (λ thing. thing.0) nat_cmp) nat_cmp (is_of scope) (λ thing. thing.0) (λ x y _ _ less. less) held (sorted_entries nat_cmp held ascending)
