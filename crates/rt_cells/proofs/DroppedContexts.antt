-- Taking a scope's things out one by one, the first of them each time.
use Rattle.std.proofs.Common.{◌≡◌, ℕ, ◌<◌, List, [], ◌∷◌, length, map, true, false, cond, not, None, Some, refl, sym, ap, ◌∙◌, subst, arith}
use Rattle.std.specs.declared.cmp.Ordering.TheVariants.{Less, Greater}
use Rattle.std.specs.Ordering.{is_eq, nat_cmp, ordering_reverse}
use Rattle.std.specs.Cmp.{nat_cmp_total, tied_itself}
use Rattle.std.specs.List.{filter, slice_get, AllByRecursion}
use Rattle.std.specs.List.Sorted.{IsStrictlySortedBy}
use Rattle.std.specs.Map.{keys_of}
use Rattle.std.proofs.lemmas.Map.Keys.{sorted_head, sorted_tail}
use Rattle.rt_lemmas.proofs.Options.{some_is as some_same}
use Rattle.rt_values.specs.declared.names.ScopeId.{ScopeId}
use Rattle.rt_cells.specs.declared.numbered.Held.{Held}
use Rattle.rt_cells.specs.Held.{is_of, numbers_of, without, without_scope}

none_first : (numbers : List ℕ) → None ≡ slice_get numbers 0 → numbers ≡ []
none_first [] is = refl
none_first (n ∷ ns) is = absurd (cc is)

module _ {X : Type 0} (owner : ScopeId) where
  -- what holds of all numbers holds of the scope's first
  first_all : (P : ℕ → Type 0) (held : List (ℕ × Held X)) (number : ℕ) → AllByRecursion P (keys_of held) → Some number ≡ slice_get (numbers_of owner held) 0 → P number
  first_all P [] number all is = absurd (cc is)
  first_all P (thing ∷ held) number all is =
      elim (is_of owner thing) as (λ b. Some number ≡ slice_get (map (λ thing. thing.0) (cond b (thing ∷ filter (is_of owner) held) (filter (is_of owner) held))) 0 → P number) [
        | true ↦ λ first. subst P (sym (some_same first)) all.0
        | false ↦ λ later. first_all P held number all.1 later
      ] is

  -- without its first thing the scope has the others, and the other scopes have all of theirs
  pub first_taken : (held : List (ℕ × Held X)) (number : ℕ) → IsStrictlySortedBy nat_cmp (keys_of held) → Some number ≡ slice_get (numbers_of owner held) 0
      → (numbers_of owner held ≡ number ∷ numbers_of owner (without number held)) × (without_scope owner (without number held) ≡ without_scope owner held)
  first_taken [] number sorted is = absurd (cc is)
  first_taken (thing ∷ held) number sorted is =
      elim (is_of owner thing) as (λ b. is_of owner thing ≡ b → Some number ≡ slice_get (map (λ thing. thing.0) (cond b (thing ∷ filter (is_of owner) held) (filter (is_of owner) held))) 0
      → (map (λ thing. thing.0) (cond b (thing ∷ filter (is_of owner) held) (filter (is_of owner) held)) ≡ number ∷ numbers_of owner (without number (thing ∷ held)))
      × (without_scope owner (without number (thing ∷ held)) ≡ cond (not b) (thing ∷ without_scope owner held) (without_scope owner held))) [
        | true ↦ λ own first.
            let same : number ≡ thing.0 = some_same first in
            let rest : without number (thing ∷ held) ≡ held = ap (λ r. cond (is_eq r) held (thing ∷ without number held)) (ap (nat_cmp number) (sym same) ∙ tied_itself nat_cmp_total number) in
            ((λ i. sym same i ∷ numbers_of owner (sym rest i)), ap (without_scope owner) rest)
        | false ↦ λ others later.
            let above : nat_cmp number thing.0 ≡ Greater = nat_cmp_total.antisymm number thing.0
            ∙ ap ordering_reverse (first_all (λ k. nat_cmp thing.0 k ≡ Less) held number (sorted_head nat_cmp thing.0 (keys_of held) sorted) later) in
            let rest : without number (thing ∷ held) ≡ thing ∷ without number held = ap (λ r. cond (is_eq r) held (thing ∷ without number held)) above in
            let taken = first_taken held number (sorted_tail nat_cmp thing.0 (keys_of held) sorted) later in (
              taken.0 ∙ ap (λ ns. number ∷ ns) (sym (ap (numbers_of owner) rest ∙ ap (λ b. map (λ thing. thing.0) (cond b (thing ∷ filter (is_of owner) (without number held)) (filter (is_of owner) (without number held)))) others)),
              ap (without_scope owner) rest ∙ ap (λ b. cond (not b) (thing ∷ without_scope owner (without number held)) (without_scope owner (without number held))) others ∙ ap (λ hs. thing ∷ hs) taken.1,
            )
      ] refl is

  -- the scope has nothing left
  pub none_left : (held : List (ℕ × Held X)) → None ≡ slice_get (numbers_of owner held) 0 → numbers_of owner held ≡ []
  none_left held is = none_first (numbers_of owner held) is

  -- without the things of a scope that has none is all
  pub all_left : (held : List (ℕ × Held X)) → numbers_of owner held ≡ [] → without_scope owner held ≡ held
  all_left [] none = refl
  all_left (thing ∷ held) none =
      elim (is_of owner thing) as (λ b. map (λ thing. thing.0) (cond b (thing ∷ filter (is_of owner) held) (filter (is_of owner) held)) ≡ [] → cond (not b) (thing ∷ without_scope owner held) (without_scope owner held) ≡ thing ∷ held) [
        | true ↦ λ some. absurd (cc some)
        | false ↦ λ rest. ap (λ hs. thing ∷ hs) (all_left held rest)
      ] none

  -- with each thing taken fewer are left
  pub fewer_left : (held taken : List (ℕ × Held X)) (number : ℕ) → IsStrictlySortedBy nat_cmp (keys_of held) → Some number ≡ slice_get (numbers_of owner held) 0
      → taken ≡ without number held → length (numbers_of owner taken) < length (numbers_of owner held)
  fewer_left held taken number sorted is same =
      let left : length (numbers_of owner held) ≡ length (number ∷ numbers_of owner taken) =
      ap length ((first_taken held number sorted is).0 ∙ ap (λ hs. number ∷ numbers_of owner hs) (sym same)) in
      omega (arith, left)
