-- One more thing under the next number is tied to the scope that it was made for.
use Rattle.std.proofs.Common.{◌≡◌, ℕ, ◌+◌, ◌<◌, List, Bool, true, false, cond, ◌&&◌, Option, None, Some, refl, sym, ap, ◌∙◌, arith}
use Rattle.std.specs.Cmp.{Equal-is}
use Rattle.std.specs.FinMap.{nat_cmp-IsAntisymmetric}
use Rattle.std.specs.Option.{is_some, IsSome}
use Rattle.std.specs.Ordering.{is_eq, nat_cmp}
use Rattle.std.specs.List.{list_any}
use Rattle.std.specs.List.Sorted.{IsStrictlySortedBy}
use Rattle.std.specs.Map.{keys_of}
use Rattle.std.specs.BTreeMap.{is_at}
use Rattle.rt_values.specs.declared.names.ScopeId.{ScopeId}
use Rattle.rt_cells.specs.declared.numbered.Held.{Held}
use Rattle.rt_cells.specs.Orders.{scope_cmp}
use Rattle.rt_cells.specs.Held.{held_at, owner_cmp}
use Rattle.rt_cells.specs.Index.{was_made_for, IsIndexed}
use Rattle.rt_cells.proofs.Exact.{scope_total}
use Rattle.rt_cells.proofs.Pairs.{then_ties}
use Rattle.rt_cells.proofs.Searched.{tie_turned}

joined : (scope number was : Bool) → (number ≡ true → was ≡ false) → cond (scope && number) true was ≡ cond number scope was
joined true true was new = refl
joined false true was new = new refl
joined true false was new = refl
joined false false was new = refl

module _ {X : Type 0} where
  made_for_one : (tie : Bool) (scope : ScopeId) (thing : Held X) (found : Option (Held X)) → was_made_for scope (cond tie (Some thing) found) ≡ cond tie (is_eq (scope_cmp scope thing.owner)) (was_made_for scope found)
  made_for_one true scope thing found = refl
  made_for_one false scope thing found = refl

  stays_below : (tie : Bool) (number next : ℕ) (thing : Held X) (found : Option (Held X)) → (tie ≡ true → next ≡ number) → (IsSome found → number < next) → IsSome (cond tie (Some thing) found) → number < next + 1
  stays_below true number next thing found same below some = omega (arith, same refl)
  stays_below false number next thing found same below some = omega (arith, below some)

module _ {X : Type 0} {held : List (ℕ × Held X)} {owners : List (ScopeId × ℕ)} {next : ℕ} (ok : IsIndexed held owners next) where
  same_number : (number : ℕ) → is_at (nat_cmp next) number ≡ true → next ≡ number
  same_number number tie = nat_cmp-IsAntisymmetric next number ((Equal-is (nat_cmp next number)).0 tie)

  -- nothing is kept under the next number
  none_next : held_at next held ≡ None
  none_next = elim (held_at next held) as (λ found. held_at next held ≡ found → found ≡ None) [
    | None ↦ λ _. refl
    | Some thing ↦ λ is. absurd (omega (arith, ok.below next (ap is_some is)))
  ] refl

  -- no pair has the next number
  no_pair : (owned : ScopeId × ℕ) → is_at (nat_cmp next) owned.1 ≡ true → list_any (is_at (owner_cmp owned)) owners ≡ false
  no_pair owned tie = ok.tied owned ∙ ap (λ number. was_made_for owned.0 (held_at number held)) (sym (same_number owned.1 tie)) ∙ ap (was_made_for owned.0) none_next

  pub indexed_more : (thing : Held X) (more : List (ℕ × Held X)) (pairs : List (ScopeId × ℕ)) (after : ℕ) → after ≡ next + 1
      → ((owned : ScopeId × ℕ) → list_any (is_at (owner_cmp owned)) pairs ≡ cond (is_at (owner_cmp (thing.owner, next)) owned) true (list_any (is_at (owner_cmp owned)) owners))
      → ((number : ℕ) → held_at number more ≡ cond (is_at (nat_cmp next) number) (Some thing) (held_at number held))
      → IsStrictlySortedBy nat_cmp (keys_of more) → IsIndexed more pairs after
  indexed_more thing more pairs after drawn paired entered ascending = record {
    tied = λ owned. paired owned
        ∙ ap (λ tie. cond tie true (list_any (is_at (owner_cmp owned)) owners)) (then_ties (scope_cmp thing.owner owned.0) (nat_cmp next owned.1))
        ∙ joined _ (is_at (nat_cmp next) owned.1) _ (no_pair owned)
        ∙ (λ i. cond (is_at (nat_cmp next) owned.1) (tie_turned scope_total thing.owner owned.0 i) (ok.tied owned i))
        ∙ sym (made_for_one (is_at (nat_cmp next) owned.1) owned.0 thing (held_at owned.1 held))
        ∙ ap (was_made_for owned.0) (sym (entered owned.1));
    ascending = ascending;
    below = λ number some. rw drawn (stays_below (is_at (nat_cmp next) number) number next thing (held_at number held) (same_number number) (ok.below number) (sym (ap is_some (entered number)) ∙ some));
  }
