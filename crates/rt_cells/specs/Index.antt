-- How the numbers that stand by their scopes are tied to the things under these numbers.
use Rattle.std.specs.Prelude.{◌≡◌, ℕ, ◌<◌, Bool, false, List, Option, None, Some}
use Rattle.std.specs.Option.{IsSome}
use Rattle.std.specs.Ordering.{is_eq, nat_cmp}
use Rattle.std.specs.List.Sorted.{IsStrictlySortedBy}
use Rattle.std.specs.Map.{keys_of}
use Rattle.std.specs.List.{list_any}
use Rattle.std.specs.BTreeMap.{is_at}
use Rattle.rt_values.specs.declared.names.ScopeId.{ScopeId}
use Rattle.rt_cells.specs.declared.numbered.Held.{Held}
use Rattle.rt_cells.specs.Orders.{scope_cmp}
use Rattle.rt_cells.specs.Held.{held_at, owner_cmp}

-- Whether there is something, and it passes the test.
abbrev pub passes : {X : Type 0} → (X → Bool) → Option X → Bool
passes test None = false
passes test (Some x) = test x

-- Whether something is kept, and made for the scope.
abbrev pub was_made_for : {X : Type 0} → ScopeId → Option (Held X) → Bool
was_made_for scope kept = passes (λ thing. is_eq (scope_cmp scope thing.owner)) kept

-- The pairs are the things' scopes with their numbers; these ascend, and each is below the next.
pub record IsIndexed {X : Type 0}
    (held : List (ℕ × Held X)) (owners : List (ScopeId × ℕ)) (next : ℕ) : Type 0 where
  pub tied : (owned : ScopeId × ℕ)
      → list_any (is_at (owner_cmp owned)) owners ≡ was_made_for owned.0 (held_at owned.1 held)
  pub ascending : IsStrictlySortedBy nat_cmp (keys_of held)
  pub below : (number : ℕ) → IsSome (held_at number held) → number < next
