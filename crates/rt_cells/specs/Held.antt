-- What is kept under numbers: each thing with the scope that it was made for.
use Rattle.std.specs.Prelude.{ℕ, Bool, not, List, map, Option, None, Some}
use Rattle.std.specs.Option.{option_map}
use Rattle.std.specs.declared.cmp.Ordering.{Ordering}
use Rattle.std.specs.Ordering.{is_eq, nat_cmp, then_cmp, on}
use Rattle.std.specs.List.{filter}
use Rattle.std.specs.Map.{lookup, remove_entry, set_value}
use Rattle.std.specs.BTreeMap.{insert_entry, is_at}
use Rattle.rt_values.specs.declared.names.ScopeId.{ScopeId}
use Rattle.rt_cells.specs.declared.numbered.Held.{Held}
use Rattle.rt_cells.specs.Orders.{scope_cmp}

-- Things by number, ascending, and the next number to be drawn.
pub record Numbers (X : Type 0) : Type 0 where
  pub held : List (ℕ × Held X)
  pub next : ℕ

module _ {X : Type 0} where
  -- What is kept under a number.
  abbrev pub held_at : ℕ → List (ℕ × Held X) → Option (Held X)
  held_at number held = lookup (is_at (nat_cmp number)) held

  -- The value that is kept under a number.
  abbrev pub value_at : ℕ → List (ℕ × Held X) → Option X
  value_at number held = option_map (λ h. h.value) (held_at number held)

  -- The scope that the thing of a number was made for.
  abbrev pub owner_at : ℕ → List (ℕ × Held X) → Option ScopeId
  owner_at number held = option_map (λ h. h.owner) (held_at number held)

  -- One more thing under its number.
  abbrev pub entered : ℕ → Held X → List (ℕ × Held X) → List (ℕ × Held X)
  entered number thing held = insert_entry nat_cmp held number thing

  -- All but the thing of a number.
  abbrev pub without : ℕ → List (ℕ × Held X) → List (ℕ × Held X)
  without number held = remove_entry (is_at (nat_cmp number)) held

  -- Another value under a number, for the same scope, where the number is kept.
  abbrev pub written : ℕ → X → List (ℕ × Held X) → List (ℕ × Held X)
  written number value held =
      elim (held_at number held) [
        | None ↦ held
        | Some thing ↦
            set_value (is_at (nat_cmp number)) held (record { owner = thing.owner; value = value })
      ]

  -- Whether a thing was made for the scope.
  abbrev pub is_of : ScopeId → ℕ × Held X → Bool
  is_of scope thing = is_eq (scope_cmp scope thing.1.owner)

  -- The numbers of a scope's things, ascending.
  abbrev pub numbers_of : ScopeId → List (ℕ × Held X) → List ℕ
  numbers_of scope held = map (λ thing. thing.0) (filter (is_of scope) held)

  -- All but a scope's things.
  abbrev pub without_scope : ScopeId → List (ℕ × Held X) → List (ℕ × Held X)
  without_scope scope held = filter (λ thing. not (is_of scope thing)) held

-- Numbers by their scopes, and then by themselves.
abbrev pub owner_cmp : ScopeId × ℕ → ScopeId × ℕ → Ordering
owner_cmp = then_cmp (on (λ owned. owned.0) scope_cmp) (on (λ owned. owned.1) nat_cmp)
