-- Numbers and child scopes that are appended leave those that were there: so a side so far agrees with that of the end.
use Rattle.std.specs.Prelude.{ℕ, Bool, true, false, ◌&&◌, ◌||◌, List, [], ◌∷◌, ◌++◌, Some, ◌≡◌}
use Rattle.rt_model.specs.Tree.{Types, Place, same_place, Kind, same_kind, Spot, node_at, component_at}
use Rattle.rt_model.specs.State.{Side}
use Rattle.rt_model.specs.Run.{child_at}
use Rattle.rt_model.specs.Document.{Forest}
use Rattle.law_patch.specs.SoFar.{AgreeAt}

-- a node of this kind has a number at this place
abbrev pub is_numbered : List (Place × Kind × ℕ) → Place → Kind → Bool
is_numbered [] p k = false
is_numbered (e ∷ es) p k = (same_kind e.1 k && same_place e.0 p) || is_numbered es p k

module _ {K : Types} where
  -- a side knows a spot: its number, or its child scope, whose nodes so far are those of the end
  abbrev pub Knows : Side K → (ℕ → Forest) → (ℕ → Forest) → Spot K → Type 0
  Knows s f g (node_at p k) = is_numbered s.numbers p k ≡ true
  Knows s f g (component_at p c) = (t : ℕ) × (child_at s.children p ≡ Some t) × (f t ≡ g t)

-- where numbers and child scopes are only appended, a side agrees with that of the end at each spot that it knows
abbrev pub AppendedAgrees : Types → Type 0
AppendedAgrees K =
    (s t : Side K) (f g : ℕ → Forest) (numbers : List (Place × Kind × ℕ)) (children : List (Place × ℕ)) (spot : Spot K)
    → t.numbers ≡ s.numbers ++ numbers
    → t.children ≡ s.children ++ children
    → Knows s f g spot
    → AgreeAt s f t g spot
