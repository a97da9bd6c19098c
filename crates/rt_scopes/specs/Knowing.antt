-- What is known of the scopes on the way down to what a removal takes first, from one removal to the next.
use Rattle.std.specs.Prelude.{ℕ, false, nat_eq, List, [], ◌∷◌, slice_get, reverse, Option, Some, None, ◌≡◌}
use Rattle.rt_model.specs.Lists.{at, kept_by}
use Rattle.rt_model.specs.Tree.{Types}
use Rattle.rt_model.specs.State.{State, Item, Draw, Row, Feed, Make, Drop, is_live}
use Rattle.rt_model.specs.Removal.{children_below, next_removed}

-- the scope of the first of these rows, or the one that comes behind them
abbrev pub front_of : List (ℕ × List ℕ) → ℕ → ℕ
front_of [] t = t
front_of (row ∷ rows) t = row.0

module _ {K : Types} where
  -- the live children of a scope, in the order in which a removal takes them
  abbrev pub below_at : State K → ℕ → List ℕ
  below_at w s = children_below w (at w.scopes s)

  -- the first of them
  abbrev pub first_below : State K → ℕ → Option ℕ
  first_below w s = slice_get (below_at w s) 0

  -- those of these scopes that are live
  abbrev pub live_of : State K → List ℕ → List ℕ
  live_of w scopes = kept_by (λ (t : ℕ). is_live w t) scopes

  -- the last of these scopes that is live
  abbrev pub last_live : State K → List ℕ → Option ℕ
  last_live w left = slice_get (live_of w (reverse left)) 0

  -- the children of a scope are those beside it that are live, the last one first
  abbrev pub IsKnown : State K → ℕ × List ℕ → Type 0
  IsKnown w row = below_at w row.0 ≡ live_of w (reverse row.1)

  -- the first child of a scope is that of the next row, where there is one
  abbrev pub Follows : State K → ℕ → List (ℕ × List ℕ) → Type 0
  Follows w s [] = Unit {0}
  Follows w s (next ∷ rows) = first_below w s ≡ Some next.0

  -- each row is known, and leads down to the next one
  abbrev pub Knows : State K → List (ℕ × List ℕ) → Type 0
  Knows w [] = Unit {0}
  Knows w (row ∷ rows) = IsKnown w row × Follows w row.0 rows × Knows w rows

  -- so it is, and the last row leads down to this scope
  abbrev pub Leads : State K → List (ℕ × List ℕ) → ℕ → Type 0
  Leads w [] t = Unit {0}
  Leads w (row ∷ rows) t = IsKnown w row × (first_below w row.0 ≡ Some (front_of rows t)) × Leads w rows t

  -- so it is, and no row is that scope's
  abbrev pub Goes : State K → List (ℕ × List ℕ) → ℕ → Type 0
  Goes w [] t = Unit {0}
  Goes w (row ∷ rows) t =
      IsKnown w row × (first_below w row.0 ≡ Some (front_of rows t)) × (nat_eq t row.0 ≡ false) × Goes w rows t

  -- the scope that goes in a turn at an item, none but in one at a drop
  abbrev pub leaf_of : State K → Item K → Option ℕ
  leaf_of w (Draw s side p k) = None
  leaf_of w (Row b step) = None
  leaf_of w (Feed s side p c) = None
  leaf_of w (Make s side p c) = None
  leaf_of w (Drop t s side) = Some (next_removed w t)

  -- rows lead down to the scope that goes, and where none goes nothing is known
  abbrev pub GoesWhere : State K → List (ℕ × List ℕ) → Option ℕ → Type 0
  GoesWhere w rows None = rows ≡ []
  GoesWhere w rows (Some t) = Goes w rows t
