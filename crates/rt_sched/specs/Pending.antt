-- How batches are kept: a line of scopes, and the effects of each by its number.
use Rattle.std.specs.Prelude.{◌≡◌, ℕ, List, [], ◌∷◌, map, Option, None, Some, is_some}
use Rattle.std.specs.Ordering.{nat_cmp}
use Rattle.std.specs.BTreeMap.{BTreeMap, get}
use Rattle.rt_sched.specs.Lines.{Row, waits}
use Rattle.rt_sched.specs.declared.order.ScopeOrder.{ScopeOrder}

-- each number is that of its order's scope
abbrev pub AllTagged : List (ScopeOrder × ℕ) → Type 0
AllTagged [] = Unit {0}
AllTagged (e ∷ es) = (e.1 ≡ e.0.id.0) × AllTagged es

module _ {E : Type 0} where
  -- the effects of a scope, none where it has no batch
  abbrev pub effects_of : Option (List E) → List E
  effects_of None = []
  effects_of (Some es) = es

  -- the batches of those that wait, first to last
  abbrev pub batches_of : BTreeMap ℕ (List E) → List (ScopeOrder × ℕ) → List (ScopeOrder × List E)
  batches_of m ws = map (λ w. (w.0, effects_of (get nat_cmp m w.1))) ws

  -- those that wait are those with a batch, under their own numbers
  pub record ArePending (line : Row) (batches : BTreeMap ℕ (List E)) : Type 0 where
    pub kept : (q : ℕ) → waits q line.waiting ≡ is_some (get nat_cmp batches q)
    pub tagged : AllTagged line.waiting
