-- Batches of effects, one for each scope that has any, by order.
use Rattle.std.specs.Prelude.{ℕ, Bool, false, ◌||◌, ◌==◌, not, List, [], ◌∷◌, ◌++◌, map, if◌then◌else◌}
use Rattle.std.specs.List.{filter}
use Rattle.rt_sched.specs.Order.{order_before}
use Rattle.rt_sched.specs.declared.order.ScopeOrder.{ScopeOrder}

module _ {E : Type 0} where
  -- the orders of the batches
  abbrev pub batch_orders : List (ScopeOrder × List E) → List ScopeOrder
  batch_orders bs = map (λ b. b.0) bs

  -- whether a scope has a batch
  abbrev pub has_batch : ℕ → List (ScopeOrder × List E) → Bool
  has_batch n [] = false
  has_batch n (b ∷ bs) = n == b.0.id.0 || has_batch n bs

  -- one effect more, the last in the batch of a scope
  abbrev pub with_later : ℕ → E → List (ScopeOrder × List E) → List (ScopeOrder × List E)
  with_later n e [] = []
  with_later n e (b ∷ bs) = if n == b.0.id.0 then (b.0, b.1 ++ e ∷ []) ∷ with_later n e bs else b ∷ with_later n e bs

  -- a new batch in its place
  abbrev pub with_batch : ScopeOrder → List E → List (ScopeOrder × List E) → List (ScopeOrder × List E)
  with_batch o es [] = (o, es) ∷ []
  with_batch o es (b ∷ bs) = if order_before o b.0 then (o, es) ∷ b ∷ bs else b ∷ with_batch o es bs

  -- one effect more, the last in the batch of its scope
  abbrev pub with_effect : ScopeOrder → E → List (ScopeOrder × List E) → List (ScopeOrder × List E)
  with_effect o e bs = if has_batch o.id.0 bs then with_later o.id.0 e bs else with_batch o (e ∷ []) bs

  -- the batches without that of a scope
  abbrev pub without_batch : ℕ → List (ScopeOrder × List E) → List (ScopeOrder × List E)
  without_batch n bs = filter (λ b. not (n == b.0.id.0)) bs
