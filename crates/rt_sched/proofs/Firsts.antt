-- The first ones: of the scopes' lists as orders, and of the tasks.
use Rattle.std.proofs.Common.{◌≡◌, ℕ, true, false, cond, List, [], ◌∷◌, eqb, refl, ap, ◌∙◌, sym, subst, Option, Some, None}
use Rattle.std.proofs.lemmas.Bool.{eqb-true, ne_eqb, both_ways, false_from_ne_true}
use Rattle.std.specs.Option.{option_map}
use Rattle.rt_values.specs.declared.names.Task.{Task}
use Rattle.rt_sched.specs.Order.{same_order}
use Rattle.rt_sched.specs.Lines.{order_in, orders_of, first_in, first_order, first_under}
use Rattle.rt_sched.specs.Pending.{AllTagged}
use Rattle.rt_sched.specs.Kept.{AllOfScopes}
use Rattle.rt_sched.specs.Queues.{first_scope, first_task, first_task_of, lesser_work, next_work, scope_order}
use Rattle.rt_sched.specs.declared.order.ScopeOrder.{ScopeOrder}
use Rattle.rt_sched.proofs.KeptLemmas.{order_in_tagged, same_id}
use Rattle.rt_sched.proofs.RollLemmas.{same_order_itself}

-- a number as a task
abbrev pub task_named : ℕ → Task
task_named n = record { 0 = n }

abbrev pub task_at : ScopeOrder × ℕ → Task
task_at e = task_named e.1

-- the order under which a scope is entered
pub scope_order_in : (n : ℕ) (es : List (ScopeOrder × ℕ)) → AllTagged es → order_in n es ≡ scope_order n (orders_of es)
scope_order_in n [] t = refl
scope_order_in n (e ∷ es) t = rw t.0 (ap (λ (o : Option ScopeOrder). cond (eqb n e.0.id.0) (Some e.0) o) (scope_order_in n es t.1))

pub first_scope_in : (es : List (ScopeOrder × ℕ)) → first_order es ≡ first_scope (orders_of es)
first_scope_in [] = refl
first_scope_in (e ∷ es) = refl

pub first_task_in : (es : List (ScopeOrder × ℕ)) → first_task es ≡ option_map task_at (first_in es)
first_task_in [] = refl
first_task_in (e ∷ es) = refl

-- what comes next is the lesser of the first ones
pub next_of_firsts : (ss es : List (ScopeOrder × ℕ)) → lesser_work (first_order ss) (first_in es) ≡ next_work (orders_of ss) es
next_of_firsts [] [] = refl
next_of_firsts (s ∷ ss) [] = refl
next_of_firsts [] (e ∷ es) = refl
next_of_firsts (s ∷ ss) (e ∷ es) = refl

-- ---- the first task of a scope
-- it is the first under the scope's order
pub first_task_under : (n : ℕ) (o : ScopeOrder) (ss es : List (ScopeOrder × ℕ)) → AllTagged ss → order_in n ss ≡ Some o → AllOfScopes ss es
    → first_task_of n es ≡ option_map task_named (first_under o es)
first_task_under n o ss [] t h s = refl
first_task_under n o ss (e ∷ es) t h s =
    (elim (eqb n e.0.id.0) as (λ b. eqb n e.0.id.0 ≡ b → cond b (Some (task_named e.1)) (first_task_of n es) ≡ option_map task_named (cond (same_order o e.0) (Some e.1) (first_under o es))) [
      | true ↦ λ i.
          let at : Some o ≡ Some e.0 = sym h ∙ ap (λ (m : ℕ). order_in m ss) (eqb-true n e.0.id.0 i) ∙ s.0 in
          let is : o ≡ e.0 = cc in
          let same : same_order o e.0 ≡ true = subst (λ (p : ScopeOrder). same_order o p ≡ true) is (same_order_itself o) in
          rw same refl
      | false ↦ λ i.
          let id : o.id.0 ≡ n = order_in_tagged n o ss t h in
          let other : same_order o e.0 ≡ false = false_from_ne_true (same_order o e.0) (λ k. both_ways _ i (ap (λ (m : ℕ). eqb m e.0.id.0) (sym id) ∙ same_id o e.0 k)) in
          rw other (first_task_under n o ss es t h s.1)
    ]) refl

-- a scope that isn't entered has none
pub no_task_of : (n : ℕ) (ss es : List (ScopeOrder × ℕ)) → order_in n ss ≡ None → AllOfScopes ss es → first_task_of n es ≡ None
no_task_of n ss [] h s = refl
no_task_of n ss (e ∷ es) h s =
    let apart : eqb n e.0.id.0 ≡ false = ne_eqb n e.0.id.0 (λ i. let none : None ≡ Some e.0 = sym h ∙ ap (λ (m : ℕ). order_in m ss) i ∙ s.0 in absurd cc) in
    rw apart (no_task_of n ss es h s.1)
