-- What is asked of a state, by what was found.
use Rattle.std.proofs.Common.{◌≡◌, ℕ, ◌-◌, ◌||◌, Bool, true, false, List, ◌∷◌, ap, sym, ◌∙◌}
use Rattle.std.specs.Prelude.{nat_eq, Option, Some, None}
pub use Rattle.rt_lemmas.proofs.Lists.{next_drop}
use Rattle.rt_model.specs.Lists.{at}
use Rattle.rt_model.specs.Tree.{Types}
use Rattle.rt_model.specs.State.{Scope, State, parent_of}
use Rattle.rt_model.specs.Queries.{provided_here, provided_above, provider, is_above}
use Rattle.rt_model.specs.Rendering.{is_suspended_task, suspended_remains}
use Rattle.run_records.specs.Kept.{each}
use Rattle.run_state.specs.Mirror.{task_of}
use Rattle.run_state.specs.declared.state.TaskRow.{TaskRow}
use Rattle.run_state.proofs.Climbed.{one-less, no-steps}

module _ {K : Types} where
  -- what a scope that stands provides
  pub provided_there : (w : State K) (s kind : ℕ) (x : Scope K) → at w.scopes s ≡ Some x → at x.contexts kind ≡ provided_here w s kind
  provided_there w s kind x found = ap (λ (o : Option (Scope K)). elim o as (λ _. Option K.Value) [ None ↦ None | Some y ↦ at y.contexts kind ]) (sym found)

  -- one that doesn't stand provides nothing
  pub provided_gone : (w : State K) (s kind : ℕ) → at w.scopes s ≡ None → None ≡ provided_here w s kind
  provided_gone w s kind gone = ap (λ (o : Option (Scope K)). elim o as (λ _. Option K.Value) [ None ↦ None | Some y ↦ at y.contexts kind ]) (sym gone)

  -- what the nearest provider provides
  pub above_there : (w : State K) (s kind p : ℕ) → Some p ≡ provider w s kind → provided_here w p kind ≡ provided_above w s kind
  above_there w s kind p near = ap (λ (o : Option ℕ). elim o as (λ _. Option K.Value) [ None ↦ None | Some q ↦ provided_here w q kind ]) near

  -- where there is none
  pub above_none : (w : State K) (s kind : ℕ) → None ≡ provider w s kind → None ≡ provided_above w s kind
  above_none w s kind none = ap (λ (o : Option ℕ). elim o as (λ _. Option K.Value) [ None ↦ None | Some q ↦ provided_here w q kind ]) none

module _ {K : Types} (scopes : List (ℕ × Scope K)) where
  -- no step is left
  pub is_above_end : (n s a : ℕ) → nat_eq n 0 ≡ true → false ≡ is_above scopes n s a
  is_above_end n s a none = ap (λ m. is_above scopes m s a) (sym (no-steps n none))

  -- no scope is above
  pub is_above_top : (n s a : ℕ) → nat_eq n 0 ≡ false → None ≡ parent_of scopes s → false ≡ is_above scopes n s a
  is_above_top n s a some up =
      ap (λ (q : Option ℕ). elim q as (λ _. Bool) [ None ↦ false | Some p ↦ nat_eq p a || is_above scopes (n - 1) p a ]) up
      ∙ ap (λ m. is_above scopes m s a) (one-less n some)

  -- one scope is
  pub is_above_on : (n s a p : ℕ) → nat_eq n 0 ≡ false → Some p ≡ parent_of scopes s → (nat_eq p a || is_above scopes (n - 1) p a) ≡ is_above scopes n s a
  is_above_on n s a p some up =
      ap (λ (q : Option ℕ). elim q as (λ _. Bool) [ None ↦ false | Some p ↦ nat_eq p a || is_above scopes (n - 1) p a ]) up
      ∙ ap (λ m. is_above scopes m s a) (one-less n some)

module _ {P C Q V H T E L : Type 0} where
  -- the first task is one on which a body has suspended
  pub remains_first : (e : ℕ × TaskRow P C Q V H T E L) (es : List (ℕ × TaskRow P C Q V H T E L)) → is_suspended_task (task_of e.1).kind ≡ true
      → suspended_remains (each task_of (e ∷ es)) ≡ true
  remains_first e es is = ap (λ b. b || suspended_remains (each task_of es)) is

  -- it is another one
  pub remains_later : (e : ℕ × TaskRow P C Q V H T E L) (es : List (ℕ × TaskRow P C Q V H T E L)) → is_suspended_task (task_of e.1).kind ≡ false
      → suspended_remains (each task_of (e ∷ es)) ≡ suspended_remains (each task_of es)
  remains_later e es is = ap (λ b. b || suspended_remains (each task_of es)) is
