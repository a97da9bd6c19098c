-- What a scope's record says, by what was found.
use Rattle.std.proofs.Common.{◌≡◌, ℕ, Bool, true, false, List, [], ap, sym}
use Rattle.std.specs.Prelude.{Option, Some, None, is_some}
use Rattle.rt_model.specs.State.{effects_of}
use Rattle.rt_model.specs.Lists.{at}
use Rattle.rt_model.specs.Tree.{Types}
use Rattle.rt_model.specs.World.{Hook}
use Rattle.rt_model.specs.State as model
use Rattle.rt_model.specs.Next.{scope_of_task, is_active}
use Rattle.rt_model.specs.Run.{has_output}
use Rattle.run_state.specs.Effects.{callbacks_of}

module _ {K : Types} (w : model.State K) (s : ℕ) where
  pub renders_found : (found : Option (model.Scope K)) → at w.scopes s ≡ found → elim found as (λ _. ℕ) [ None ↦ 0 | Some x ↦ x.renders ] ≡ model.renders_of w s
  renders_found found is = ap (λ (o : Option (model.Scope K)). elim o as (λ _. ℕ) [ None ↦ 0 | Some x ↦ x.renders ]) (sym is)

  pub hooks_found : (found : Option (model.Scope K)) → at w.scopes s ≡ found → elim found as (λ _. List (Hook K)) [ None ↦ [] | Some x ↦ x.hooks ] ≡ model.hooks_of w s
  hooks_found found is = ap (λ (o : Option (model.Scope K)). elim o as (λ _. List (Hook K)) [ None ↦ [] | Some x ↦ x.hooks ]) (sym is)

  pub output_found : (found : Option (model.Scope K)) → at w.scopes s ≡ found → elim found as (λ _. Bool) [ None ↦ true | Some x ↦ is_some x.main_side.output ] ≡ has_output w s
  output_found found is = ap (λ (o : Option (model.Scope K)). elim o as (λ _. Bool) [ None ↦ true | Some x ↦ is_some x.main_side.output ]) (sym is)

  pub scope_found : (found : Option (model.TaskRow K)) → at w.tasks s ≡ found → elim found as (λ _. ℕ) [ None ↦ 0 | Some x ↦ x.scope ] ≡ scope_of_task w s
  scope_found found is = ap (λ (o : Option (model.TaskRow K)). elim o as (λ _. ℕ) [ None ↦ 0 | Some x ↦ x.scope ]) (sym is)

  pub active_found : (found : Option (model.TaskRow K)) → at w.tasks s ≡ found → elim found as (λ _. Bool) [ None ↦ false | Some x ↦ x.active ] ≡ is_active w s
  active_found found is = ap (λ (o : Option (model.TaskRow K)). elim o as (λ _. Bool) [ None ↦ false | Some x ↦ x.active ]) (sym is)

  pub callbacks_found : (found : Option (model.Scope K)) → at w.scopes s ≡ found → elim found as (λ _. List (ℕ × K.Effect)) [ None ↦ [] | Some x ↦ x.callbacks ] ≡ callbacks_of w s
  callbacks_found found is = ap (λ (o : Option (model.Scope K)). elim o as (λ _. List (ℕ × K.Effect)) [ None ↦ [] | Some x ↦ x.callbacks ]) (sym is)

  pub effects_found : (found : Option (model.Scope K)) → at w.scopes s ≡ found → elim found as (λ _. List K.Effect) [ None ↦ [] | Some x ↦ x.effects ] ≡ effects_of w s
  effects_found found is = ap (λ (o : Option (model.Scope K)). elim o as (λ _. List K.Effect) [ None ↦ [] | Some x ↦ x.effects ]) (sym is)
