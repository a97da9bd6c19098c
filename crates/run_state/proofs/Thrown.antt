-- Errors that come to a boundary, and what waits for a suspense boundary.
use Rattle.std.proofs.Common.{◌≡◌, ℕ, refl, ap, sym, ◌∙◌}
use Rattle.std.specs.Prelude.{Option, Some, None, option_map, is_some, true, false, if◌then◌else◌}
use Rattle.rt_model.specs.Lists.{at}
use Rattle.rt_model.specs.Tree.{Types, CapturedError}
use Rattle.rt_model.specs.World as world
use Rattle.rt_model.specs.State as model
use Rattle.rt_model.specs.State.{change, error_context}
use Rattle.rt_model.specs.Commands.{tell, thrown_to, caught_at, throw_error, cleared_at, clear_error}

module _ {K : Types} where
  -- no boundary is above
  pub thrown_nowhere : (w : model.State K) (s : ℕ) (e : CapturedError) → None ≡ error_context w s → w ≡ throw_error w s e
  thrown_nowhere w s e none = ap (thrown_to w e) none

  caught_by : (w : model.State K) (e : CapturedError) (b : ℕ) (found : Option (model.Scope K)) → at w.scopes b ≡ found
      → elim found [ None ↦ w | Some x ↦ caught_at w e b x.error ] ≡ thrown_to w e (Some b)
  caught_by w e b found is = ap (λ (o : Option (model.Scope K)). elim o as (λ _. model.State K) [ None ↦ w | Some x ↦ caught_at w e b x.error ]) (sym is)

  -- the boundary is gone
  pub thrown_gone : (w : model.State K) (s b : ℕ) (e : CapturedError) → Some b ≡ error_context w s → at w.scopes b ≡ None → w ≡ throw_error w s e
  thrown_gone w s b e above gone = caught_by w e b None gone ∙ ap (thrown_to w e) above

  full : (w : model.State K) (e : CapturedError) (b : ℕ) (slot : Option CapturedError) → is_some slot ≡ true → w ≡ caught_at w e b slot
  full w e b None is = absurd (cc is)
  full w e b (Some old) is = refl

  -- its slot is full
  pub thrown_full : (w : model.State K) (s b : ℕ) (e : CapturedError) (x : model.Scope K) → Some b ≡ error_context w s → at w.scopes b ≡ Some x → is_some x.error ≡ true → w ≡ throw_error w s e
  thrown_full w s b e x above stood is = full w e b x.error is ∙ caught_by w e b (Some x) stood ∙ ap (thrown_to w e) above

  empty : (w : model.State K) (e : CapturedError) (b : ℕ) (slot : Option CapturedError) → is_some slot ≡ false → tell (change w b (λ y. record y { error = Some e })) (world.Error b) ≡ caught_at w e b slot
  empty w e b None is = refl
  empty w e b (Some old) is = absurd (cc is)

  -- its slot is filled, and its readers are told
  pub thrown_in : (w v : model.State K) (s b : ℕ) (e : CapturedError) (x : model.Scope K) → Some b ≡ error_context w s → at w.scopes b ≡ Some x → is_some x.error ≡ false
      → v ≡ change w b (λ y. record y { error = Some e }) → tell v (world.Error b) ≡ throw_error w s e
  thrown_in w v s b e x above stood is filled =
      ap (λ u. tell u (world.Error b)) filled ∙ empty w e b x.error is ∙ caught_by w e b (Some x) stood ∙ ap (thrown_to w e) above

  pub cleared_nowhere : (w : model.State K) (s : ℕ) → None ≡ error_context w s → w ≡ clear_error w s
  cleared_nowhere w s none = ap (cleared_at w) none

  pub cleared_in : (w v : model.State K) (s b : ℕ) → Some b ≡ error_context w s → v ≡ change w b (λ y. record y { error = None }) → tell v (world.Error b) ≡ clear_error w s
  cleared_in w v s b above emptied = ap (λ u. tell u (world.Error b)) emptied ∙ ap (cleared_at w) above
