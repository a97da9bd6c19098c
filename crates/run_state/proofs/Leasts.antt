-- What comes up, or none of it.
use Rattle.std.proofs.Common.{◌≡◌, ℕ, Bool, refl, ap}
use Rattle.std.specs.Prelude.{Option, Some, None, option_map, if◌then◌else◌}
use Rattle.rt_model.specs.Next.{least, with_effects, is_before, or_effects, Work, RunEffects}
use Rattle.rt_model.specs.Tree.{Types}
use Rattle.rt_model.specs.State.{State}

-- a number, or none where a test holds
pub kept-or : (t : ℕ) {a b : Bool} → a ≡ b → ◌≡◌ {A = Option ℕ} (if a then None else Some t) (if b then None else Some t)
kept-or t is = ap (λ (b : Bool). if b then None else Some t) is

module _ {K : Types} where
  -- the effects come next, where nothing else does
  pub effects-mapped : (w : State K) → option_map RunEffects (least (λ s t. is_before w.scopes s t) (with_effects w.scopes)) ≡ or_effects w None
  effects-mapped w = mapped (least (λ s t. is_before w.scopes s t) (with_effects w.scopes))
    where
      mapped : (o : Option ℕ) → option_map RunEffects o ≡ elim o as (λ _. Option Work) [ None ↦ None | Some s ↦ Some (RunEffects s) ]
      mapped None = refl
      mapped (Some s) = refl
