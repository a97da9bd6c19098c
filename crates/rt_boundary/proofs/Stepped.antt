-- One step of a boundary's run, by what was found of the boundary.
use Rattle.std.proofs.Common.{◌≡◌, ℕ, ◌++◌, true, false, [], ◌∷◌, Option, Some, None, refl, ap, sym, subst, ◌∙◌}
use Rattle.std.specs.Prelude.{IfSome, is_some, is_ok, Result, Ok, Err}
use Rattle.tree_nodes.specs.declared.error.RenderError.{RenderError}
use Rattle.tree_nodes.specs.declared.error.RenderError.TheVariants as errors
use Rattle.tree_nodes.specs.declared.vnode.VNode.{VNode}
use Rattle.rt_model.specs.OneLog.{types}
use Rattle.tree_mirror.specs.Sealed.{element_of}
use Rattle.rt_model.specs.Lists.{at, drop_number, without}
use Rattle.rt_model.specs.Tree.{Types, Element, SuspenseBoundary}
use Rattle.rt_model.specs.World.{Application}
use Rattle.rt_model.specs.State.{ChildrenSide, FallbackSide, RowStep, ShowFallback, ShowChildren, DropFallback, Resolve, Scope, State, Done, change, empty_side, is_live}
use Rattle.rt_model.specs.Boundary.{boundary_step, called_back, counts_render, drop_items, row_step, side_scopes}
use Rattle.rt_scopes.specs.Sides.{fallback_scopes_in}
use Rattle.run_state.specs.Effects.{callbacks_of}

-- what holds of the row that was found holds of the one that is there
pub if_found : {A : Type 0} {o : Option A} (x : A) → Some x ≡ o → (P : A → Type 0) → P x → IfSome o P
if_found x is P h = subst (λ o. IfSome o P) is h

module _ {K : Types} where
  none_there : (o : Option (Scope K)) → is_some o ≡ false → o ≡ None
  none_there None h = refl
  none_there (Some x) h = cc

  some_there : (o : Option (Scope K)) → is_some o ≡ true → (x : Scope K) × (o ≡ Some x)
  some_there None h = cc
  some_there (Some x) h = (x, refl)

module _ {K : Types} (app : Application K) where
  -- it is live
  pub step_found : (w : State K) (b : ℕ) (x : Scope K) (step : RowStep) → at w.scopes b ≡ Some x → boundary_step app w b step ≡ row_step app w b x step
  step_found w b x step found = ap (λ (o : Option (Scope K)). elim o [ None ↦ Done w [] | Some y ↦ row_step app w b y step ]) found

  -- it is gone
  pub step_gone : (w : State K) (b : ℕ) (step : RowStep) → at w.scopes b ≡ None → boundary_step app w b step ≡ Done w []
  step_gone w b step gone = ap (λ (o : Option (Scope K)). elim o [ None ↦ Done w [] | Some y ↦ row_step app w b y step ]) gone

  -- the test says that it is gone
  pub step_dead : (w : State K) (b : ℕ) (step : RowStep) → is_live w b ≡ false → boundary_step app w b step ≡ Done w []
  step_dead w b step dead = step_gone w b step (none_there (at w.scopes b) dead)

  -- the fallback shows
  pub step_fallback : (w : State K) (b : ℕ) → is_live w b ≡ true
      → boundary_step app w b ShowFallback ≡ Done (change (record w { resolved = drop_number w.resolved b }) b (λ y. record y { shows = Some FallbackSide })) []
  step_fallback w b live = let found = some_there (at w.scopes b) live in step_found w b found.0 ShowFallback found.1

  -- the children show
  pub step_children : (w : State K) (b : ℕ) → is_live w b ≡ true
      → boundary_step app w b ShowChildren ≡ Done (change (record w { last_calls = without w.last_calls b }) b (λ y. record y { shows = Some ChildrenSide; reads = [] })) []
  step_children w b live = let found = some_there (at w.scopes b) live in step_found w b found.0 ShowChildren found.1

  -- the fallback's output goes
  pub step_drops : (w : State K) (b : ℕ) → is_live w b ≡ true
      → boundary_step app w b DropFallback ≡ Done (change w b (λ y. record y { fallback_side = empty_side })) (drop_items b FallbackSide (fallback_scopes_in w b))
  step_drops w b live =
      let found = some_there (at w.scopes b) live in
      step_found w b found.0 DropFallback found.1
      ∙ ap (λ ts. Done (change w b (λ y. record y { fallback_side = empty_side })) (drop_items b FallbackSide ts))
      (ap (λ (o : Option (Scope K)). elim o [ None ↦ [] | Some x ↦ side_scopes w x.fallback_side ]) (sym found.1))

  -- the callbacks are called
  pub step_resolves : (w : State K) (b : ℕ) → is_live w b ≡ true
      → boundary_step app w b Resolve ≡ called_back app (change (record w { resolved = w.resolved ++ b ∷ [] }) b (λ y. record y { callbacks = [] })) (callbacks_of w b)
  step_resolves w b live =
      let found = some_there (at w.scopes b) live in
      step_found w b found.0 Resolve found.1
      ∙ ap (λ es. called_back app (change (record w { resolved = w.resolved ++ b ∷ [] }) b (λ y. record y { callbacks = [] })) es)
      (ap (λ (o : Option (Scope K)). elim o [ None ↦ [] | Some x ↦ x.callbacks ]) (sym found.1))

module _ {P C Q V H T E L : Type 0} where
  -- an answer of a fallback's component counts where it is a tree
  pub counts_ok : (answer : Result (VNode P C Q V H T E L) RenderError) (children : Element (types C Q V H T E L)) (f : C × Q)
      → is_ok answer ≡ counts_render (SuspenseBoundary children (Some f)) (element_of answer)
  counts_ok (Ok t) children f = refl
  counts_ok (Err (errors.Error e)) children f = refl
  counts_ok (Err (errors.Suspended e)) children f = refl
