-- What a scope provides: looked up, and put in its place.
use Rattle.std.proofs.Common.{◌≡◌, ℕ, Bool, true, false, List, [], ◌∷◌, map, refl, ap, sym, ◌∙◌, IsTrue, ◌↔◌}
use Rattle.std.specs.Prelude.{nat_eq, Option, Some, None, option_map, if◌then◌else◌}
use Rattle.rt_model.specs.Lists.{at, put}
use Rattle.rt_model.specs.Tree.{Types}
use Rattle.rt_model.specs.Laws.{Tests}
use Rattle.rt_model.specs.World as world
use Rattle.rt_model.specs.World.{Application}
use Rattle.rt_model.specs.State as model
use Rattle.rt_model.specs.State.{change}
use Rattle.rt_model.specs.Commands.{tell, provided_at, provide_context}
use Rattle.run_records.specs.Kept.{provided_of}
use Rattle.run_records.specs.declared.rows.Provided.{Provided}
use Rattle.run_records.specs.Provisions.{put_provided}
use Rattle.run_state.specs.Provided.{is_provided, provides_now}

module _ {P C Q V H T E L : Type 0} where
  -- the model's put is that of code
  pub put-mirrored : (ps : List (Provided P C Q V H T E L)) (kind : ℕ) (value : V) → map provided_of (put_provided ps kind value) ≡ put (map provided_of ps) kind value
  put-mirrored [] kind value = refl
  put-mirrored (p ∷ ps) kind value = either (nat_eq p.kind kind) p ps (put_provided ps kind value) (put (map provided_of ps) kind value) kind value (put-mirrored ps kind value)
    where
      either : (b : Bool) (p : Provided P C Q V H T E L) (ps rest : List (Provided P C Q V H T E L)) (other : List (ℕ × V)) (kind : ℕ) (value : V) → map provided_of rest ≡ other
          → map provided_of (if b then record { kind = kind; value = value } ∷ ps else p ∷ rest) ≡ (if b then (kind, value) ∷ map provided_of ps else provided_of p ∷ other)
      either true p ps rest other kind value is = refl
      either false p ps rest other kind value is = ap (λ xs. provided_of p ∷ xs) is

module _ {K : Types} (app : Application K) where
  -- equal values as the application tells them
  pub tested : (decides : Tests K.Value app.same_value) (b : Bool) (old v : K.Value) → (IsTrue b ↔ (old ≡ v)) → b ≡ app.same_value old v
  tested decides true old v is = sym (ap (λ x. app.same_value old x) (sym (is.0 refl)) ∙ decides.1 old)
  tested decides false old v is = differs (app.same_value old v) refl
    where
      differs : (c : Bool) → app.same_value old v ≡ c → false ≡ c
      differs true same = is.1 (decides.0 old v same)
      differs false same = refl

  pub provided_none : (w : model.State K) (s k : ℕ) (v : K.Value) → at w.scopes s ≡ None → None ≡ provides_now app w s k v
  provided_none w s k v gone = ap (λ (o : Option (model.Scope K)). option_map (λ x. is_provided app v (at x.contexts k)) o) (sym gone)

  pub provided_some : (w : model.State K) (s k : ℕ) (v : K.Value) (x : model.Scope K) (b : Bool) → at w.scopes s ≡ Some x → b ≡ is_provided app v (at x.contexts k) → Some b ≡ provides_now app w s k v
  provided_some w s k v x b stood is = ap (λ c. Some c) is ∙ ap (λ (o : Option (model.Scope K)). option_map (λ x. is_provided app v (at x.contexts k)) o) (sym stood)

  abbrev put_there : model.State K → ℕ → ℕ → K.Value → model.State K
  put_there w s k v = change w s (λ x. record x { contexts = put x.contexts k v })

  abbrev provide_by : model.State K → ℕ → ℕ → K.Value → Option Bool → model.State K
  provide_by w s k v None = w
  provide_by w s k v (Some true) = put_there w s k v
  provide_by w s k v (Some false) = tell (put_there w s k v) (world.Context k s)

  told_or_not : (w : model.State K) (s k : ℕ) (v : K.Value) (b : Bool) → provide_by w s k v (Some b) ≡ (if b then put_there w s k v else tell (put_there w s k v) (world.Context k s))
  told_or_not w s k v true = refl
  told_or_not w s k v false = refl

  by_value : (w : model.State K) (s k : ℕ) (v : K.Value) (o : Option K.Value) → provide_by w s k v (Some (is_provided app v o)) ≡ provided_at app w s k v o
  by_value w s k v None = refl
  by_value w s k v (Some old) = told_or_not w s k v (app.same_value old v)

  by_scope : (w : model.State K) (s k : ℕ) (v : K.Value) (o : Option (model.Scope K)) → provide_by w s k v (option_map (λ x. is_provided app v (at x.contexts k)) o)
      ≡ elim o [ None ↦ w | Some x ↦ provided_at app w s k v (at x.contexts k) ]
  by_scope w s k v None = refl
  by_scope w s k v (Some x) = by_value w s k v (at x.contexts k)

  provides : (w : model.State K) (s k : ℕ) (v : K.Value) (o : Option Bool) → o ≡ provides_now app w s k v → provide_by w s k v o ≡ provide_context app w s k v
  provides w s k v o is = ap (provide_by w s k v) is ∙ by_scope w s k v (at w.scopes s)

  pub provides_nothing : (w : model.State K) (s k : ℕ) (v : K.Value) → None ≡ provides_now app w s k v → w ≡ provide_context app w s k v
  provides_nothing w s k v is = provides w s k v None is

  pub provides_same : (w u : model.State K) (s k : ℕ) (v : K.Value) (b : Bool) → b ≡ true → Some b ≡ provides_now app w s k v → u ≡ put_there w s k v → u ≡ provide_context app w s k v
  provides_same w u s k v b holds_it is made = made ∙ provides w s k v (Some true) (ap (λ c. Some c) (sym holds_it) ∙ is)

  pub provides_other : (w u : model.State K) (s k : ℕ) (v : K.Value) (b : Bool) → b ≡ false → Some b ≡ provides_now app w s k v → u ≡ put_there w s k v → tell u (world.Context k s) ≡ provide_context app w s k v
  provides_other w u s k v b isnt is made = ap (λ x. tell x (world.Context k s)) made ∙ provides w s k v (Some false) (ap (λ c. Some c) (sym isnt) ∙ is)
