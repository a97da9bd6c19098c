-- What a root provides before its first run.
use Rattle.std.proofs.Common.{ℕ, Bool, true, false, List, [], ◌∷◌, ◌≡◌, refl, ap, ◌∙◌}
use Rattle.std.specs.Prelude.{Option, Some, None, if◌then◌else◌}
use Rattle.rt_model.specs.Lists.{at, put}
use Rattle.rt_model.specs.Tree.{Types}
use Rattle.rt_model.specs.World.{Context, Firsts, Application}
use Rattle.rt_model.specs.State.{State, change}
use Rattle.rt_model.specs.Commands.{tell, provided_at, provide_context}
use Rattle.rt_model.specs.Replay.{Input, provided_all, start_with}
use Rattle.law_moves.specs.Reached.{start_at}

-- values by kind, one after another
abbrev pub provided_by : {V : Type 0} → List (ℕ × V) → List (ℕ × V) → List (ℕ × V)
provided_by contexts [] = contexts
provided_by contexts (e ∷ es) = provided_by (put contexts e.0 e.1) es

module _ {K : Types} (app : Application K) (props : K.Props) (firsts : Firsts) where
  -- the state at the start, with what the root provides
  abbrev given : List (ℕ × K.Value) → State K
  given contexts = (start_at app props firsts contexts []).state

  -- nobody reads it yet
  one_more : (contexts : List (ℕ × K.Value)) (k : ℕ) (v : K.Value) → provide_context app (given contexts) 0 k v ≡ given (put contexts k v)
  one_more contexts k v = by (at contexts k)
    where
      changed : State K
      changed = change (given contexts) 0 (λ x. record x { contexts = put x.contexts k v })

      either : (b : Bool) (x y z : State K) → x ≡ z → y ≡ z → (if b then x else y) ≡ z
      either true x y z p q = p
      either false x y z p q = q

      by : (o : Option K.Value) → provided_at app (given contexts) 0 k v o ≡ given (put contexts k v)
      by None = refl
      by (Some old) = either (app.same_value old v) changed (tell changed (Context k 0)) (given (put contexts k v)) refl refl

  all_provided : (es contexts : List (ℕ × K.Value)) → provided_all app (given contexts) es ≡ given (provided_by contexts es)
  all_provided [] contexts = refl
  all_provided (e ∷ es) contexts =
      ap (λ (w : State K). provided_all app w es) (one_more contexts e.0 e.1) ∙ all_provided es (put contexts e.0 e.1)

  pub starts_provide : (provided : List (ℕ × K.Value)) (inputs : List (Input K))
      → start_with app props firsts provided inputs ≡ start_at app props firsts (provided_by [] provided) inputs
  starts_provide provided inputs = ap (λ (w : State K). record (start_at app props firsts [] inputs) { state = w }) (all_provided provided [])
