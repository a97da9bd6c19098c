-- What hidden scopes do: they write nothing, and their effects wait until they are shown at the end of a unit.
use Rattle.std.specs.Prelude.{ℕ, true, false, ◌&&◌, ◌||◌, List, [], ◌∷◌, Some, ◌≡◌, ◌⊎◌}
use Rattle.rt_model.specs.Lists.{at}
use Rattle.rt_model.specs.Tree.{Types}
use Rattle.rt_model.specs.World.{Application}
use Rattle.rt_model.specs.State.{Scope, State, is_shown}
use Rattle.rt_model.specs.Next.{RunEffects, next}
use Rattle.rt_model.specs.Replay.{Rerun, mounted_state}
use Rattle.rt_model.specs.Caused.{caused}

-- an item stands in a list
abbrev pub StandsIn : {A : Type 0} → List A → A → Type 0
StandsIn [] x = ⊥
StandsIn (y ∷ ys) x = (y ≡ x) ⊎ StandsIn ys x

module _ {K : Types} where
  -- a scope was shown at the end of the build or of a unit, and it has queued effects
  pub record HasEffects (w : State K) (s : ℕ) : Type 0 where
    pub row : Scope K
    pub first : K.Effect
    pub others : List K.Effect
    pub stands : StandsIn w.scopes (s, row)
    pub mounted : row.mounted ≡ true
    pub effects : row.effects ≡ first ∷ others

-- a rerun of a scope that isn't shown before and after it writes no edit
abbrev pub HiddenWritesNothing : {K : Types} → Application K → Type 0
HiddenWritesNothing {K = K} app = (w v : State K) (s : ℕ) → is_shown w s && is_shown v s ≡ false → caused app w v (Rerun s) ≡ []

-- effects come up only of scopes that are mounted
abbrev pub EffectsAreMounted : Types → Type 0
EffectsAreMounted K = (w : State K) (s : ℕ) → next w ≡ Some (RunEffects s) → HasEffects w s

-- at the end of the build and of a unit just those scopes become mounted that are shown, and none stops being so
abbrev pub ShownAreMounted : Types → Type 0
ShownAreMounted K =
    (w : State K) (s : ℕ) (x : Scope K)
    → at w.scopes s ≡ Some x
    → at (mounted_state w).scopes s ≡ Some (record x { mounted = x.mounted || is_shown w s })
