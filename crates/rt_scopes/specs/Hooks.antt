-- The effects among hooks, and several things in turn.
use Rattle.std.specs.Prelude.{ℕ, Bool, false, nat_eq, List, [], ◌∷◌, ◌++◌, if◌then◌else◌}
use Rattle.rt_model.specs.Tree.{Types}
use Rattle.rt_model.specs.World.{Application, after_render_kind, before_render_kind}
use Rattle.rt_model.specs.State.{State, Outcome, Done, onward, is_live}
use Rattle.rt_model.specs.Run.{acted}
use Rattle.run_records.specs.declared.rows.Hook.{Hook}
use Rattle.run_records.specs.declared.rows.Hook.TheVariants as hooks

-- the kind of the hooks that are called after a run, or before it
abbrev pub render_kind : Bool → ℕ
render_kind after = if after then after_render_kind else before_render_kind

module _ {P C Q V H T E L : Type 0} where
  -- the effect of a hook, where it is one of this kind
  abbrev pub effect_in : ℕ → Hook P C Q V H T E L → List E
  effect_in kind (hooks.Value k v) = []
  effect_in kind (hooks.Effect k e) = if nat_eq k kind then e ∷ [] else []

  -- the effects of a kind, in order
  abbrev pub effects_in : ℕ → List (Hook P C Q V H T E L) → List E
  effects_in kind [] = []
  effects_in kind (h ∷ hs) = effect_in kind h ++ effects_in kind hs

module _ {K : Types} where
  -- one thing after another, each on the state that the one before it left
  abbrev pub in_turn : {X : Type 0} → (State K → X → Outcome K) → State K → List X → Outcome K
  in_turn step w [] = Done w []
  in_turn step w (x ∷ xs) = onward (step w x) (λ v. in_turn step v xs)

module _ {K : Types} (app : Application K) where
  -- a resolved callback in its scope, where that is live
  abbrev pub one_called : State K → ℕ × K.Effect → Outcome K
  one_called w e = if is_live w e.0 then acted app w e.0 e.1 false else Done w []
