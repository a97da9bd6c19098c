-- What stands at an index, and what a hook there comes to.
use Rattle.std.proofs.Common.{ℕ, true, List, [], ◌∷◌, ◌≡◌, refl, ap, cond, map}
use Rattle.std.specs.Prelude.{zero, suc, Option, Some, None, option_map}
use Rattle.std.specs.List.{slice_get}
use Rattle.rt_model.specs.Lists.{nth}
use Rattle.rt_model.specs.Program as program
use Rattle.rt_model.specs.Program.{kind_of, held_in, hooked, hook_value, hook_stands, past_hook, faults}
use Rattle.rt_model.specs.Tree.{Types}
use Rattle.rt_model.specs.World as model
use Rattle.author_calls.specs.Hooks.{kept, held_or}

-- the item at a position is the one at that index
pub nth-map : {X Y : Type 0} (f : X → Y) (xs : List X) (i : ℕ) → nth (map f xs) i ≡ option_map f (slice_get xs i)
nth-map f [] i = refl
nth-map f (x ∷ xs) zero = refl
nth-map f (x ∷ xs) (suc i) = nth-map f xs i

module _ {K : Types} where
  -- a hook whose kind may stand there is kept or passed
  pub hooked-kept : (w : model.World K) (c : program.Call K) (k : ℕ) (new : model.Hook K) (there : Option (model.Hook K))
      → hook_stands k there ≡ true → hooked w c k new there ≡ kept c new there
  hooked-kept w c k new None h = refl
  hooked-kept w c k new (Some m) h =
      ap (λ b. cond b (past_hook c) (past_hook (faults c (model.OtherHook w.given.scope c.index (kind_of m) k)))) h

  -- its value is the first one, or that which is kept
  pub value-held : (k : ℕ) (v : K.Value) (there : Option (model.Hook K)) → hook_stands k there ≡ true → hook_value k v there ≡ held_or v there
  value-held k v None h = refl
  value-held k v (Some m) h = ap (λ b. cond b (held_in m) None) h

-- what hooks come to
pub ruleset hooking = (nth-map, hooked-kept, value-held)

-- a value and a clean-up after it
pub ruleset pairing = (nth-map)
