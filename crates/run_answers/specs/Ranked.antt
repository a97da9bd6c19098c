-- The live scopes, listed with their heights.
use Rattle.std.specs.Prelude.{◌≡◌, ◌&&◌, ℕ, Bool, nat_eq, List, is_some}
use Rattle.rt_model.specs.Lists.{at}
use Rattle.rt_model.specs.Tree.{Types}
use Rattle.rt_model.specs.State.{Scope, height_of}
use Rattle.run_state.specs.Effects.{has_rank}

module _ {K : Types} where
  -- the scope of a number is live and has a height
  abbrev pub stands_at : List (ℕ × Scope K) → ℕ → ℕ → Bool
  stands_at scopes h s = is_some (at scopes s) && nat_eq (height_of scopes s) h

  -- just the live scopes are listed, each with its height
  abbrev pub AreRanked : List (ℕ × Scope K) → List (ℕ × ℕ) → Type 0
  AreRanked scopes ranks = (h s : ℕ) → has_rank ranks h s ≡ stands_at scopes h s
