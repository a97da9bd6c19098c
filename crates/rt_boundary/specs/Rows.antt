-- What follows the children of a boundary that is made.
use Rattle.std.specs.Prelude.{ℕ, Bool, List, [], ◌∷◌, if◌then◌else◌}
use Rattle.rt_model.specs.Tree.{Types}
use Rattle.rt_model.specs.State.{Item, RunFallback, ShowFallback, ShowChildren, Resolve}
use Rattle.rt_model.specs.Run.{row_items}

module _ {K : Types} where
  -- its fallback where it is held, else its children
  abbrev pub made_items : ℕ → Bool → List (Item K)
  made_items b held = row_items b (if held then RunFallback ∷ ShowFallback ∷ [] else ShowChildren ∷ Resolve ∷ [])
