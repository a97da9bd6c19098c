-- The numbers and the child scopes of a side, by place.
use Rattle.std.specs.Prelude.{ℕ, List, [], ◌∷◌, ◌++◌, Option, None, Some, ◌≡◌}
use Rattle.rt_model.specs.Tree as model
use Rattle.rt_model.specs.Tree.{Types, Place}
use Rattle.rt_model.specs.State as state
use Rattle.rt_model.specs.Heard.{number_at}
use Rattle.rt_model.specs.Run.{child_at}
use Rattle.run_places.specs.declared.side.Side.{Side}
use Rattle.run_places.specs.Places.{side_of}

-- one more number under an index, after the others; none where there is no index
abbrev pub joined_under : Option ℕ → ℕ → List (ℕ × ℕ) → List (ℕ × ℕ)
joined_under None n es = es
joined_under (Some i) n es = es ++ (i, n) ∷ []

module _ {P C Q V H T E L : Type 0} where
  -- nothing was ever rendered on a side
  pub record IsBare (side : Side P C Q V H T E L) : Type 0 where
    pub output : side.output ≡ None
    pub nodes : side.nodes ≡ []
    pub seats : side.seats ≡ []
    pub numbers : side.numbers ≡ []
    pub children : side.children ≡ []

  -- the number of a place, 0 where it has none
  abbrev pub number_in : Side P C Q V H T E L → Place → model.Kind → ℕ
  number_in side p k = number_at (side_of side).numbers p k

  -- the child scope at a place
  abbrev pub child_in : Side P C Q V H T E L → Place → Option ℕ
  child_in side p = child_at (side_of side).children p

module _ {K : Types} where
  -- one more number, after the others
  abbrev pub and_number : state.Side K → Place × model.Kind × ℕ → state.Side K
  and_number a n = record a { numbers = a.numbers ++ n ∷ [] }

  -- one more child scope, after the others
  abbrev pub and_child : state.Side K → Place × ℕ → state.Side K
  and_child a c = record a { children = a.children ++ c ∷ [] }
