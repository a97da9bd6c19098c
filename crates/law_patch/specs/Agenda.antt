-- What the marks of two trees lead to is the agenda of the definitions, and the numbers that go are those that aren't kept.
use Rattle.std.specs.Prelude.{ℕ, if◌then◌else◌, List, [], ◌∷◌, map, ◌≡◌}
use Rattle.rt_model.specs.Lists.{joined}
use Rattle.rt_model.specs.Tree.{Types, Tree, Place, Kind, Spot, node_at, component_at, spots}
use Rattle.rt_model.specs.World.{Application}
use Rattle.rt_model.specs.State.{SideName}
use Rattle.rt_model.specs.Run.{has_node, serves, drops_of}
use Rattle.rt_model.specs.Heard.{number_at}
use Rattle.tree_marks.specs.Marks.{Mark, tree_marks}
use Rattle.tree_marks.specs.Deeds.{work_at, dropped_at, gone_at}

module _ {K : Types} where
  -- the numbers of the old tree's nodes, in its order, without those at whose place the new tree has a node of that kind
  abbrev pub not_kept : List (Spot K) → List (Place × Kind × ℕ) → List (Spot K) → List ℕ
  not_kept news numbers [] = []
  not_kept news numbers (node_at p k ∷ olds) =
      if has_node news p k then not_kept news numbers olds else number_at numbers p k ∷ not_kept news numbers olds
  not_kept news numbers (component_at p c ∷ olds) = not_kept news numbers olds

  -- marks do the agenda and the drops, and give up the numbers that aren't kept
  pub record Does (app : Application K) (marks : List (Mark K)) (scope : ℕ) (side : SideName) (numbers : List (Place × Kind × ℕ))
      (children : List (Place × ℕ)) (olds news : List (Spot K)) : Type 0 where
    -- the work that is opened
    pub work : joined (map (work_at scope side) marks) ≡ serves app scope side olds news
    -- the child scopes that are dropped
    pub drops : joined (map (dropped_at scope side children) marks) ≡ drops_of app scope side news children olds
    -- the numbers that go
    pub gone : joined (map (gone_at numbers) marks) ≡ not_kept news numbers olds

-- so do the marks of two trees
abbrev pub MarksDo : {K : Types} → Application K → Type 0
MarksDo {K = K} app =
    (scope : ℕ) (side : SideName) (numbers : List (Place × Kind × ℕ)) (children : List (Place × ℕ)) (above : Place) (new old : Tree K)
    → Does app (tree_marks app above new old) scope side numbers children (spots above old) (spots above new)
