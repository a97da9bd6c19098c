-- What a mark reads of the new tree was met in front of it.
use Rattle.std.specs.Prelude.{List, [], ◌∷◌, ◌++◌, Contains}
use Rattle.rt_model.specs.Tree.{Types, Tree, Place, Spot}
use Rattle.rt_model.specs.World.{Application}
use Rattle.tree_marks.specs.Marks.{Mark, tree_marks}
use Rattle.tree_marks.specs.Spots.{brings, reads}

module _ {K : Types} where
  -- each of these spots is known
  abbrev pub AllKnown : List (Spot K) → List (Spot K) → Type 0
  AllKnown known ss = (s : Spot K) → Contains ss s → Contains known s

  -- each mark reads what is known or was met in front of it
  abbrev pub ReadBehind : List (Spot K) → List (Mark K) → Type 0
  ReadBehind known [] = Unit {0}
  ReadBehind known (m ∷ marks) = AllKnown known (reads m) × ReadBehind (known ++ brings m) marks

-- so it is along the marks of two trees, where nothing was known before
abbrev pub MarksReadBehind : {K : Types} → Application K → Type 0
MarksReadBehind {K = K} app = (above : Place) (new old : Tree K) → ReadBehind [] (tree_marks app above new old)
