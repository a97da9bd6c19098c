-- The numbers of the nodes at the top of a row, and what is written of these alone.
use Rattle.std.specs.Prelude.{ℕ, List, [], ◌∷◌}
use Rattle.rt_model.specs.Document.{Edit, Empty, Forest, Node, RemoveNode, ReplaceNodeWith}

-- the numbers of a row's own nodes, whatever is below them
abbrev pub tops_of : Forest → List ℕ
tops_of Empty = []
tops_of (Node id content children rest) = id ∷ tops_of rest

-- each of these nodes is removed
abbrev pub removed : List ℕ → List Edit
removed [] = []
removed (n ∷ ns) = RemoveNode n ∷ removed ns

-- the first of these nodes is replaced by new ones, the others are removed
abbrev pub replaced : List ℕ → Forest → List Edit
replaced [] new = []
replaced (n ∷ ns) new = ReplaceNodeWith n new ∷ removed ns
