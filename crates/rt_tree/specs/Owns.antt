-- What a patch itself writes at a mark.
use Rattle.std.specs.Prelude.{ℕ, List, [], ◌∷◌}
use Rattle.rt_model.specs.Caused.{Both}
use Rattle.rt_model.specs.Document.{Edit}
use Rattle.rt_model.specs.Tree.{Types}
use Rattle.rt_model.specs.World.{Application}
use Rattle.tree_marks.specs.Marks.{Mark, stays, goes, comes, fed, left, made, given, worded, slot_goes, tree_goes, slot_way, tree_way, come_in, go_out, lone}
use Rattle.tree_marks.specs.Writing.{mark_writes}

-- the last of these numbers, or the one that came before them
abbrev pub last_or : ℕ → List ℕ → ℕ
last_or n [] = n
last_or n (m ∷ ms) = last_or m ms

module _ {K : Types} (app : Application K) (b : Both K) where
  -- what is written there, but for what a fed child scope writes: whoever feeds it tells that
  abbrev pub own_writes : Mark K → List Edit
  own_writes (stays p k) = []
  own_writes (goes p k) = []
  own_writes (comes p k) = []
  own_writes (fed p c d) = []
  own_writes (left p c) = []
  own_writes (made p d) = []
  own_writes (given above whole new old) = mark_writes app b (given above whole new old)
  own_writes (worded p new old) = mark_writes app b (worded p new old)
  own_writes (slot_goes p old) = []
  own_writes (tree_goes above old) = []
  own_writes (slot_way p new old) = mark_writes app b (slot_way p new old)
  own_writes (tree_way above new old) = mark_writes app b (tree_way above new old)
  own_writes (come_in p front i new) = mark_writes app b (come_in p front i new)
  own_writes (go_out p i old) = mark_writes app b (go_out p i old)
  own_writes (lone p new) = mark_writes app b (lone p new)
