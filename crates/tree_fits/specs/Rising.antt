-- Names that ascend by their bytes, whatever their namespaces are.
use Rattle.std.specs.Prelude.{ℕ, List, [], ◌∷◌, Option, Some, None, if◌then◌else◌}
use Rattle.std.specs.Ordering.{is_lt, nat_cmp}
use Rattle.std.specs.Cmp.Lexicographic.{slice_cmp}
use Rattle.tree_nodes.specs.Names.{Name}

-- the last of these names, or the text before them, where each comes after the one before it
abbrev pub risen : List ℕ → List Name → Option (List ℕ)
risen last [] = Some last
risen last (name ∷ rest) = if is_lt (slice_cmp nat_cmp last name.0) then risen name.0 rest else None
