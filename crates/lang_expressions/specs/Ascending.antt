-- Texts that ascend by their bytes.
use Rattle.std.specs.Prelude.{ℕ, List, [], ◌∷◌, Bool, true, ◌&&◌}
use Rattle.std.specs.Ordering.{is_lt, nat_cmp}
use Rattle.std.specs.Cmp.Lexicographic.{slice_cmp}

-- each text comes after the one before it, the first one after this one
abbrev pub rises : List ℕ → List (List ℕ) → Bool
rises last [] = true
rises last (text ∷ rest) = is_lt (slice_cmp nat_cmp last text) && rises text rest

-- each text comes after the one before it
abbrev pub ascend : List (List ℕ) → Bool
ascend [] = true
ascend (text ∷ rest) = rises text rest
