-- What is left once all lines are made.
use Rattle.std.proofs.Common.{ℕ, List, [], ◌∷◌, ◌++◌, ◌≡◌, ◌≤◌, refl, sym, ap, ◌∙◌, drop, length}
use Rattle.std.proofs.Math.ListN.{drop_of_length-le}
use Rattle.examples_list.specs.Meaning.{ListTree, lines}

append_nil : {A : Type 0} (xs : List A) → xs ++ [] ≡ xs
append_nil [] = refl
append_nil (x ∷ xs) = ap (λ ys. x ∷ ys) (append_nil xs)

pub lines_all : (scope cell at : ℕ) (items : List (List ℕ)) (made : List ListTree)
    → length items ≤ at
    → made ++ lines scope cell at (drop at items) ≡ lines scope cell 0 items
    → made ≡ lines scope cell 0 items
lines_all scope cell at items made end before =
    sym (append_nil made) ∙ ap (λ xs. made ++ lines scope cell at xs) (sym (drop_of_length-le items end)) ∙ before
