-- A list turned round is the list from its newest item on.
use Rattle.std.proofs.Common.{◌≡◌, List, [], ◌∷◌, map, refl, sym, ap, ◌∙◌}
use Rattle.std.specs.Prelude.{reverse}
use Rattle.std.proofs.lemmas.List.{reverse-append, reverse-reverse}
use Rattle.run_records.specs.Records.{in_front, newest_first}
use Rattle.run_records.proofs.Gathered.{gathered-more, gathered-none}

module _ {A B : Type 0} (f : A → B) where
  turned : (ys : List A) → newest_first f (reverse ys) ≡ map f ys
  turned [] = gathered-none (in_front f) []
  turned (y ∷ ys) = ap (newest_first f) (reverse-append (y ∷ []) ys) ∙ gathered-more (in_front f) (reverse ys) y [] ∙ ap (λ zs. f y ∷ zs) (turned ys)

  pub newest-is : (xs : List A) → map f (reverse xs) ≡ newest_first f xs
  newest-is xs = sym (turned (reverse xs)) ∙ ap (newest_first f) (reverse-reverse xs)
