-- A test of lists by one of their items.
use Rattle.std.proofs.Common.{refl, ap, ◌∙◌}
use Rattle.std.specs.Prelude.{Bool, true, false, ◌&&◌, List, [], ◌∷◌, ◌≡◌}
use Rattle.rt_author.specs.Laws.{Tests}
use Rattle.rt_author.specs.Lists.{same_list}

both : (a b : Bool) → a ≡ true → b ≡ true → (a && b) ≡ true
both true b h k = k
both false b h k = h

left : (a b : Bool) → (a && b) ≡ true → a ≡ true
left true b h = refl
left false b h = h

right : (a b : Bool) → (a && b) ≡ true → b ≡ true
right true b h = h
right false b h = cc

-- a test that decides items decides lists of them
pub list_tests : {A : Type 0} (same : A → A → Bool) → Tests A same → Tests (List A) (same_list same)
list_tests {A} same tests = (alike, itself)
  where
    alike : (xs ys : List A) → same_list same xs ys ≡ true → xs ≡ ys
    alike [] [] h = refl
    alike [] (b ∷ ys) h = cc
    alike (a ∷ xs) [] h = cc
    alike (a ∷ xs) (b ∷ ys) h =
        ap (λ x. x ∷ xs) (tests.0 a b (left (same a b) (same_list same xs ys) h))
        ∙ ap (λ zs. b ∷ zs) (alike xs ys (right (same a b) (same_list same xs ys) h))

    itself : (xs : List A) → same_list same xs xs ≡ true
    itself [] = refl
    itself (a ∷ xs) = both (same a a) (same_list same xs xs) (tests.1 a) (itself xs)
