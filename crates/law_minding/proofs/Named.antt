-- Which sources a reactive context names.
use Rattle.std.proofs.Common.{Bool, true, false, ◌||◌, List, [], ◌∷◌, ◌++◌, ◌≡◌, inl, inr, refl, sym, subst}
use Rattle.std.specs.Prelude.{◌⊎◌, if◌then◌else◌, reverse}
use Rattle.std.specs.List.{AllByRecursion}
use Rattle.std.proofs.lemmas.Grind.{reverse_onto}
use Rattle.rt_model.specs.World.{Source, same_source}
use Rattle.rt_model.specs.Commands.{names_source, one_more_source}
use Rattle.rt_model.proofs.Maps.{by_test, pick_true, pick_false}
use Rattle.rt_model.proofs.Members.{clash, or_left, or_right, by_either}
use Rattle.rt_model.proofs.SameTrees.{source_tests}

-- where the first of two tests fails the other one holds
the_other : (a b : Bool) → a ≡ false → (a || b) ≡ true → b ≡ true
the_other a b e h = by_either a b h (λ p. clash p e) (λ q. q)

-- something holds, or another thing of each source that is named
pub each_or : (P : Type 0) (Q : Source → Type 0) (xs : List Source)
    → ((i : Source) → names_source xs i ≡ true → Q i ⊎ P)
    → P ⊎ ((i : Source) → names_source xs i ≡ true → Q i)
each_or P Q [] h = inr (λ i e. clash e refl)
each_or P Q (y ∷ ys) h =
    elim (h y (or_left (same_source y y) (names_source ys y) (source_tests.1 y))) [
      | inr p ↦ inl p
      | inl q ↦ onward q (each_or P Q ys (λ i e. h i (or_right (same_source y i) (names_source ys i) e)))
    ]
  where
    onward : Q y → P ⊎ ((i : Source) → names_source ys i ≡ true → Q i) → P ⊎ ((i : Source) → names_source (y ∷ ys) i ≡ true → Q i)
    onward q (inl p) = inl p
    onward q (inr g) =
        inr
        (
        λ i e.
        by_test (same_source y i)
        (λ is. subst (λ (x : Source). Q x) (source_tests.0 y i is) q)
        (λ other. g i (the_other (same_source y i) (names_source ys i) other e))
        )

-- what a context names once these sources more were read into it, in order
abbrev pub gathered : List Source → List Source → List Source
gathered ys [] = ys
gathered ys (x ∷ xs) = gathered (one_more_source ys x) xs

-- a source that is named stays so
names_append : (ys : List Source) (x i : Source) → names_source ys i ≡ true → names_source (ys ++ x ∷ []) i ≡ true
names_append [] x i h = clash h refl
names_append (y ∷ ys) x i h =
    by_test (same_source y i)
    (λ is. or_left (same_source y i) (names_source (ys ++ x ∷ []) i) is)
    (
    λ other.
    or_right (same_source y i) (names_source (ys ++ x ∷ []) i)
    (names_append ys x i (the_other (same_source y i) (names_source ys i) other h))
    )

-- and the one that is read last is named
names_last : (ys : List Source) (x : Source) → names_source (ys ++ x ∷ []) x ≡ true
names_last [] x = or_left (same_source x x) false (source_tests.1 x)
names_last (y ∷ ys) x = or_right (same_source y x) (names_source (ys ++ x ∷ []) x) (names_last ys x)

kept_once : (ys : List Source) (x i : Source) → names_source ys i ≡ true → names_source (one_more_source ys x) i ≡ true
kept_once ys x i h = either (names_source ys x)
  where
    either : (b : Bool) → names_source (if b then ys else ys ++ x ∷ []) i ≡ true
    either true = h
    either false = names_append ys x i h

named_once : (ys : List Source) (x : Source) → names_source (one_more_source ys x) x ≡ true
named_once ys x =
    by_test (names_source ys x)
    (λ q. subst (λ (zs : List Source). names_source zs x ≡ true) (sym (pick_true ys (ys ++ x ∷ []) q)) q)
    (λ q. subst (λ (zs : List Source). names_source zs x ≡ true) (sym (pick_false ys (ys ++ x ∷ []) q)) (names_last ys x))

kept_all : (xs ys : List Source) (i : Source) → names_source ys i ≡ true → names_source (gathered ys xs) i ≡ true
kept_all [] ys i h = h
kept_all (x ∷ xs) ys i h = kept_all xs (one_more_source ys x) i (kept_once ys x i h)

-- all sources that were read are named
pub all_named : (xs ys : List Source) → AllByRecursion (λ i. names_source (gathered ys xs) i ≡ true) xs
all_named [] ys = tt
all_named (x ∷ xs) ys = (kept_all xs (one_more_source ys x) x (named_once ys x), all_named xs (one_more_source ys x))

all_and_last : (P : Source → Type 0) (xs : List Source) (y : Source) → AllByRecursion P xs → P y → AllByRecursion P (xs ++ y ∷ [])
all_and_last P [] y h k = (k, tt)
all_and_last P (x ∷ xs) y h k = (h.0, all_and_last P xs y h.1 k)

-- what holds of all items of a list holds of them in the other order
pub all_turned : (P : Source → Type 0) (xs : List Source) → AllByRecursion P xs → AllByRecursion P (reverse xs)
all_turned P [] h = tt
all_turned P (x ∷ xs) h =
    subst (λ (ys : List Source). AllByRecursion P ys) (sym (reverse_onto xs x [])) (all_and_last P (reverse xs) x (all_turned P xs h.1) h.0)
