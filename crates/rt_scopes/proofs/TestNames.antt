-- Names and numbers that the two node tests compare: both compare them alike.
use Rattle.std.proofs.Common.{ℕ, ◌+◌, ◌≤◌, Bool, true, false, ◌&&◌, ◌||◌, not, List, [], ◌∷◌, ◌≡◌, Option, Some, None, refl, ap, ◌∙◌, nat_eq}
use Rattle.std.specs.Prelude.{nat_le}
use Rattle.std.specs.List.{list_any, enumerate_from}
use Rattle.std.specs.Str.{bytes_eq}
use Rattle.std.specs.Cmp.Lexicographic.{pointwise}
use Rattle.std.specs.Bool.{one_answer}
use Rattle.std.proofs.lemmas.Bool.{leb-true, le-leb}
use Rattle.rt_lemmas.proofs.Numbers.{eq_turned as number_turned}
use Rattle.tree_nodes.specs.Names as code
use Rattle.tree_nodes.specs.Names.{Name, distinct, names_of, names_in}
use Rattle.tree_nodes.specs.Slots as slots
use Rattle.rt_model.specs.Lists.{same_numbers, same_option, same_list}
use Rattle.rt_model.specs.Tree.{paths_of}
use Rattle.rt_model.specs.Fits.{counts_from, same_name, is_named, all_once}

-- one number is at most another one where a third is at most a fourth
pub le_same : (a b c d : ℕ) → (a ≤ b → c ≤ d) → (c ≤ d → a ≤ b) → nat_le a b ≡ nat_le c d
le_same a b c d there back =
    one_answer (nat_le a b) (nat_le c d) (leb-true a b, le-leb a b) ((λ h. back (leb-true c d h)), (λ h. le-leb c d (there h)))

pub bytes_same : (xs ys : List ℕ) → bytes_eq xs ys ≡ same_numbers xs ys
bytes_same [] [] = refl
bytes_same [] (y ∷ ys) = refl
bytes_same (x ∷ xs) [] = refl
bytes_same (x ∷ xs) (y ∷ ys) = ap (λ b. nat_eq x y && b) (bytes_same xs ys)

pub bytes_turned : (xs ys : List ℕ) → bytes_eq xs ys ≡ same_numbers ys xs
bytes_turned [] [] = refl
bytes_turned [] (y ∷ ys) = refl
bytes_turned (x ∷ xs) [] = refl
bytes_turned (x ∷ xs) (y ∷ ys) = ap (λ b. b && bytes_eq xs ys) (number_turned x y) ∙ ap (λ b. nat_eq y x && b) (bytes_turned xs ys)

space_same : (a b : Option (List ℕ)) → code.same_namespace a b ≡ same_option same_numbers a b
space_same None None = refl
space_same None (Some t) = refl
space_same (Some s) None = refl
space_same (Some s) (Some t) = bytes_same s t

name_same : (m n : Name) → code.same_name m n ≡ same_name m n
name_same m n = ap (λ b. b && code.same_namespace m.1 n.1) (bytes_same m.0 n.0) ∙ ap (λ b. same_numbers m.0 n.0 && b) (space_same m.1 n.1)

named_same : (m : Name) (ns : List Name) → list_any (code.same_name m) ns ≡ is_named m ns
named_same m [] = refl
named_same m (n ∷ ns) = ap (λ b. b || list_any (code.same_name m) ns) (name_same m n) ∙ ap (λ b. same_name m n || b) (named_same m ns)

-- no name stands twice
pub once_same : (ns : List Name) → distinct ns ≡ all_once ns
once_same [] = refl
once_same (n ∷ ns) = ap (λ b. not b && distinct ns) (named_same n ns) ∙ ap (λ b. not (is_named n ns) && b) (once_same ns)

-- the middle two change places
turned : (a b c d : Bool) → (a && b) && (c && d) ≡ (a && c) && (b && d)
turned true true c d = refl
turned true false true d = refl
turned true false false d = refl
turned false b c d = refl

counted_from : (k : ℕ) (es : List (ℕ × List ℕ)) (ps : List (List ℕ)) → pointwise slots.same_slot es (enumerate_from k ps) ≡ counts_from k es && same_list same_numbers (paths_of es) ps
counted_from k [] [] = refl
counted_from k [] (p ∷ ps) = refl
counted_from k (e ∷ es) [] = none (nat_eq e.0 k && counts_from (k + 1) es)
  where
    none : (b : Bool) → false ≡ b && false
    none true = refl
    none false = refl
counted_from k (e ∷ es) (p ∷ ps) =
    ap (λ b. (nat_eq e.0 k && b) && pointwise slots.same_slot es (enumerate_from (k + 1) ps)) (bytes_turned p e.1)
    ∙ ap (λ b. (nat_eq e.0 k && same_numbers e.1 p) && b) (counted_from (k + 1) es ps)
    ∙ turned (nat_eq e.0 k) (same_numbers e.1 p) (counts_from (k + 1) es) (same_list same_numbers (paths_of es) ps)

-- the slots are numbered in order, and stand at these paths
pub numbered_same : (es : List (ℕ × List ℕ)) (ps : List (List ℕ)) → slots.are_numbered es ps ≡ counts_from 0 es && same_list same_numbers (paths_of es) ps
numbered_same es ps = counted_from 0 es ps
