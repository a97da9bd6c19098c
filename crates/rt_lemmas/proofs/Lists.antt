-- Lists: their ends, their parts and their items.
use Rattle.std.proofs.Common.{List, [], add-one, ap, append-nil, append_assoc, arith, drop, drop-cons, get_or, length, map, refl, suc, sym, take, zero, ℕ, ◌++◌, ◌+◌, ◌<◌, ◌∙◌, ◌∷◌, ◌≡◌, ◌≤◌}
use Rattle.std.proofs.Math.ListN.{drop_of_length-le}
use Rattle.std.proofs.lemmas.Grind.{common_steps}
use Rattle.std.proofs.lemmas.List.{drop_more}
use Rattle.std.specs.Coded.{Coded-set, coded_list, coded_ℕ, coded×}
use Rattle.std.specs.Prelude.{None, Option, Some, slice_get, slice_set}

-- what is left from an item on is the item and what is left behind it
pub next_drop : {A : Type 0} (xs : List A) (i : ℕ) (x : A) → i < length xs → x ≡ get_or xs i x → drop i xs ≡ x ∷ drop (i + 1) xs
next_drop xs i x low is = drop_more xs i x low ∙ ap (λ y. y ∷ drop (i + 1) xs) (sym is)

-- nothing behind a list leaves it
pub append_nil : {T : Type 0} (xs : List T) → xs ++ [] ≡ xs
append_nil [] = refl
append_nil (x ∷ xs) = ap (λ zs. x ∷ zs) (append_nil xs)

-- a list is mapped part by part
pub map_append : {A B : Type 0} (f : A → B) (xs ys : List A) → map f (xs ++ ys) ≡ map f xs ++ map f ys
map_append f [] ys = refl
map_append f (x ∷ xs) ys = ap (λ zs. f x ∷ zs) (map_append f xs ys)

-- with one item more at its end a list is one longer
pub one_longer : {A : Type 0} (xs : List A) (x : A) → length (xs ++ x ∷ []) ≡ length xs + 1
one_longer [] x = refl
one_longer (y ∷ xs) x = let longer : length (xs ++ x ∷ []) ≡ length xs + 1 = one_longer xs x in omega (arith, longer)

-- three lists one behind the other
pub append_append : {A : Type 0} (xs ys zs : List A) → (xs ++ ys) ++ zs ≡ xs ++ (ys ++ zs)
append_append xs ys zs = append_assoc xs ys zs

-- a list of no length is empty
pub nothing_left : {A : Type 0} (xs : List A) → length xs ≡ 0 → xs ≡ []
nothing_left [] none = refl
nothing_left (x ∷ xs) none = absurd (omega arith)

-- behind the end nothing is left
pub drop_all : {A : Type 0} (es : List A) (i : ℕ) → length es ≤ i → drop i es ≡ []
drop_all es i end = grind (arith, common_steps)

-- as many items as the front has are the front
pub take_front : {X : Type 0} (xs ys : List X) → take (length xs) (xs ++ ys) ≡ xs
take_front [] ys = refl
take_front (x ∷ xs) ys = ap (λ l. x ∷ l) (take_front xs ys)

-- where nothing is left all is done
pub all_done : {A B : Type 0} (given : List A → List B) (xs : List A) (i : ℕ) (all whole : List B)
    → length xs ≤ i → given [] ≡ [] → all ++ given (drop i xs) ≡ whole → all ≡ whole
all_done given xs i all whole end none so_far =
    sym (append-nil all) ∙ ap (λ ys. all ++ ys) (sym none ∙ ap given (sym (drop_of_length-le xs end))) ∙ so_far

-- two lists are as long as both
pub length_append : {A : Type 0} (xs ys : List A) → length (xs ++ ys) ≡ length xs + length ys
length_append [] ys = omega arith
length_append (x ∷ xs) ys = omega (arith, length_append xs ys)

-- a list of at most no item is empty
pub none_most : (xs : List ℕ) → length xs ≤ 0 → xs ≡ []
none_most [] h = refl
none_most (x ∷ xs) h = absurd (omega (arith, h))

-- two empty lists are empty together
pub both_empty : {A : Type 0} {xs ys : List A} → xs ≡ [] → ys ≡ [] → (xs ++ ys) ≡ []
both_empty p q = rw (p, q) refl

-- two lists of pairs of numbers are equal in one way
pub one_proof : (xs ys : List (ℕ × ℕ)) (p q : xs ≡ ys) → p ≡ q
one_proof xs ys p q = Coded-set (coded_list (coded× coded_ℕ coded_ℕ)) xs ys p q

-- what is left from an item on, counted from it
pub next_suc : {A : Type 0} (xs : List A) (i : ℕ) (x : A) → i < length xs → x ≡ get_or xs i x → drop i xs ≡ x ∷ drop (suc i) xs
next_suc [] i x low is = absurd (omega (arith, low))
next_suc (y ∷ xs) zero x low is = ap (λ z. z ∷ xs) (sym is)
next_suc (y ∷ xs) (suc i) x low is = next_suc xs i x (omega (arith, low)) is

-- with one item more at its end a list is one longer
pub length_end : (up : List ℕ) (k : ℕ) → length (up ++ k ∷ []) ≡ suc (length up)
length_end [] k = refl
length_end (x ∷ up) k = ap suc (length_end up k)

-- what is mapped to nothing is empty
pub none_mapped : {A B : Type 0} (f : A → B) (xs : List A) → map f xs ≡ [] → xs ≡ []
none_mapped f [] h = refl
none_mapped f (x ∷ xs) h = cc

-- what is left from a place on is the item there and what is left behind it
pub next_item : {A : Type 0} (xs : List A) (i : ℕ) (d : A) → i < length xs → drop i xs ≡ get_or xs i d ∷ drop (i + 1) xs
next_item xs i d low = rw (add-one, drop-cons xs i d) refl

-- what is put at a place stands there
pub set_here : (xs : List (Option ℕ)) (i : ℕ) (v : Option ℕ) → i < length xs → get_or (slice_set xs i v) i None ≡ v
set_here [] i v within = absurd (omega arith)
set_here (x ∷ xs) zero v within = refl
set_here (x ∷ xs) (suc i) v within = set_here xs i v (omega (arith, within))

-- an item stands within its list
pub within_get : {A : Type 0} (xs : List A) (i : ℕ) (x : A) → slice_get xs i ≡ Some x → i < length xs
within_get [] i x h = cc h
within_get (y ∷ xs) zero x h = omega arith
within_get (y ∷ xs) (suc i) x h = let more = within_get xs i x h in omega (arith, more)

-- an item is mapped with its list
pub get_mapped : {A B : Type 0} (f : A → B) (xs : List A) (i : ℕ) (x : A) → slice_get xs i ≡ Some x → slice_get (map f xs) i ≡ Some (f x)
get_mapped f [] i x h = cc h
get_mapped f (y ∷ xs) zero x h = let same : y ≡ x = cc h in ap Some (ap f same)
get_mapped f (y ∷ xs) (suc i) x h = get_mapped f xs i x h

-- one item more is taken at the end
pub take_next : {A : Type 0} (xs : List A) (i : ℕ) (x : A) → i < length xs → x ≡ get_or xs i x → take (suc i) xs ≡ take i xs ++ x ∷ []
take_next [] i x low is = absurd (omega (arith, low))
take_next (y ∷ xs) zero x low is = ap (λ z. z ∷ []) (sym is)
take_next (y ∷ xs) (suc i) x low is = ap (λ zs. y ∷ zs) (take_next xs i x (omega (arith, low)) is)

-- equal lists are equal behind their first items
pub tails : {A : Type 0} {x y : A} {xs ys : List A} → x ∷ xs ≡ y ∷ ys → xs ≡ ys
tails h = cc
