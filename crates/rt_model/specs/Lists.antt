-- Lists that serve as maps and sets, and texts; all of it computes.
use Rattle.std.specs.Prelude.{ℕ, zero, suc, Bool, true, false, ◌&&◌, nat_eq, nat_lt, List, [], ◌∷◌, ◌++◌, Option, Some, None, if◌then◌else◌}
use Rattle.std.specs.List.{list_any}

-- the bytes of a text
abbrev pub Text : Type 0
Text = List ℕ

-- the value under a number
abbrev pub at : {A : Type 0} → List (ℕ × A) → ℕ → Option A
at [] n = None
at (e ∷ es) n = if nat_eq e.0 n then Some e.1 else at es n

-- the value under a number is replaced where one stands, else it joins the end
abbrev pub put : {A : Type 0} → List (ℕ × A) → ℕ → A → List (ℕ × A)
put [] n a = (n, a) ∷ []
put (e ∷ es) n a = if nat_eq e.0 n then (n, a) ∷ es else e ∷ put es n a

-- all but what stands under a number
abbrev pub without : {A : Type 0} → List (ℕ × A) → ℕ → List (ℕ × A)
without [] n = []
without (e ∷ es) n = if nat_eq e.0 n then without es n else e ∷ without es n

-- the item at a position
abbrev pub nth : {A : Type 0} → List A → ℕ → Option A
nth [] n = None
nth (x ∷ xs) zero = Some x
nth (x ∷ xs) (suc n) = nth xs n

-- the value, or another one where there is none
abbrev pub or_else : {A : Type 0} → A → Option A → A
or_else a None = a
or_else a (Some b) = b

-- the first of two, where there is one, else the second
abbrev pub first_of : {A : Type 0} → Option A → Option A → Option A
first_of None later = later
first_of (Some found) later = Some found

-- what each item gives, the last item's first
abbrev pub backwards : {A B : Type 0} → (A → List B) → List A → List B
backwards of [] = []
backwards of (x ∷ xs) = backwards of xs ++ of x

-- the items that a test lets through, in order
abbrev pub kept_by : {A : Type 0} → (A → Bool) → List A → List A
kept_by test [] = []
kept_by test (x ∷ xs) = if test x then x ∷ kept_by test xs else kept_by test xs

-- a list of lists, one after another
abbrev pub joined : {A : Type 0} → List (List A) → List A
joined [] = []
joined (xs ∷ xss) = xs ++ joined xss

-- whether a number is in a list
abbrev pub has : List ℕ → ℕ → Bool
has xs n = list_any (λ y. nat_eq y n) xs

-- a number is taken out wherever it stands
abbrev pub drop_number : List ℕ → ℕ → List ℕ
drop_number [] n = []
drop_number (x ∷ xs) n = if nat_eq x n then drop_number xs n else x ∷ drop_number xs n

-- a number joins the end where it isn't in the list
abbrev pub join : List ℕ → ℕ → List ℕ
join xs n = if has xs n then xs else xs ++ n ∷ []

-- a number takes its place in an ascending list, once
abbrev pub insert_number : List ℕ → ℕ → List ℕ
insert_number [] n = n ∷ []
insert_number (m ∷ ms) n = if nat_eq m n then m ∷ ms else (if nat_lt n m then n ∷ m ∷ ms else m ∷ insert_number ms n)

-- equal lists of numbers: paths, and the bytes of texts
abbrev pub same_numbers : List ℕ → List ℕ → Bool
same_numbers [] [] = true
same_numbers (x ∷ xs) (y ∷ ys) = nat_eq x y && same_numbers xs ys
same_numbers _ _ = false

-- texts ascend by their bytes, a front of a text before the text
abbrev pub earlier_text : Text → Text → Bool
earlier_text [] [] = false
earlier_text [] (y ∷ ys) = true
earlier_text (x ∷ xs) [] = false
earlier_text (x ∷ xs) (y ∷ ys) = if nat_eq x y then earlier_text xs ys else nat_lt x y

-- equal values of an option, by a test
abbrev pub same_option : {A : Type 0} → (A → A → Bool) → Option A → Option A → Bool
same_option same None None = true
same_option same (Some a) (Some b) = same a b
same_option same _ _ = false

-- equal lists, by a test of their items
abbrev pub same_list : {A : Type 0} → (A → A → Bool) → List A → List A → Bool
same_list same [] [] = true
same_list same (x ∷ xs) (y ∷ ys) = same x y && same_list same xs ys
same_list same _ _ = false
