-- Names, numbers and quoted texts are told apart from what comes after them.
use Rattle.std.proofs.Common.{arith, ◌≡◌, ◌∙◌, ℕ, ◌^◌, ◌<◌, ◌≤◌, Bool, true, false, not, length, List, [], ◌∷◌, ◌++◌, Option, Some, None, drop, refl, ap, sym, append_assoc}
use Rattle.std.proofs.lemmas.List.{append_cancel_left}
use Rattle.std.specs.Prelude.{◌==◌, decimal, codes}
use Rattle.std.specs.List.{AllByRecursion, list_all}
use Rattle.std.specs.Str.Parse.{AllDigits, digits_value}
use Rattle.std.proofs.lemmas.Str.Parse.{digit_from_value}
use Rattle.std.proofs.lemmas.Fmt.{decimal_is_IsNumeral}
use Rattle.rt_lemmas.proofs.Options.{some_same as texts_told}
use Rattle.json.specs.Print.{escape, quoted}
use Rattle.json.specs.Text.{content, plain}
use Rattle.json.proofs.Printed.Strings.{content-escape}
use Rattle.rt_model.specs.Lists.{Text}
use Rattle.rt_model.proofs.Conjunctions.{and-left, and-right}
use Rattle.rt_language.specs.Lines.{qualified}
use Rattle.rt_values.specs.Naming.{is_name_byte}
use Rattle.lang_lines.specs.Plain.{AreNameBytes, AreSpaceBytes}
use Rattle.lang_lines.specs.Named.{IsName, IsNamespace}

all_bytes : (text : Text) → list_all is_name_byte text ≡ true → AreNameBytes text
all_bytes [] h = tt
all_bytes (byte ∷ text) h =
    (and-left (is_name_byte byte) (list_all is_name_byte text) h, all_bytes text (and-right (is_name_byte byte) (list_all is_name_byte text) h))

-- a name has the bytes of names alone, and so has a namespace
pub name_bytes : (text : Text) → IsName text → AreNameBytes text
name_bytes text h = all_bytes text (and-right (not (length text == 0)) (list_all is_name_byte text) h)

pub space_bytes : (namespace : Option Text) → IsNamespace namespace → AreSpaceBytes namespace
space_bytes None h = tt
space_bytes (Some namespace) h = name_bytes namespace h

module _ (P : ℕ → Bool) where
  -- it ends, or goes on with a byte that isn't of this sort
  abbrev pub Leaves : List ℕ → Type 0
  Leaves [] = Unit {0}
  Leaves (c ∷ cs) = P c ≡ false

  -- bytes of a sort and what follows them are told apart
  pub split : (xs ys r s : List ℕ) → AllByRecursion (λ x. P x ≡ true) xs → AllByRecursion (λ x. P x ≡ true) ys → Leaves r → Leaves s
      → xs ++ r ≡ ys ++ s → (xs ≡ ys) × (r ≡ s)
  split [] [] r s all others stop other same = (refl, same)
  split [] (y ∷ ys) [] s all others stop other same = absurd (cc same)
  split [] (y ∷ ys) (c ∷ cs) s all others stop other same =
      let head : c ≡ y = cc same in
      absurd (cc (stop, others.0, head))
  split (x ∷ xs) [] r [] all others stop other same = absurd (cc same)
  split (x ∷ xs) [] r (c ∷ cs) all others stop other same =
      let head : x ≡ c = cc same in
      absurd (cc (other, all.0, head))
  split (x ∷ xs) (y ∷ ys) r s all others stop other same =
      let head : x ≡ y = cc same in
      let rest : xs ++ r ≡ ys ++ s = cc same in
      let more = split xs ys r s all.1 others.1 stop other rest in
      (cc (head, more.0), more.1)

-- it ends, or goes on with a byte that is none of a name
abbrev pub Ends : List ℕ → Type 0
Ends r = Leaves is_name_byte r

-- names and what follows them are told apart
pub names_parted : (t u r s : List ℕ) → AreNameBytes t → AreNameBytes u → Ends r → Ends s → t ++ r ≡ u ++ s → (t ≡ u) × (r ≡ s)
names_parted t u r s named other stop stops same = split is_name_byte t u r s named other stop stops same

digit_named : (c : ℕ) → 48 ≤ c → c ≤ 57 → is_name_byte c ≡ true
digit_named c from to = grind arith

pub digits_named : (ds : List ℕ) → AllDigits 10 ds → AreNameBytes ds
digits_named [] all = tt
digits_named (d ∷ ds) all =
    let range = digit_from_value d all.0 in
    (digit_named d range.0 range.1, digits_named ds all.1)

-- numbers and what follows them are told apart
pub numbers_told : (m n : ℕ) (r s : List ℕ) → m < 2 ^ 64 → n < 2 ^ 64 → Ends r → Ends s → decimal m ++ r ≡ decimal n ++ s
    → (m ≡ n) × (r ≡ s)
numbers_told m n r s small little stop other same =
    let both = names_parted (decimal m) (decimal n) r s (digits_named (decimal m) (decimal_is_IsNumeral m small).0.1)
    (digits_named (decimal n) (decimal_is_IsNumeral n little).0.1) stop other same in
    (sym (decimal_is_IsNumeral m small).1 ∙ ap (digits_value 10) both.0 ∙ (decimal_is_IsNumeral n little).1, both.1)

-- it ends, or goes on with a byte that is none of a name and no `:`
abbrev pub EndsWhole : List ℕ → Type 0
EndsWhole [] = Unit {0}
EndsWhole (c ∷ cs) = (is_name_byte c ≡ false) × (c ≡ 58 → ⊥)

whole_ends : (r : List ℕ) → EndsWhole r → Ends r
whole_ends [] stop = tt
whole_ends (c ∷ cs) stop = stop.0

no_colon : (r rest : List ℕ) → EndsWhole r → r ≡ 58 ∷ rest → ⊥
no_colon [] rest stop same = absurd (cc same)
no_colon (c ∷ cs) rest stop same =
    let head : c ≡ 58 = cc same in
    absurd (stop.1 head)

-- a namespace, `:` and the rest
spaced_name : (n t r : List ℕ) → (n ++ codes ":" ++ t) ++ r ≡ n ++ (58 ∷ (t ++ r))
spaced_name n t r = append_assoc (n ++ codes ":") t r ∙ append_assoc n (codes ":") (t ++ r)

-- names with or without a namespace, and what follows them, are told apart
pub qualified_parted : (n m : Option Text) (t u r s : List ℕ) → AreSpaceBytes n → AreSpaceBytes m → AreNameBytes t → AreNameBytes u → EndsWhole r
    → EndsWhole s → qualified n t ++ r ≡ qualified m u ++ s → (n ≡ m) × (t ≡ u) × (r ≡ s)
qualified_parted None None t u r s spaced other named names stop stops same =
    let both = names_parted t u r s named names (whole_ends r stop) (whole_ends s stops) same in
    (refl, both.0, both.1)
qualified_parted None (Some m) t u r s spaced other named names stop stops same =
    let both = names_parted t m r (58 ∷ (u ++ s)) named other (whole_ends r stop) refl (same ∙ spaced_name m u s) in
    absurd (no_colon r (u ++ s) stop both.1)
qualified_parted (Some n) None t u r s spaced other named names stop stops same =
    let both = names_parted n u (58 ∷ (t ++ r)) s spaced names refl (whole_ends s stops) (sym (spaced_name n t r) ∙ same) in
    absurd (no_colon s (t ++ r) stops (sym both.1))
qualified_parted (Some n) (Some m) t u r s spaced other named names stop stops same =
    let outer = names_parted n m (58 ∷ (t ++ r)) (58 ∷ (u ++ s)) spaced other refl refl
    (sym (spaced_name n t r) ∙ same ∙ spaced_name m u s) in
    let both = names_parted t u r s named names (whole_ends r stop) (whole_ends s stops) (ap (λ x. drop 1 x) outer.1) in
    (ap Some outer.0, both.0, both.1)

quoted_is : (t r : List ℕ) → quoted t ++ r ≡ 34 ∷ (escape t ++ (34 ∷ r))
quoted_is t r = ap (λ x. 34 ∷ x) (append_assoc (escape t) (34 ∷ []) r)

-- quoted texts and what follows them are told apart
pub quoted_parted : (t u r s : List ℕ) → quoted t ++ r ≡ quoted u ++ s → (t ≡ u) × (r ≡ s)
quoted_parted t u r s same =
    let inner : escape t ++ (34 ∷ r) ≡ escape u ++ (34 ∷ s) = ap (λ x. drop 1 x) (sym (quoted_is t r) ∙ same ∙ quoted_is u s) in
    let one : t ≡ u = texts_told t u (sym (content-escape t r) ∙ ap (λ x. content plain x) inner ∙ content-escape u s) in
    let rest : 34 ∷ r ≡ 34 ∷ s =
    append_cancel_left (escape u) (34 ∷ r) (34 ∷ s) (ap (λ x. escape x ++ (34 ∷ r)) (sym one) ∙ inner) in
    (one, ap (λ x. drop 1 x) rest)
