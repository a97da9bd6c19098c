-- Attributes, listeners and nodes in a row are told apart.
use Rattle.std.proofs.Common.{arith, ◌≡◌, ◌∙◌, ℕ, ◌^◌, ◌<◌, Bool, true, false, ◌||◌, ◌==◌, List, [], ◌∷◌, ◌++◌, Option, Some, None, map, drop, refl, ap, sym, append_assoc}
use Rattle.std.specs.Prelude.{decimal, codes, if◌then◌else◌}
use Rattle.std.specs.List.{AllByRecursion}
use Rattle.json.specs.Print.{quoted}
use Rattle.rt_model.specs.Lists.{Text}
use Rattle.rt_model.specs.Document.{DocAttribute}
use Rattle.rt_language.specs.Lines.{spaced, qualified, attribute_text, listener_text}
use Rattle.rt_values.specs.Naming.{is_name_byte}
use Rattle.lang_lines.specs.Plain.{AreNameBytes, AreSpaceBytes, IsPlainAttribute}
use Rattle.lang_lines.proofs.Names.{Ends, names_parted, numbers_told, qualified_parted, quoted_parted}

-- the first byte after the bytes of a name
unfoldable pub mark : List ℕ → ℕ
mark [] = 0
mark (c ∷ cs) = if is_name_byte c then mark cs else c

-- the same after a space
unfoldable pub kind : List ℕ → ℕ
kind [] = 0
kind (c ∷ cs) = if c == 32 then mark cs else 0

one_skipped : (b : Bool) (m c : ℕ) → b ≡ true → (if b then m else c) ≡ m
one_skipped true m c is = refl
one_skipped false m c is = absurd (cc is)

name_skipped : (t r : List ℕ) → AreNameBytes t → mark (t ++ r) ≡ mark r
unfolding mark
name_skipped [] r named = refl
name_skipped (c ∷ cs) r named = one_skipped (is_name_byte c) (mark (cs ++ r)) c named.0 ∙ name_skipped cs r named.1

-- what stands after a space is an attribute, is a listener
unfoldable pub is_attribute : List ℕ → Bool
is_attribute t = kind t == 61 || kind t == 58

unfoldable pub is_listener : List ℕ → Bool
is_listener t = kind t == 64

module _ {A : Type 0} (text : A → List ℕ) (P : A → Type 0) (test : List ℕ → Bool)
    (one : (a b : A) (r s : List ℕ) → P a → P b → Ends r → Ends s → text a ++ r ≡ text b ++ s → (a ≡ b) × (r ≡ s))
    (here : (a : A) (r : List ℕ) → P a → Ends r → test (32 ∷ (text a ++ r)) ≡ true) where
  first_is : (a : A) (xs : List A) (r : List ℕ) → spaced (map text (a ∷ xs)) ++ r ≡ 32 ∷ (text a ++ (spaced (map text xs) ++ r))
  first_is a xs r = ap (λ t. 32 ∷ t) (append_assoc (text a) (spaced (map text xs)) r)

  row_ends : (xs : List A) (r : List ℕ) → Ends r → Ends (spaced (map text xs) ++ r)
  row_ends [] r stop = stop
  row_ends (a ∷ xs) r stop = refl

  not_here : (a : A) (xs : List A) (r s : List ℕ) → P a → Ends r → test s ≡ false → s ≡ spaced (map text (a ∷ xs)) ++ r → ⊥
  not_here a xs r s plain stop lacks same =
      let yes : test (32 ∷ (text a ++ (spaced (map text xs) ++ r))) ≡ true =
      here a (spaced (map text xs) ++ r) plain (row_ends xs r stop) in
      let both : test s ≡ test (32 ∷ (text a ++ (spaced (map text xs) ++ r))) = ap test (same ∙ first_is a xs r) in
      absurd (cc (yes, lacks, both))

  -- a row and what follows it are told apart, where none of the row's sort follows
  pub rows_parted : (xs ys : List A) (r s : List ℕ) → AllByRecursion P xs → AllByRecursion P ys → Ends r → Ends s → test r ≡ false
      → test s ≡ false → spaced (map text xs) ++ r ≡ spaced (map text ys) ++ s → (xs ≡ ys) × (r ≡ s)
  rows_parted [] [] r s plain others stop stops empty lacks same = (refl, same)
  rows_parted [] (b ∷ ys) r s plain others stop stops empty lacks same =
      absurd (not_here b ys s r others.0 stops empty same)
  rows_parted (a ∷ xs) [] r s plain others stop stops empty lacks same =
      absurd (not_here a xs r s plain.0 stop lacks (sym same))
  rows_parted (a ∷ xs) (b ∷ ys) r s plain others stop stops empty lacks same =
      let inner : text a ++ (spaced (map text xs) ++ r) ≡ text b ++ (spaced (map text ys) ++ s) =
      ap (λ t. drop 1 t) (sym (first_is a xs r) ∙ same ∙ first_is b ys s) in
      let both = one a b (spaced (map text xs) ++ r) (spaced (map text ys) ++ s) plain.0 others.0 (row_ends xs r stop) (row_ends ys s
      stops) inner in
      let more = rows_parted xs ys r s plain.1 others.1 stop stops empty lacks both.1 in
      (ap (λ x. x ∷ xs) both.0 ∙ ap (λ rest. b ∷ rest) more.0, more.1)

-- attributes

attribute_is : (a : DocAttribute) (r : List ℕ) → attribute_text a ++ r ≡ qualified a.namespace a.name ++ (61 ∷ (quoted a.value ++ r))
attribute_is a r =
    append_assoc (qualified a.namespace a.name ++ codes "=") (quoted a.value) r
    ∙ append_assoc (qualified a.namespace a.name) (codes "=") (quoted a.value ++ r)

attributes_parted : (a b : DocAttribute) (r s : List ℕ) → IsPlainAttribute a → IsPlainAttribute b → Ends r → Ends s
    → attribute_text a ++ r ≡ attribute_text b ++ s → (a ≡ b) × (r ≡ s)
attributes_parted a b r s plain other stop stops same =
    let names = qualified_parted a.namespace b.namespace a.name b.name (61 ∷ (quoted a.value ++ r)) (61 ∷ (quoted b.value ++ s)) plain.0
    other.0 plain.1 other.1 (refl, λ e. absurd (omega (arith, e))) (refl, λ e. absurd (omega (arith, e)))
    (sym (attribute_is a r) ∙ same ∙ attribute_is b s) in
    let values = quoted_parted a.value b.value r s (ap (λ t. drop 1 t) names.2) in
    let fields : a ≡ b = λ i. record { name = names.1 i; namespace = names.0 i; value = values.0 i } in
    (fields, values.1)

qualified_mark : (n : Option Text) (t r : List ℕ) → AreSpaceBytes n → AreNameBytes t → is_attribute (32 ∷ (qualified n t ++ (61 ∷ r))) ≡ true
unfolding is_attribute kind mark
qualified_mark None t r spaced named = rw (name_skipped t (61 ∷ r) named) refl
qualified_mark (Some n) t r spaced named =
    rw (append_assoc (n ++ codes ":") t (61 ∷ r), append_assoc n (codes ":") (t ++ (61 ∷ r)), name_skipped n (58 ∷ (t ++ (61 ∷ r))) spaced)
    refl

attribute_here : (a : DocAttribute) (r : List ℕ) → IsPlainAttribute a → Ends r → is_attribute (32 ∷ (attribute_text a ++ r)) ≡ true
attribute_here a r plain stop =
    ap (λ t. is_attribute (32 ∷ t)) (attribute_is a r) ∙ qualified_mark a.namespace a.name (quoted a.value ++ r) plain.0 plain.1

-- listeners

listeners_parted : (a b : Text) (r s : List ℕ) → AreNameBytes a → AreNameBytes b → Ends r → Ends s → listener_text a ++ r ≡ listener_text b ++ s
    → (a ≡ b) × (r ≡ s)
listeners_parted a b r s plain other stop stops same = names_parted a b r s plain other stop stops (ap (λ t. drop 1 t) same)

listener_here : (a : Text) (r : List ℕ) → AreNameBytes a → Ends r → is_listener (32 ∷ (listener_text a ++ r)) ≡ true
unfolding is_listener kind mark
listener_here a r plain stop = refl

-- elements

-- the start of an element's text, and then what its children's texts and the rest are
unfoldable pub opened : Option Text → Text → ℕ → List DocAttribute → List Text → List ℕ → List ℕ
opened n t i attributes listeners r =
    qualified n t ++ (35 ∷ (decimal i ++ (spaced (map attribute_text attributes) ++ (spaced (map listener_text listeners) ++ r))))

pub record SameOpened
    (n m : Option Text) (t u : Text) (i j : ℕ) (attributes others : List DocAttribute) (listeners names : List Text) (r s : List ℕ)
    : Type 0 where
  pub namespace : n ≡ m
  pub tag : t ≡ u
  pub number : i ≡ j
  pub attributes_are : attributes ≡ others
  pub listeners_are : listeners ≡ names
  pub rest : r ≡ s

-- a row of attributes or listeners ends well, and has no attribute after it
listeners_end : (names : List Text) (r : List ℕ) → Ends r → Ends (spaced (map listener_text names) ++ r)
listeners_end [] r stop = stop
listeners_end (a ∷ names) r stop = refl

attributes_end : (all : List DocAttribute) (r : List ℕ) → Ends r → Ends (spaced (map attribute_text all) ++ r)
attributes_end [] r stop = stop
attributes_end (a ∷ all) r stop = refl

no_attribute : (names : List Text) (r : List ℕ) → is_attribute r ≡ false → is_attribute (spaced (map listener_text names) ++ r) ≡ false
unfolding is_attribute kind mark
no_attribute [] r lacks = lacks
no_attribute (a ∷ names) r lacks = refl

pub opened_parted : (n m : Option Text) (t u : Text) (i j : ℕ) (attributes others : List DocAttribute) (listeners names : List Text)
    (r s : List ℕ)
    → AreSpaceBytes n → AreSpaceBytes m → AreNameBytes t → AreNameBytes u → i < 2 ^ 64 → j < 2 ^ 64
    → AllByRecursion IsPlainAttribute attributes → AllByRecursion IsPlainAttribute others
    → AllByRecursion AreNameBytes listeners → AllByRecursion AreNameBytes names
    → Ends r → Ends s → is_attribute r ≡ false → is_attribute s ≡ false → is_listener r ≡ false → is_listener s ≡ false
    → opened n t i attributes listeners r ≡ opened m u j others names s
    → SameOpened n m t u i j attributes others listeners names r s
unfolding opened
opened_parted n m t u i j attributes others listeners names r s space spaces tag tags small little plain plains heard hears stop stops
    lacks lack misses miss same =
    let behind : List ℕ = spaced (map listener_text listeners) ++ r in
    let behinds : List ℕ = spaced (map listener_text names) ++ s in
    let after : List ℕ = spaced (map attribute_text attributes) ++ behind in
    let afters : List ℕ = spaced (map attribute_text others) ++ behinds in
    let end : Ends behind = listeners_end listeners r stop in
    let ends : Ends behinds = listeners_end names s stops in
    let name = qualified_parted n m t u (35 ∷ (decimal i ++ after)) (35 ∷ (decimal j ++ afters)) space spaces tag tags
    (refl, λ e. absurd (omega (arith, e))) (refl, λ e. absurd (omega (arith, e))) same in
    let number = numbers_told i j after afters small little (attributes_end attributes behind end) (attributes_end others behinds ends)
    (ap (λ x. drop 1 x) name.2) in
    let all = rows_parted attribute_text IsPlainAttribute is_attribute attributes_parted attribute_here attributes others behind behinds
    plain plains end ends (no_attribute listeners r lacks) (no_attribute names s lack) number.1 in
    let listened = rows_parted listener_text AreNameBytes is_listener listeners_parted listener_here listeners names r s heard hears stop stops
    misses miss all.1 in
    record {
      namespace = name.0;
      tag = name.1;
      number = number.0;
      attributes_are = all.0;
      listeners_are = listened.0;
      rest = listened.1;
    }
