-- Where an entry takes its place by a key, in a total order of keys, two entries of different keys may be set in either order.
use Rattle.std.proofs.Common.{ℕ, Bool, true, false, ◌&&◌, ◌||◌, List, [], ◌∷◌, ◌≡◌, refl, sym, ap, ◌∙◌, subst, nat_eq, arith}
use Rattle.std.specs.Prelude.{Option, Some, None, nat_lt, if◌then◌else◌}
use Rattle.std.proofs.lemmas.Bool.{eqb-true}
use Rattle.std.proofs.lemmas.Bool.Decides.{nat_tests}
use Rattle.rt_lemmas.proofs.Numbers.{other_way as nat_unlike}
use Rattle.rt_model.specs.Lists.{Text, same_numbers, same_option, earlier_text}
use Rattle.rt_model.specs.Document.{DocAttribute, earlier_namespace, same_key, earlier_key, with_attribute, without_attribute, with_listener}
use Rattle.law_headline.specs.Entries.{NoneNamed}
use Rattle.rt_model.proofs.Maps.{pick_true, pick_false, by_test}
use Rattle.rt_model.proofs.SamePlaces.{numbers-true, option-true}
use Rattle.rt_model.proofs.Among.{numbers_same}
use Rattle.rt_model.proofs.Conjunctions.{and-left, and-right}
use Rattle.rt_model.proofs.Members.{clash}
use Rattle.rt_model.proofs.Quiet.{option_same as space_same}

-- a total order of keys, with a test of their equality
record Order {Q : Type 0} (eq lt : Q → Q → Bool) : Type 0 where
  decides : (p q : Q) → eq p q ≡ true → p ≡ q
  same : (p : Q) → eq p p ≡ true
  total : (p q : Q) → eq p q ≡ false → lt p q ≡ false → lt q p ≡ true
  single : (p q : Q) → lt p q ≡ true → lt q p ≡ false
  onward : (p q r : Q) → lt p q ≡ true → lt q r ≡ true → lt p r ≡ true

module _ {A Q : Type 0} (key : A → Q) (eq lt : Q → Q → Bool) (order : Order eq lt) where
  -- an entry takes its place, in place of one of its key
  abbrev set : List A → A → List A
  set [] a = a ∷ []
  set (b ∷ rest) a = if eq (key b) (key a) then a ∷ rest else (if lt (key a) (key b) then a ∷ b ∷ rest else b ∷ set rest a)

  unlike : (p q : Q) → eq p q ≡ false → eq q p ≡ false
  unlike p q h =
      by_test (eq q p)
      (λ e. let same : q ≡ p = order.decides q p e in clash (ap (λ (x : Q). eq p x) same ∙ order.same p) h)
      (λ e. e)

  -- the first key is before the second
  record Before (p q : Q) : Type 0 where
    apart : eq p q ≡ false
    back : eq q p ≡ false
    less : lt p q ≡ true
    more : lt q p ≡ false

  before : (p q : Q) → lt p q ≡ true → Before p q
  before p q h =
      let other : eq p q ≡ false = by_test (eq p q) (λ e. clash h (not_less (order.decides p q e))) (λ e. e) in
      record { apart = other; back = unlike p q other; less = h; more = order.single p q h }
    where
      not_less : p ≡ q → lt p q ≡ false
      not_less same = ap (λ (x : Q). lt p x) (sym same) ∙ ap (λ (x : Q). lt x p) same ∙ order.single p q h

  data Stand (p q : Q) : Type 0 where
    Equal : p ≡ q → Stand p q
    First : Before p q → Stand p q
    Later : Before q p → Stand p q

  stand : (p q : Q) → Stand p q
  stand p q =
      by_test (eq p q)
      (λ e. Equal (order.decides p q e))
      (λ e. by_test (lt p q) (λ l. First (before p q l)) (λ l. Later (before q p (order.total p q e l))))

  set_same : (c a : A) (r : List A) → key c ≡ key a → set (c ∷ r) a ≡ a ∷ r
  set_same c a r h = pick_true _ _ (ap (λ (x : Q). eq x (key a)) h ∙ order.same (key a))

  set_first : (c a : A) (r : List A) → Before (key a) (key c) → set (c ∷ r) a ≡ a ∷ c ∷ r
  set_first c a r h = pick_false _ _ h.back ∙ pick_true _ _ h.less

  set_later : (c a : A) (r : List A) → Before (key c) (key a) → set (c ∷ r) a ≡ c ∷ set r a
  set_later c a r h = pick_false _ _ h.apart ∙ pick_false _ _ h.more

  again : (xs ys : List A) (b : A) → xs ≡ ys → set xs b ≡ set ys b
  again xs ys b h = ap (λ (zs : List A). set zs b) h

  -- the key of one entry is before that of the other
  ordered : (xs : List A) (a b : A) → Before (key a) (key b) → set (set xs a) b ≡ set (set xs b) a
  ordered [] a b h = set_later a b [] h ∙ sym (set_first b a [] h)
  ordered (c ∷ r) a b h = by_stand (stand (key a) (key c)) (ordered r a b h)
    where
      ahead : (d : A) (rest : List A) → Before (key a) (key d) → set (c ∷ r) b ≡ d ∷ rest → set (set (c ∷ r) b) a ≡ a ∷ set (c ∷ r) b
      ahead d rest l e = again (set (c ∷ r) b) (d ∷ rest) a e ∙ set_first d a rest l ∙ ap (λ (zs : List A). a ∷ zs) (sym e)

      first : Before (key a) (key c) → Stand (key b) (key c) → set (set (c ∷ r) b) a ≡ a ∷ set (c ∷ r) b
      first l (Equal e) = ahead b r h (set_same c b r (sym e))
      first l (First m) = ahead b (c ∷ r) h (set_first c b r m)
      first l (Later m) = ahead c (set r b) l (set_later c b r m)

      by_stand : Stand (key a) (key c) → set (set r a) b ≡ set (set r b) a → set (set (c ∷ r) a) b ≡ set (set (c ∷ r) b) a
      by_stand (Equal e) go =
          let after : Before (key c) (key b) = before (key c) (key b) (ap (λ (x : Q). lt x (key b)) (sym e) ∙ h.less) in
          again (set (c ∷ r) a) (a ∷ r) b (set_same c a r (sym e))
          ∙ set_later a b r h
          ∙ sym (again (set (c ∷ r) b) (c ∷ set r b) a (set_later c b r after) ∙ set_same c a (set r b) (sym e))
      by_stand (First l) go =
          again (set (c ∷ r) a) (a ∷ c ∷ r) b (set_first c a r l)
          ∙ set_later a b (c ∷ r) h
          ∙ sym (first l (stand (key b) (key c)))
      by_stand (Later l) go =
          let after : Before (key c) (key b) = before (key c) (key b) (order.onward (key c) (key a) (key b) l.less h.less) in
          again (set (c ∷ r) a) (c ∷ set r a) b (set_later c a r l)
          ∙ set_later c b (set r a) after
          ∙ ap (λ (zs : List A). c ∷ zs) go
          ∙ sym (again (set (c ∷ r) b) (c ∷ set r b) a (set_later c b r after) ∙ set_later c a (set r b) l)

  -- entries of different keys
  commute : (xs : List A) (a b : A) → eq (key a) (key b) ≡ false → set (set xs a) b ≡ set (set xs b) a
  commute xs a b h = by_stand (stand (key a) (key b))
    where
      by_stand : Stand (key a) (key b) → set (set xs a) b ≡ set (set xs b) a
      by_stand (Equal e) = clash (ap (λ (x : Q). eq x (key b)) e ∙ order.same (key b)) h
      by_stand (First l) = ordered xs a b l
      by_stand (Later l) = sym (ordered xs b a l)

  -- no entry has this key
  abbrev Lacks : List A → Q → Type 0
  Lacks [] q = Unit {0}
  Lacks (b ∷ rest) q = (eq (key b) q ≡ false) × Lacks rest q

  -- the entry of this key goes
  abbrev drop : List A → Q → List A
  drop [] q = []
  drop (b ∷ rest) q = if eq (key b) q then rest else b ∷ drop rest q

  -- an entry that came goes again
  goes : (xs : List A) (a : A) → Lacks xs (key a) → drop (set xs a) (key a) ≡ xs
  goes [] a h = pick_true _ _ (order.same (key a))
  goes (c ∷ r) a h = by_stand (stand (key a) (key c)) (goes r a h.1)
    where
      of : (ys zs : List A) → ys ≡ zs → drop ys (key a) ≡ drop zs (key a)
      of ys zs e = ap (λ (xs : List A). drop xs (key a)) e

      by_stand : Stand (key a) (key c) → drop (set r a) (key a) ≡ r → drop (set (c ∷ r) a) (key a) ≡ c ∷ r
      by_stand (Equal e) go = clash (ap (λ (x : Q). eq x (key a)) (sym e) ∙ order.same (key a)) h.0
      by_stand (First l) go = of (set (c ∷ r) a) (a ∷ c ∷ r) (set_first c a r l) ∙ pick_true _ _ (order.same (key a))
      by_stand (Later l) go = of (set (c ∷ r) a) (c ∷ set r a) (set_later c a r l) ∙ pick_false _ _ l.apart ∙ ap (λ (zs : List A). c ∷ zs) go

  -- the last of two entries of one key stays
  latest : (xs : List A) (a b : A) → key a ≡ key b → set (set xs a) b ≡ set xs b
  latest [] a b e = set_same a b [] e
  latest (c ∷ r) a b e = by_stand (stand (key a) (key c)) (latest r a b e)
    where
      by_stand : Stand (key a) (key c) → set (set r a) b ≡ set r b → set (set (c ∷ r) a) b ≡ set (c ∷ r) b
      by_stand (Equal d) go = again (set (c ∷ r) a) (a ∷ r) b (set_same c a r (sym d)) ∙ set_same a b r e ∙ sym (set_same c b r (sym d ∙ e))
      by_stand (First l) go =
          again (set (c ∷ r) a) (a ∷ c ∷ r) b (set_first c a r l)
          ∙ set_same a b (c ∷ r) e
          ∙ sym (set_first c b r (subst (λ (q : Q). Before q (key c)) e l))
      by_stand (Later l) go =
          let after : Before (key c) (key b) = subst (λ (q : Q). Before (key c) q) e l in
          again (set (c ∷ r) a) (c ∷ set r a) b (set_later c a r l) ∙ set_later c b (set r a) after ∙ ap (λ (zs : List A). c ∷ zs) go ∙ sym (set_later c b r after)

nat_turned : (x y : ℕ) → nat_eq x y ≡ true → nat_eq y x ≡ true
nat_turned x y h = grind (arith, nat_tests)

nat_total : (x y : ℕ) → nat_eq x y ≡ false → nat_lt x y ≡ false → nat_lt y x ≡ true
nat_total x y h k = grind (arith, nat_tests)

nat_single : (x y : ℕ) → nat_lt x y ≡ true → nat_lt y x ≡ false
nat_single x y h = grind (arith, nat_tests)

nat_onward : (x y z : ℕ) → nat_lt x y ≡ true → nat_lt y z ≡ true → nat_lt x z ≡ true
nat_onward x y z h k = grind (arith, nat_tests)

nat_no_loop : (x y z : ℕ) → nat_lt x y ≡ true → nat_lt y z ≡ true → nat_eq x z ≡ false
nat_no_loop x y z h k = grind (arith, nat_tests)

-- texts, byte by byte
text_total : (a b : Text) → same_numbers a b ≡ false → earlier_text a b ≡ false → earlier_text b a ≡ true
text_total [] [] h k = cc
text_total [] (y ∷ ys) h k = cc
text_total (x ∷ xs) [] h k = refl
text_total (x ∷ xs) (y ∷ ys) h k =
    by_test (nat_eq x y)
    (λ e. pick_true _ _ (nat_turned x y e) ∙ text_total xs ys (sym (ap (λ (b : Bool). b && same_numbers xs ys) e) ∙ h) (sym (pick_true _ _ e) ∙ k))
    (λ e. pick_false _ _ (nat_unlike x y e) ∙ nat_total x y e (sym (pick_false _ _ e) ∙ k))

text_single : (a b : Text) → earlier_text a b ≡ true → earlier_text b a ≡ false
text_single [] [] h = cc
text_single [] (y ∷ ys) h = refl
text_single (x ∷ xs) [] h = cc
text_single (x ∷ xs) (y ∷ ys) h =
    by_test (nat_eq x y)
    (λ e. pick_true _ _ (nat_turned x y e) ∙ text_single xs ys (sym (pick_true _ _ e) ∙ h))
    (λ e. pick_false _ _ (nat_unlike x y e) ∙ nat_single x y (sym (pick_false _ _ e) ∙ h))

text_onward : (a b c : Text) → earlier_text a b ≡ true → earlier_text b c ≡ true → earlier_text a c ≡ true
text_onward [] [] [] h k = cc
text_onward [] (y ∷ ys) [] h k = cc
text_onward [] b (z ∷ zs) h k = refl
text_onward (x ∷ xs) [] c h k = cc
text_onward (x ∷ xs) (y ∷ ys) [] h k = cc
text_onward (x ∷ xs) (y ∷ ys) (z ∷ zs) h k =
    by_test (nat_eq x y)
    (λ e.
    let same : x ≡ y = eqb-true x y e in
    let deeper : earlier_text xs ys ≡ true = sym (pick_true _ _ e) ∙ h in
    by_test (nat_eq y z)
    (λ d. pick_true _ _ (ap (λ (n : ℕ). nat_eq n z) same ∙ d) ∙ text_onward xs ys zs deeper (sym (pick_true _ _ d) ∙ k))
    (λ d. pick_false _ _ (ap (λ (n : ℕ). nat_eq n z) same ∙ d) ∙ ap (λ (n : ℕ). nat_lt n z) same ∙ sym (pick_false _ _ d) ∙ k))
    (λ e.
    let less : nat_lt x y ≡ true = sym (pick_false _ _ e) ∙ h in
    by_test (nat_eq y z)
    (λ d.
    let same : y ≡ z = eqb-true y z d in
    pick_false _ _ (ap (λ (n : ℕ). nat_eq x n) (sym same) ∙ e) ∙ ap (λ (n : ℕ). nat_lt x n) (sym same) ∙ less)
    (λ d.
    let more : nat_lt y z ≡ true = sym (pick_false _ _ d) ∙ k in
    pick_false _ _ (nat_no_loop x y z less more) ∙ nat_onward x y z less more))

text_order : Order same_numbers earlier_text
text_order = record { decides = numbers-true; same = numbers_same; total = text_total; single = text_single; onward = text_onward }

-- none comes before every namespace
space_total : (a b : Option Text) → same_option same_numbers a b ≡ false → earlier_namespace a b ≡ false → earlier_namespace b a ≡ true
space_total None None h k = cc
space_total None (Some b) h k = cc
space_total (Some a) None h k = refl
space_total (Some a) (Some b) h k = text_total a b h k

space_single : (a b : Option Text) → earlier_namespace a b ≡ true → earlier_namespace b a ≡ false
space_single None None h = cc
space_single None (Some b) h = refl
space_single (Some a) None h = cc
space_single (Some a) (Some b) h = text_single a b h

space_onward : (a b c : Option Text) → earlier_namespace a b ≡ true → earlier_namespace b c ≡ true → earlier_namespace a c ≡ true
space_onward None None c h k = cc
space_onward None (Some b) None h k = cc
space_onward None (Some b) (Some c) h k = refl
space_onward (Some a) None c h k = cc
space_onward (Some a) (Some b) None h k = cc
space_onward (Some a) (Some b) (Some c) h k = text_onward a b c h k

space_order : Order (λ a b. same_option same_numbers a b) earlier_namespace
space_order = record { decides = option-true; same = space_same; total = space_total; single = space_single; onward = space_onward }

-- two tests in a row
either : {P : Type 0} (a b c : Bool) → (a || (b && c)) ≡ true → (a ≡ true → P) → (b ≡ true → c ≡ true → P) → P
either true b c h f g = f refl
either false true true h f g = g refl refl
either false true false h f g = cc
either false false c h f g = cc

neither : (a b c : Bool) → a ≡ false → (b ≡ true → c ≡ false) → (a || (b && c)) ≡ false
neither true b c h f = cc
neither false true c h f = f refl
neither false false c h f = refl

first_of : (a b c : Bool) → a ≡ true → (a || (b && c)) ≡ true
first_of a b c h = ap (λ (x : Bool). x || (b && c)) h

second_of : (a b c : Bool) → b ≡ true → c ≡ true → (a || (b && c)) ≡ true
second_of true b c h k = refl
second_of false true c h k = k
second_of false false c h k = cc

-- by the second parts, then by the first ones
module _ {P Q : Type 0} (eq lt : P → P → Bool) (fits less : Q → Q → Bool) (names : Order eq lt) (spaces : Order fits less) where
  abbrev equal : P × Q → P × Q → Bool
  equal p q = eq p.0 q.0 && fits p.1 q.1

  abbrev earlier : P × Q → P × Q → Bool
  earlier p q = less p.1 q.1 || (fits p.1 q.1 && lt p.0 q.0)

  fits_turned : (a b : Q) → fits a b ≡ true → fits b a ≡ true
  fits_turned a b h = ap (λ (x : Q). fits b x) (spaces.decides a b h) ∙ spaces.same b

  never : (a : Q) → less a a ≡ false
  never a = by_test (less a a) (λ h. spaces.single a a h) (λ h. h)

  not_both : (a b : Q) → fits a b ≡ true → less a b ≡ false
  not_both a b h = ap (λ (x : Q). less x b) (spaces.decides a b h) ∙ never b

  pair_total : (p q : P × Q) → equal p q ≡ false → earlier p q ≡ false → earlier q p ≡ true
  pair_total p q h k =
      by_test (fits p.1 q.1)
      (λ e.
      let unlike_names : eq p.0 q.0 ≡ false = by_test (eq p.0 q.0) (λ d. clash (ap (λ (b : Bool). b && fits p.1 q.1) d ∙ e) h) (λ d. d) in
      let not_less : lt p.0 q.0 ≡ false = by_test (lt p.0 q.0) (λ d. clash (second_of (less p.1 q.1) (fits p.1 q.1) (lt p.0 q.0) e d) k) (λ d. d) in
      second_of (less q.1 p.1) (fits q.1 p.1) (lt q.0 p.0) (fits_turned p.1 q.1 e) (names.total p.0 q.0 unlike_names not_less))
      (λ e.
      let not_less : less p.1 q.1 ≡ false = by_test (less p.1 q.1) (λ d. clash (first_of (less p.1 q.1) (fits p.1 q.1) (lt p.0 q.0) d) k) (λ d. d) in
      first_of (less q.1 p.1) (fits q.1 p.1) (lt q.0 p.0) (spaces.total p.1 q.1 e not_less))

  pair_single : (p q : P × Q) → earlier p q ≡ true → earlier q p ≡ false
  pair_single p q h =
      either (less p.1 q.1) (fits p.1 q.1) (lt p.0 q.0) h
      (λ l. neither (less q.1 p.1) (fits q.1 p.1) (lt q.0 p.0) (spaces.single p.1 q.1 l) (λ e. clash l (not_both p.1 q.1 (fits_turned q.1 p.1 e))))
      (λ e l. neither (less q.1 p.1) (fits q.1 p.1) (lt q.0 p.0) (not_both q.1 p.1 (fits_turned p.1 q.1 e)) (λ d. names.single p.0 q.0 l))

  pair_onward : (p q r : P × Q) → earlier p q ≡ true → earlier q r ≡ true → earlier p r ≡ true
  pair_onward p q r h k =
      either (less p.1 q.1) (fits p.1 q.1) (lt p.0 q.0) h
      (λ l.
      either (less q.1 r.1) (fits q.1 r.1) (lt q.0 r.0) k
      (λ m. first_of (less p.1 r.1) (fits p.1 r.1) (lt p.0 r.0) (spaces.onward p.1 q.1 r.1 l m))
      (λ e m. first_of (less p.1 r.1) (fits p.1 r.1) (lt p.0 r.0) (ap (λ (x : Q). less p.1 x) (sym (spaces.decides q.1 r.1 e)) ∙ l)))
      (λ d l.
      let same : p.1 ≡ q.1 = spaces.decides p.1 q.1 d in
      either (less q.1 r.1) (fits q.1 r.1) (lt q.0 r.0) k
      (λ m. first_of (less p.1 r.1) (fits p.1 r.1) (lt p.0 r.0) (ap (λ (x : Q). less x r.1) same ∙ m))
      (λ e m. second_of (less p.1 r.1) (fits p.1 r.1) (lt p.0 r.0) (ap (λ (x : Q). fits x r.1) same ∙ e) (names.onward p.0 q.0 r.0 l m)))

  pair_decides : (p q : P × Q) → equal p q ≡ true → p ≡ q
  pair_decides p q h =
      let first : p.0 ≡ q.0 = names.decides p.0 q.0 (and-left _ (fits p.1 q.1) h) in
      let second : p.1 ≡ q.1 = spaces.decides p.1 q.1 (and-right (eq p.0 q.0) _ h) in
      λ t. (first t, second t)

  pair_same : (p : P × Q) → equal p p ≡ true
  pair_same p = ap (λ (b : Bool). b && fits p.1 p.1) (names.same p.0) ∙ spaces.same p.1

  pair_order : Order equal earlier
  pair_order = record { decides = pair_decides; same = pair_same; total = pair_total; single = pair_single; onward = pair_onward }

-- attributes go by namespace and name
abbrev key_of : DocAttribute → Text × Option Text
key_of a = (a.name, a.namespace)

abbrev same_keys : Text × Option Text → Text × Option Text → Bool
same_keys p q = same_numbers p.0 q.0 && same_option same_numbers p.1 q.1

abbrev earlier_keys : Text × Option Text → Text × Option Text → Bool
earlier_keys p q = earlier_namespace p.1 q.1 || (same_option same_numbers p.1 q.1 && earlier_text p.0 q.0)

key_order : Order same_keys earlier_keys
key_order = pair_order same_numbers earlier_text (λ a b. same_option same_numbers a b) earlier_namespace text_order space_order

attributes_set : (all : List DocAttribute) (a : DocAttribute) → with_attribute all a ≡ set key_of same_keys earlier_keys key_order all a
attributes_set [] a = refl
attributes_set (b ∷ rest) a =
    ap (λ (r : List DocAttribute). if same_key b a.name a.namespace then a ∷ rest else (if earlier_key a b then a ∷ b ∷ rest else b ∷ r)) (attributes_set rest a)

pub attributes_commute : (all : List DocAttribute) (a b : DocAttribute) → same_key a b.name b.namespace ≡ false → with_attribute (with_attribute all a) b ≡ with_attribute (with_attribute all b) a
attributes_commute all a b h = twice a b ∙ commute key_of same_keys earlier_keys key_order all a b h ∙ sym (twice b a)
  where
    twice : (a b : DocAttribute) → with_attribute (with_attribute all a) b ≡ set key_of same_keys earlier_keys key_order (set key_of same_keys earlier_keys key_order all a) b
    twice a b = ap (λ (xs : List DocAttribute). with_attribute xs b) (attributes_set all a) ∙ attributes_set (set key_of same_keys earlier_keys key_order all a) b

attributes_drop : (all : List DocAttribute) (a : DocAttribute) → without_attribute all a.name a.namespace ≡ drop key_of same_keys earlier_keys key_order all (key_of a)
attributes_drop [] a = refl
attributes_drop (b ∷ rest) a = ap (λ (r : List DocAttribute). if same_key b a.name a.namespace then rest else b ∷ r) (attributes_drop rest a)

attributes_lack : (all : List DocAttribute) (a : DocAttribute) → NoneNamed all a → Lacks key_of same_keys earlier_keys key_order all (key_of a)
attributes_lack [] a h = tt
attributes_lack (b ∷ rest) a h = (h.0, attributes_lack rest a h.1)

pub attribute_goes : (all : List DocAttribute) (a : DocAttribute) → NoneNamed all a → without_attribute (with_attribute all a) a.name a.namespace ≡ all
attribute_goes all a h =
    ap (λ (xs : List DocAttribute). without_attribute xs a.name a.namespace) (attributes_set all a)
    ∙ attributes_drop (set key_of same_keys earlier_keys key_order all a) a
    ∙ goes key_of same_keys earlier_keys key_order all a (attributes_lack all a h)

pub attribute_differs : (all : List DocAttribute) (a b : DocAttribute) → same_key a b.name b.namespace ≡ true → with_attribute (with_attribute all a) b ≡ with_attribute all b
attribute_differs all a b h =
    ap (λ (xs : List DocAttribute). with_attribute xs b) (attributes_set all a)
    ∙ attributes_set (set key_of same_keys earlier_keys key_order all a) b
    ∙ latest key_of same_keys earlier_keys key_order all a b (key_order.decides (key_of a) (key_of b) h)
    ∙ sym (attributes_set all b)

-- listeners go by name
abbrev itself : Text → Text
itself a = a

listeners_set : (all : List Text) (a : Text) → with_listener all a ≡ set itself same_numbers earlier_text text_order all a
listeners_set [] a = refl
listeners_set (b ∷ rest) a =
    by_test (same_numbers b a)
    (λ e. pick_true _ _ e ∙ ap (λ (c : Text). c ∷ rest) (numbers-true b a e) ∙ sym (pick_true _ _ e))
    (λ e. pick_false _ _ e ∙ ap (λ (r : List Text). if earlier_text a b then a ∷ b ∷ rest else b ∷ r) (listeners_set rest a) ∙ sym (pick_false _ _ e))

pub listeners_commute : (all : List Text) (a b : Text) → same_numbers a b ≡ false → with_listener (with_listener all a) b ≡ with_listener (with_listener all b) a
listeners_commute all a b h = twice a b ∙ commute itself same_numbers earlier_text text_order all a b h ∙ sym (twice b a)
  where
    twice : (a b : Text) → with_listener (with_listener all a) b ≡ set itself same_numbers earlier_text text_order (set itself same_numbers earlier_text text_order all a) b
    twice a b = ap (λ (xs : List Text). with_listener xs b) (listeners_set all a) ∙ listeners_set (set itself same_numbers earlier_text text_order all a) b
