-- Attributes and listeners take their places, or go, as the definitions say.
use Rattle.std.proofs.Common.{◌≡◌, ℕ, zero, suc, ◌+◌, Bool, true, false, cond, ◌&&◌, ◌||◌, nat_eq, nat_lt, List, [], ◌∷◌, map, length, Option, Some, None, is_some, refl, sym, ap, ◌∙◌, arith}
use Rattle.std.specs.Prelude.{option_map}
use Rattle.std.specs.List.{position, position_or_len}
use Rattle.std.specs.declared.cmp.Ordering.{Ordering}
use Rattle.std.specs.declared.cmp.Ordering.TheVariants.{Less, Equal, Greater}
use Rattle.std.specs.Ordering.{nat_cmp, is_eq, is_lt, ordering_then}
use Rattle.std.specs.Cmp.Lexicographic.{slice_cmp}
use Rattle.std.proofs.lemmas.Cmp.{same_from_slice_cmp}
use Rattle.std.proofs.lemmas.List.Recursion.{is_position_or_len}
use Rattle.std.proofs.lemmas.Bool.Decides.{nat_tests}
use Rattle.rt_edits.specs.declared.doc_node.DocAttr.{DocAttr}
use Rattle.rt_edits.specs.Ordered.{text_order, namespace_order, attribute_order, place_of, put_by, put_in, without, taken_out}
use Rattle.rt_edits.proofs.Found.{neither}
use Rattle.rt_model.specs.Lists.{same_numbers, earlier_text, same_option}
use Rattle.rt_model.specs.Document.{DocAttribute, same_key, earlier_key, earlier_namespace, with_attribute, without_attribute, with_listener, without_listener, has_text}
use Rattle.tree_edits.specs.Documents.{doc_attribute_of}

-- how texts and namespaces stand to one another

earlier : (a b : List ℕ) → is_lt (text_order a b) ≡ earlier_text a b
earlier a b =
    same_from_slice_cmp nat_cmp is_lt earlier_text refl (λ _ _. refl) (λ _ _. refl) (λ x y xs ys o h. grind (arith, nat_tests)) a b
    (text_order a b) refl

equal : (a b : List ℕ) → is_eq (text_order a b) ≡ same_numbers a b
equal a b =
    same_from_slice_cmp nat_cmp is_eq same_numbers refl (λ _ _. refl) (λ _ _. refl) (λ x y xs ys o h. grind (arith, nat_tests)) a b
    (text_order a b) refl

equals : (a b : List ℕ) → is_eq (text_order a b) ≡ same_numbers b a
equals a b =
    same_from_slice_cmp nat_cmp is_eq (λ x y. same_numbers y x) refl (λ _ _. refl) (λ _ _. refl) (λ x y xs ys o h. grind (arith, nat_tests))
    a b (text_order a b) refl

earlier_space : (a b : Option (List ℕ)) → is_lt (namespace_order a b) ≡ earlier_namespace a b
earlier_space None None = refl
earlier_space None (Some b) = refl
earlier_space (Some a) None = refl
earlier_space (Some a) (Some b) = earlier a b

equal_space : (a b : Option (List ℕ)) → is_eq (namespace_order a b) ≡ same_option same_numbers a b
equal_space None None = refl
equal_space None (Some b) = refl
equal_space (Some a) None = refl
equal_space (Some a) (Some b) = equal a b

equals_space : (a b : Option (List ℕ)) → is_eq (namespace_order a b) ≡ same_option same_numbers b a
equals_space None None = refl
equals_space None (Some b) = refl
equals_space (Some a) None = refl
equals_space (Some a) (Some b) = equals a b

then_lt : (p q : Ordering) → is_lt (ordering_then p q) ≡ is_lt p || (is_eq p && is_lt q)
then_lt Less q = refl
then_lt Equal q = refl
then_lt Greater q = refl

then_eq : (p q : Ordering) → is_eq (ordering_then p q) ≡ is_eq q && is_eq p
then_eq Less Less = refl
then_eq Less Equal = refl
then_eq Less Greater = refl
then_eq Equal Less = refl
then_eq Equal Equal = refl
then_eq Equal Greater = refl
then_eq Greater Less = refl
then_eq Greater Equal = refl
then_eq Greater Greater = refl

module _ (name : List ℕ) (namespace : Option (List ℕ)) where
  abbrev stands : DocAttr → Ordering
  stands b = attribute_order name namespace b

  abbrev own : List ℕ → DocAttr
  own value = record { name = name; namespace = namespace; value = value }

  key_is : (b : DocAttr) → is_eq (stands b) ≡ same_key (doc_attribute_of b) name namespace
  key_is b =
      then_eq (namespace_order namespace b.namespace) (text_order name b.name) ∙
      ap (λ x. x && is_eq (namespace_order namespace b.namespace)) (equals name b.name) ∙
      ap (λ x. same_numbers b.name name && x) (equals_space namespace b.namespace)

  before_is : (value : List ℕ) (b : DocAttr) → is_lt (stands b) ≡ earlier_key (doc_attribute_of (own value)) (doc_attribute_of b)
  before_is value b =
      then_lt (namespace_order namespace b.namespace) (text_order name b.name) ∙
      ap (λ x. x || (is_eq (namespace_order namespace b.namespace) && is_lt (text_order name b.name))) (earlier_space namespace b.namespace)
      ∙
      ap (λ x. earlier_namespace namespace b.namespace || (x && is_lt (text_order name b.name))) (equal_space namespace b.namespace) ∙
      ap (λ x. earlier_namespace namespace b.namespace || (same_option same_numbers namespace b.namespace && x)) (earlier name b.name)

put_shape : (o : Ordering) (a b : DocAttr) (xs later : List DocAttr) → map doc_attribute_of (put_by o a b xs later)
    ≡ cond (is_eq o) (doc_attribute_of a ∷ map doc_attribute_of xs)
    (cond (is_lt o) (doc_attribute_of a ∷ doc_attribute_of b ∷ map doc_attribute_of xs) (doc_attribute_of b ∷ map doc_attribute_of later))
put_shape Less a b xs later = refl
put_shape Equal a b xs later = refl
put_shape Greater a b xs later = refl

-- an attribute takes its place
pub attribute_put : (name : List ℕ) (namespace : Option (List ℕ)) (value : List ℕ) (xs : List DocAttr)
    → map doc_attribute_of (put_in (attribute_order name namespace) (own name namespace value) xs) ≡ with_attribute
    (map doc_attribute_of xs) (doc_attribute_of (own name namespace value))
attribute_put name namespace value [] = refl
attribute_put name namespace value (b ∷ xs) =
    let a = own name namespace value in
    let m = doc_attribute_of a in
    let n = doc_attribute_of b in
    let ys = map doc_attribute_of xs in
    let later = put_in (attribute_order name namespace) a xs in
    put_shape (attribute_order name namespace b) a b xs later ∙
    ap (λ x. cond x (m ∷ ys) (cond (is_lt (attribute_order name namespace b)) (m ∷ n ∷ ys) (n ∷ map doc_attribute_of later)))
    (key_is name namespace b) ∙
    ap (λ x. cond (same_key n name namespace) (m ∷ ys) (cond x (m ∷ n ∷ ys) (n ∷ map doc_attribute_of later)))
    (before_is name namespace value b) ∙
    ap (λ x. cond (same_key n name namespace) (m ∷ ys) (cond (earlier_key m n) (m ∷ n ∷ ys) (n ∷ x)))
    (attribute_put name namespace value xs)

-- a listener takes its place, where it isn't there yet

name_shape : (o : Ordering) (n m : List ℕ) (ms later : List (List ℕ)) → is_eq o ≡ false
    → put_by o n m ms later ≡ cond (is_lt o) (n ∷ m ∷ ms) (m ∷ later)
name_shape Less n m ms later h = refl
name_shape Equal n m ms later h = cc
name_shape Greater n m ms later h = refl

pub listener_put : (name : List ℕ) (ls : List (List ℕ)) → has_text ls name ≡ false
    → put_in (text_order name) name ls ≡ with_listener ls name
listener_put name [] h = refl
listener_put name (m ∷ ms) h =
    let apart = neither (same_numbers m name) (has_text ms name) h in
    name_shape (text_order name m) name m ms (put_in (text_order name) name ms) (equals name m ∙ apart.0) ∙
    ap (λ b. cond b (name ∷ m ∷ ms) (m ∷ put_in (text_order name) name ms)) (earlier name m) ∙
    ap (λ ys. cond (earlier_text name m) (name ∷ m ∷ ms) (m ∷ ys)) (listener_put name ms apart.1) ∙
    sym (ap (λ b. cond b (m ∷ ms) (cond (earlier_text name m) (name ∷ m ∷ ms) (m ∷ with_listener ms name))) apart.0)

-- an item goes

zero_low : (n : ℕ) → nat_lt 0 (suc n) ≡ true
zero_low n = grind (arith, nat_tests)

suc_low : (n m : ℕ) → nat_lt (suc n) (suc m) ≡ nat_lt n m
suc_low n m = grind (arith, nat_tests)

one_up : (n : ℕ) → suc n ≡ 1 + n
one_up n = omega arith

module _ {A : Type 0} (test : A → Bool) where
  abbrev first : List A → ℕ
  first [] = 0
  first (x ∷ xs) = cond (test x) 0 (suc (first xs))

  abbrev pub place : List A → Option ℕ
  place [] = None
  place (x ∷ xs) = cond (test x) (Some 0) (option_map suc (place xs))

  abbrev pub gone : List A → List A
  gone [] = []
  gone (x ∷ xs) = cond (test x) xs (x ∷ gone xs)

  abbrev within : ℕ → ℕ → Option ℕ
  within n m = cond (nat_lt n m) (Some n) None

  one_more : (b : Bool) (n : ℕ) → cond b (Some (suc n)) None ≡ option_map suc (cond b (Some n) None)
  one_more true n = refl
  one_more false n = refl

  next_place : (b : Bool) (xs : List A) → within (first xs) (length xs) ≡ place xs
      → within (cond b 0 (suc (first xs))) (suc (length xs)) ≡ cond b (Some 0) (option_map suc (place xs))
  next_place true xs h = ap (λ b. cond b (Some 0) None) (zero_low (length xs))
  next_place false xs h =
      ap (λ b. cond b (Some (suc (first xs))) None) (suc_low (first xs) (length xs)) ∙
      one_more (nat_lt (first xs) (length xs)) (first xs) ∙ ap (option_map suc) h

  places : (xs : List A) → within (first xs) (length xs) ≡ place xs
  places [] = refl
  places (x ∷ xs) = next_place (test x) xs (places xs)

  pub position_is : (xs : List A) → position test xs ≡ place xs
  position_is xs =
      ap (λ n. within n (length xs)) (sym (is_position_or_len first test refl (λ x ys. ap (λ k. cond (test x) 0 k) (one_up (first ys))) xs))
      ∙ places xs

  later_gone : (x : A) (xs : List A) (o : Option ℕ) → without (option_map suc o) (x ∷ xs) ≡ x ∷ without o xs
  later_gone x xs None = refl
  later_gone x xs (Some n) = refl

  next_gone : (b : Bool) (x : A) (xs : List A) → without (place xs) xs ≡ gone xs
      → without (cond b (Some 0) (option_map suc (place xs))) (x ∷ xs) ≡ cond b xs (x ∷ gone xs)
  next_gone true x xs h = refl
  next_gone false x xs h = later_gone x xs (place xs) ∙ ap (λ ys. x ∷ ys) h

  goes : (xs : List A) → without (place xs) xs ≡ gone xs
  goes [] = refl
  goes (x ∷ xs) = next_gone (test x) x xs (goes xs)

  pub taken : (xs : List A) → without (position test xs) xs ≡ gone xs
  taken xs = ap (λ o. without o xs) (position_is xs) ∙ goes xs

  some_place : (b : Bool) (o : Option ℕ) → is_some (cond b (Some 0) (option_map suc o)) ≡ b || is_some o
  some_place true o = refl
  some_place false None = refl
  some_place false (Some n) = refl

gone_shape : (b : Bool) (x : DocAttr) (xs later : List DocAttr)
    → map doc_attribute_of (cond b xs (x ∷ later)) ≡ cond b (map doc_attribute_of xs) (doc_attribute_of x ∷ map doc_attribute_of later)
gone_shape true x xs later = refl
gone_shape false x xs later = refl

attribute_gone : (name : List ℕ) (namespace : Option (List ℕ)) (xs : List DocAttr)
    → map doc_attribute_of (gone (λ b. is_eq (attribute_order name namespace b)) xs) ≡ without_attribute (map doc_attribute_of xs) name
    namespace
attribute_gone name namespace [] = refl
attribute_gone name namespace (b ∷ xs) =
    let later = gone (λ c. is_eq (attribute_order name namespace c)) xs in
    gone_shape (is_eq (attribute_order name namespace b)) b xs later ∙
    ap (λ x. cond x (map doc_attribute_of xs) (doc_attribute_of b ∷ map doc_attribute_of later)) (key_is name namespace b) ∙
    ap (λ ys. cond (same_key (doc_attribute_of b) name namespace) (map doc_attribute_of xs) (doc_attribute_of b ∷ ys))
    (attribute_gone name namespace xs)

-- an attribute goes
pub attribute_taken : (name : List ℕ) (namespace : Option (List ℕ)) (xs : List DocAttr)
    → map doc_attribute_of (taken_out (attribute_order name namespace) xs) ≡ without_attribute (map doc_attribute_of xs) name namespace
attribute_taken name namespace xs = ap (map doc_attribute_of) (taken (λ b. is_eq (attribute_order name namespace b)) xs) ∙
    attribute_gone name namespace xs

listener_gone : (name : List ℕ) (ls : List (List ℕ)) → gone (λ m. is_eq (text_order name m)) ls ≡ without_listener ls name
listener_gone name [] = refl
listener_gone name (m ∷ ms) =
    ap (λ b. cond b ms (m ∷ gone (λ k. is_eq (text_order name k)) ms)) (equals name m) ∙
    ap (λ ys. cond (same_numbers m name) ms (m ∷ ys)) (listener_gone name ms)

-- a listener goes
pub listener_taken : (name : List ℕ) (ls : List (List ℕ)) → taken_out (text_order name) ls ≡ without_listener ls name
listener_taken name ls = taken (λ m. is_eq (text_order name m)) ls ∙ listener_gone name ls

listener_place : (name : List ℕ) (ls : List (List ℕ)) → is_some (place (λ m. is_eq (text_order name m)) ls) ≡ has_text ls name
listener_place name [] = refl
listener_place name (m ∷ ms) =
    some_place (λ k. is_eq (text_order name k)) (is_eq (text_order name m)) (place (λ k. is_eq (text_order name k)) ms) ∙
    ap (λ b. b || is_some (place (λ k. is_eq (text_order name k)) ms)) (equals name m) ∙
    ap (λ b. same_numbers m name || b) (listener_place name ms)

-- whether a name is listened to
pub listens_is : (name : List ℕ) (ls : List (List ℕ)) → is_some (place_of (text_order name) ls) ≡ has_text ls name
listens_is name ls = ap is_some (position_is (λ m. is_eq (text_order name m)) ls) ∙ listener_place name ls
