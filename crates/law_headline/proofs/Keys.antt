-- Attributes of one element that differ in name or namespace, as the node test has them.
use Rattle.std.proofs.Common.{ℕ, zero, suc, Bool, true, false, ◌&&◌, ◌||◌, not, List, [], ◌∷◌, ◌++◌, ◌≡◌, refl, sym, ap, ◌∙◌}
use Rattle.std.specs.Prelude.{Option, None}
use Rattle.rt_model.specs.Lists.{Text, same_numbers, same_option}
use Rattle.rt_model.specs.Tree.{Types, TemplateAttribute, fixed, from_slot, AttributeValue, text_value, Attribute, attributes_in}
use Rattle.rt_model.specs.Fits.{is_named, all_once, given_names, element_names, is_plain, plain_listeners, all_plain}
use Rattle.rt_model.specs.Caused.{is_key, text_if, text_under, listens, listens_under}
use Rattle.rt_model.proofs.Maps.{pick_true, pick_false, by_test}
use Rattle.rt_model.proofs.SamePlaces.{numbers-true, option-true}
use Rattle.rt_model.proofs.Among.{numbers_same}
use Rattle.rt_model.proofs.Conjunctions.{and-left, and-right}
use Rattle.rt_model.proofs.Members.{clash}
use Rattle.rt_model.proofs.Quiet.{option_same as space_same}

neither_left : (a b : Bool) → not (a || b) ≡ true → a ≡ false
neither_left true b h = cc
neither_left false b h = refl

neither_right : (a b : Bool) → not (a || b) ≡ true → not b ≡ true
neither_right true b h = cc
neither_right false b h = h

module _ {K : Types} where
  -- an attribute with another value
  abbrev pub named : Attribute K → AttributeValue K → Attribute K
  named a v = record { name = a.name; namespace = a.namespace; value = v }

  pub key_name : (a b : Attribute K) → is_key a b ≡ true → a.name ≡ b.name
  key_name a b h = numbers-true a.name b.name (and-left _ (same_option same_numbers a.namespace b.namespace) h)

  pub key_space : (a b : Attribute K) → is_key a b ≡ true → a.namespace ≡ b.namespace
  key_space a b h = option-true a.namespace b.namespace (and-right (same_numbers a.name b.name) _ h)

  pub key_same : (a : Attribute K) → is_key a a ≡ true
  key_same a = ap (λ (x : Bool). x && same_option same_numbers a.namespace a.namespace) (numbers_same a.name) ∙ space_same a.namespace

  pub key_turned : (a b : Attribute K) → is_key a b ≡ true → is_key b a ≡ true
  key_turned a b h =
      ap (λ (n : Text). same_numbers b.name n && same_option same_numbers b.namespace a.namespace) (key_name a b h)
      ∙ ap (λ (s : Option Text). same_numbers b.name b.name && same_option same_numbers b.namespace s) (key_space a b h)
      ∙ key_same b

  -- two attributes differ in name or namespace, and none is a listener with a namespace
  pub record Beside (a b : Attribute K) : Type 0 where
    pub there : is_key a b ≡ false
    pub back : is_key b a ≡ false
    pub plain : is_plain a.value a.namespace ≡ true
    pub other : is_plain b.value b.namespace ≡ true

  pub turned : (a b : Attribute K) → Beside a b → Beside b a
  turned a b h = record { there = h.back; back = h.there; plain = h.other; other = h.plain }

  pub beside : (a b : Attribute K) → is_key a b ≡ false → is_plain a.value a.namespace ≡ true → is_plain b.value b.namespace ≡ true → Beside a b
  beside a b h p q =
      record { there = h; back = by_test (is_key b a) (λ e. clash (key_turned b a e) h) (λ e. e); plain = p; other = q }

  -- an attribute and all of a list
  abbrev pub AllBeside : Attribute K → List (Attribute K) → Type 0
  AllBeside a [] = Unit {0}
  AllBeside a (b ∷ rest) = Beside a b × AllBeside a rest

  -- each and all after it
  abbrev pub Unique : List (Attribute K) → Type 0
  Unique [] = Unit {0}
  Unique (a ∷ rest) = (is_plain a.value a.namespace ≡ true) × AllBeside a rest × Unique rest

  -- an attribute of the same name and namespace is beside the same ones
  pub beside_like : (a b : Attribute K) (es : List (Attribute K)) → is_key a b ≡ true → is_plain a.value a.namespace ≡ true → AllBeside b es → AllBeside a es
  beside_like a b [] e p h = tt
  beside_like a b (c ∷ rest) e p h = (
    beside a c
        (ap (λ (n : Text). same_numbers n c.name && same_option same_numbers a.namespace c.namespace) (key_name a b e)
        ∙ ap (λ (s : Option Text). same_numbers b.name c.name && same_option same_numbers s c.namespace) (key_space a b e)
        ∙ h.0.there)
        p
        h.0.other,
    beside_like a b rest e p h.1,
  )

  -- no listener of a list has a namespace
  abbrev pub AllPlain : List (Attribute K) → Type 0
  AllPlain [] = Unit {0}
  AllPlain (a ∷ rest) = (is_plain a.value a.namespace ≡ true) × AllPlain rest

  pub beside_both : (a : Attribute K) (xs ys : List (Attribute K)) → AllBeside a xs → AllBeside a ys → AllBeside a (xs ++ ys)
  beside_both a [] ys h k = k
  beside_both a (x ∷ xs) ys h k = (h.0, beside_both a xs ys h.1 k)

  pub beside_left : (a : Attribute K) (xs ys : List (Attribute K)) → AllBeside a (xs ++ ys) → AllBeside a xs
  beside_left a [] ys h = tt
  beside_left a (x ∷ xs) ys h = (h.0, beside_left a xs ys h.1)

  pub beside_right : (a : Attribute K) (xs ys : List (Attribute K)) → AllBeside a (xs ++ ys) → AllBeside a ys
  beside_right a [] ys h = h
  beside_right a (x ∷ xs) ys h = beside_right a xs ys h.1

  pub unique_left : (xs ys : List (Attribute K)) → Unique (xs ++ ys) → Unique xs
  unique_left [] ys h = tt
  unique_left (x ∷ xs) ys h = (h.0, beside_left x xs ys h.1, unique_left xs ys h.2)

  pub unique_right : (xs ys : List (Attribute K)) → Unique (xs ++ ys) → Unique ys
  unique_right [] ys h = h
  unique_right (x ∷ xs) ys h = unique_right xs ys h.2

  plain_both : (xs ys : List (Attribute K)) → AllPlain xs → AllPlain ys → AllPlain (xs ++ ys)
  plain_both [] ys h k = k
  plain_both (x ∷ xs) ys h k = (h.0, plain_both xs ys h.1 k)

  -- no name twice, by the node test
  named_beside : (a : Attribute K) (es : List (Attribute K)) → is_plain a.value a.namespace ≡ true → AllPlain es → not (is_named (a.name, a.namespace) (given_names es)) ≡ true → AllBeside a es
  named_beside a [] p q h = tt
  named_beside a (b ∷ rest) p q h = (
    beside a b (neither_left (is_key a b) (is_named (a.name, a.namespace) (given_names rest)) h) p q.0,
    named_beside a rest p q.1 (neither_right (is_key a b) (is_named (a.name, a.namespace) (given_names rest)) h),
  )

  once_unique : (es : List (Attribute K)) → AllPlain es → all_once (given_names es) ≡ true → Unique es
  once_unique [] p h = tt
  once_unique (a ∷ rest) p h = (
    p.0,
    named_beside a rest p.0 p.1 (and-left _ (all_once (given_names rest)) h),
    once_unique rest p.1 (and-right (not (is_named (a.name, a.namespace) (given_names rest))) _ h),
  )

  -- what an element is given, static and from its slots, in one list
  abbrev pub flat : (ℕ → List (Attribute K)) → List TemplateAttribute → List (Attribute K)
  flat slot [] = []
  flat slot (fixed name namespace value ∷ rest) = record { name = name; namespace = namespace; value = text_value value } ∷ flat slot rest
  flat slot (from_slot k ∷ rest) = slot k ++ flat slot rest

  names_join : (xs ys : List (Attribute K)) → given_names (xs ++ ys) ≡ given_names xs ++ given_names ys
  names_join [] ys = refl
  names_join (x ∷ xs) ys = ap (λ (names : List (Text × Option Text)). (x.name, x.namespace) ∷ names) (names_join xs ys)

  names_flat : (given : List (List (Attribute K))) (attributes : List TemplateAttribute) → element_names given attributes ≡ given_names (flat (λ k. attributes_in given k) attributes)
  names_flat given [] = refl
  names_flat given (fixed name namespace value ∷ rest) = ap (λ (names : List (Text × Option Text)). (name, namespace) ∷ names) (names_flat given rest)
  names_flat given (from_slot k ∷ rest) =
      ap (λ (names : List (Text × Option Text)). given_names (attributes_in given k) ++ names) (names_flat given rest)
      ∙ sym (names_join (attributes_in given k) (flat (λ j. attributes_in given j) rest))

  plain_given : (es : List (Attribute K)) → plain_listeners es ≡ true → AllPlain es
  plain_given [] h = tt
  plain_given (a ∷ rest) h = (and-left _ (plain_listeners rest) h, plain_given rest (and-right (is_plain a.value a.namespace) _ h))

  plain_slot : (given : List (List (Attribute K))) (k : ℕ) → all_plain given ≡ true → AllPlain (attributes_in given k)
  plain_slot [] k h = tt
  plain_slot (a ∷ rest) zero h = plain_given a (and-left _ (all_plain rest) h)
  plain_slot (a ∷ rest) (suc k) h = plain_slot rest k (and-right (plain_listeners a) _ h)

  plain_flat : (given : List (List (Attribute K))) (attributes : List TemplateAttribute) → all_plain given ≡ true → AllPlain (flat (λ k. attributes_in given k) attributes)
  plain_flat given [] h = tt
  plain_flat given (fixed name namespace value ∷ rest) h = (refl, plain_flat given rest h)
  plain_flat given (from_slot k ∷ rest) h = plain_both (attributes_in given k) (flat (λ j. attributes_in given j) rest) (plain_slot given k h) (plain_flat given rest h)

  -- an element of a tree that passes the node test has no name twice
  pub element_unique : (given : List (List (Attribute K))) (attributes : List TemplateAttribute) → all_plain given ≡ true → all_once (element_names given attributes) ≡ true → Unique (flat (λ k. attributes_in given k) attributes)
  element_unique given attributes p h =
      once_unique (flat (λ k. attributes_in given k) attributes) (plain_flat given attributes p) (ap all_once (sym (names_flat given attributes)) ∙ h)

  -- what stands under the key of another attribute
  pub text_past : (a c : Attribute K) (rest : List (Attribute K)) → is_key a c ≡ false → text_under c (a ∷ rest) ≡ text_under c rest
  text_past a c rest h = pick_false (text_if (text_under c rest) a.value) (text_under c rest) h

  pub listens_past : (a c : Attribute K) (rest : List (Attribute K)) → is_key a c ≡ false → listens_under c (a ∷ rest) ≡ listens_under c rest
  listens_past a c rest h = ap (λ (x : Bool). (x && listens a.value) || listens_under c rest) h

  pub text_here : (a c : Attribute K) (rest : List (Attribute K)) → is_key a c ≡ true → text_under c (a ∷ rest) ≡ text_if (text_under c rest) a.value
  text_here a c rest h = pick_true (text_if (text_under c rest) a.value) (text_under c rest) h

  pub listens_here : (a c : Attribute K) (rest : List (Attribute K)) → is_key a c ≡ true → listens_under c (a ∷ rest) ≡ (listens a.value || listens_under c rest)
  listens_here a c rest h = ap (λ (x : Bool). (x && listens a.value) || listens_under c rest) h

  -- nothing stands under a key that none of a list has
  pub no_text : (c : Attribute K) (es : List (Attribute K)) → AllBeside c es → text_under c es ≡ None
  no_text c [] h = refl
  no_text c (a ∷ rest) h = text_past a c rest h.0.back ∙ no_text c rest h.1

  pub no_listener : (c : Attribute K) (es : List (Attribute K)) → AllBeside c es → listens_under c es ≡ false
  no_listener c [] h = refl
  no_listener c (a ∷ rest) h = listens_past a c rest h.0.back ∙ no_listener c rest h.1
