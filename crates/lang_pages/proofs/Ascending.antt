-- An attribute that takes its place leaves attributes that ascend.
use Rattle.std.proofs.Common.{Bool, true, false, ◌&&◌, ◌||◌, List, [], ◌∷◌, ◌≡◌, refl, sym, ap, ◌∙◌}
use Rattle.std.specs.Prelude.{Option, if◌then◌else◌}
pub use Rattle.rt_lemmas.proofs.Bools.{and_both as both}
use Rattle.rt_html.specs.Reading.{before_first, ascend}
use Rattle.rt_model.specs.Lists.{Text, same_numbers, same_option, earlier_text}
use Rattle.rt_model.specs.Document.{DocAttribute, earlier_namespace, same_key, earlier_key, with_attribute}
use Rattle.rt_model.proofs.Among.{numbers_same}
use Rattle.rt_model.proofs.Conjunctions.{and-left, and-right}
use Rattle.rt_model.proofs.Maps.{pick_false, by_test}
use Rattle.rt_model.proofs.Members.{clash}
use Rattle.rt_model.proofs.SamePlaces.{numbers-true, option-true}
use Rattle.rt_model.proofs.Quiet.{option_same as own_space}
use Rattle.law_headline.proofs.Entries.{attributes_commute}

-- an attribute has its own key
own_key : (a : DocAttribute) → same_key a a.name a.namespace ≡ true
own_key a =
    both (same_numbers a.name a.name) (same_option same_numbers a.namespace a.namespace) (numbers_same a.name) (own_space a.namespace)

-- those of one key have one name, and one namespace
name_is : (a b : DocAttribute) → same_key a b.name b.namespace ≡ true → a.name ≡ b.name
name_is a b h = numbers-true a.name b.name (and-left (same_numbers a.name b.name) (same_option same_numbers a.namespace b.namespace) h)

space_is : (a b : DocAttribute) → same_key a b.name b.namespace ≡ true → a.namespace ≡ b.namespace
space_is a b h =
    option-true a.namespace b.namespace (and-right (same_numbers a.name b.name) (same_option same_numbers a.namespace b.namespace) h)

-- other keys are so both ways
turned : (a b : DocAttribute) → same_key a b.name b.namespace ≡ false → same_key b a.name a.namespace ≡ false
turned a b h = by_test (same_key b a.name a.namespace) (λ e. clash (same e) h) (λ e. e)
  where
    same : same_key b a.name a.namespace ≡ true → same_key a b.name b.namespace ≡ true
    same e =
        ap (λ (n : Text). same_numbers n b.name && same_option same_numbers a.namespace b.namespace) (sym (name_is b a e))
        ∙ ap (λ (s : Option Text). same_numbers b.name b.name && same_option same_numbers s b.namespace) (sym (space_is b a e))
        ∙ own_key b

heads : (a b : DocAttribute) (all more : List DocAttribute) → a ∷ all ≡ b ∷ more → a ≡ b
heads a b all more same = cc same

-- of two attributes with other keys one comes before the other, since they take their places alike whichever comes first
total : (a b : DocAttribute) → same_key b a.name a.namespace ≡ false → earlier_key a b ≡ false → earlier_key b a ≡ true
total a b apart later =
    by_test (earlier_key b a) (λ e. e)
    (λ e. clash (own_key b) (ap (λ (x : DocAttribute). same_key b x.name x.namespace) (heads b a (a ∷ []) (b ∷ []) (same e)) ∙ apart))
  where
    one : with_attribute (b ∷ []) a ≡ b ∷ a ∷ []
    one =
        pick_false (a ∷ []) (if earlier_key a b then a ∷ b ∷ [] else b ∷ a ∷ []) apart
        ∙ pick_false (a ∷ b ∷ []) (b ∷ a ∷ []) later

    other : earlier_key b a ≡ false → with_attribute (a ∷ []) b ≡ a ∷ b ∷ []
    other e =
        pick_false (b ∷ []) (if earlier_key b a then b ∷ a ∷ [] else a ∷ b ∷ []) (turned b a apart)
        ∙ pick_false (b ∷ a ∷ []) (a ∷ b ∷ []) e

    same : earlier_key b a ≡ false → b ∷ a ∷ [] ≡ a ∷ b ∷ []
    same e = sym one ∙ attributes_commute [] b a apart ∙ other e

-- what comes before an attribute and before the first of others comes before the first of all
before_set : (b a : DocAttribute) (rest : List DocAttribute) → earlier_key b a ≡ true → before_first b rest ≡ true
    → before_first b (with_attribute rest a) ≡ true
before_set b a [] less h = less
before_set b a (c ∷ rest) less h = by_key (same_key c a.name a.namespace) (earlier_key a c)
  where
    by_key : (x y : Bool)
        → before_first b (if x then a ∷ rest else (if y then a ∷ c ∷ rest else c ∷ with_attribute rest a)) ≡ true
    by_key true y = less
    by_key false true = less
    by_key false false = h

-- an attribute comes before what another one of its key comes before
before_same : (b a : DocAttribute) (rest : List DocAttribute) → same_key b a.name a.namespace ≡ true → before_first b rest ≡ true
    → before_first a rest ≡ true
before_same b a [] e h = refl
before_same b a (c ∷ rest) e h =
    ap (λ (s : Option Text). earlier_namespace s c.namespace || (same_option same_numbers s c.namespace && earlier_text a.name c.name))
    (sym (space_is b a e))
    ∙ ap (λ (n : Text). earlier_namespace b.namespace c.namespace || (same_option same_numbers b.namespace c.namespace && earlier_text n c.name))
    (sym (name_is b a e))
    ∙ h

-- one more attribute
pub set_ascends : (all : List DocAttribute) (a : DocAttribute) → ascend all ≡ true → ascend (with_attribute all a) ≡ true
set_ascends [] a h = refl
set_ascends (b ∷ rest) a h =
    let later : ascend rest ≡ true = and-right (before_first b rest) (ascend rest) h in
    by_key (same_key b a.name a.namespace) (earlier_key a b) refl refl (and-left (before_first b rest) (ascend rest) h) later
    (set_ascends rest a later)
  where
    by_key : (x y : Bool) → same_key b a.name a.namespace ≡ x → earlier_key a b ≡ y → before_first b rest ≡ true → ascend rest ≡ true
        → ascend (with_attribute rest a) ≡ true
        → ascend (if x then a ∷ rest else (if y then a ∷ b ∷ rest else b ∷ with_attribute rest a)) ≡ true
    by_key true y e d first later go = both (before_first a rest) (ascend rest) (before_same b a rest e first) later
    by_key false true e d first later go = both (earlier_key a b) (ascend (b ∷ rest)) d h
    by_key false false e d first later go =
        both (before_first b (with_attribute rest a)) (ascend (with_attribute rest a)) (before_set b a rest (total a b e d) first) go
