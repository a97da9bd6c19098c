-- Texts, namespaces and attributes are ordered as the definitions order them.
use Rattle.std.proofs.Common.{ℕ, Bool, true, false, ◌||◌, ◌&&◌, List, [], ◌∷◌, ◌≡◌, refl, sym, ap, ◌∙◌, arith}
use Rattle.std.specs.Prelude.{Option, Some, None, if◌then◌else◌}
use Rattle.std.specs.Option.{option_cmp}
use Rattle.std.specs.declared.cmp.Ordering.{Ordering}
use Rattle.std.specs.declared.cmp.Ordering.TheVariants.{Less, Equal, Greater}
use Rattle.std.specs.Ordering.{nat_cmp, is_lt, is_eq, ordering_then, match_ordering}
use Rattle.std.specs.Cmp.{IsTotalOrder, then_total, on_total}
use Rattle.std.specs.Cmp.Lexicographic.{slice_cmp, nat_list_cmp_total, options_total}
use Rattle.std.specs.BTreeSet.{insert_key, replace_key}
use Rattle.std.proofs.lemmas.Cmp.{same_from_slice_cmp}
use Rattle.std.proofs.lemmas.Bool.Decides.{nat_tests}
use Rattle.rt_cells.proofs.Searched.{tie_turned}
use Rattle.rt_model.specs.Laws.{Tests}
use Rattle.rt_model.specs.Lists.{Text, same_numbers, earlier_text, same_option}
use Rattle.rt_model.specs.Document.{earlier_namespace, earlier_key, same_key, with_attribute, with_listener}
use Rattle.rt_model.proofs.SameTrees.{numbers, option_tests}
use Rattle.rt_edits.specs.declared.doc_node.DocAttr.{DocAttr}
use Rattle.tree_edits.specs.Documents.{doc_attribute_of}
use Rattle.run_attributes.specs.Content.{attributes_of}
use Rattle.run_attributes.specs.Order.{key_order}

-- an answer that says whether two values are equal is that of any test that decides it
tested : {A : Type 0} (same : A → A → Bool) → Tests A same → (answer : Bool) (x y : A) → (answer ≡ true → x ≡ y) → (x ≡ y → answer ≡ true) → answer ≡ same x y
tested same tests true x y sound whole = sym (tests.1 x) ∙ ap (λ z. same x z) (sound refl)
tested same tests false x y sound whole = by (same x y) refl
  where
    by : (b : Bool) → b ≡ same x y → false ≡ b
    by false is = refl
    by true is = whole (tests.0 x y (sym is))

pub text-tested : (answer : Bool) (x y : List ℕ) → (answer ≡ true → x ≡ y) → (x ≡ y → answer ≡ true) → answer ≡ same_numbers x y
text-tested = tested same_numbers numbers

pub namespace-tested : (answer : Bool) (x y : Option (List ℕ)) → (answer ≡ true → x ≡ y) → (x ≡ y → answer ≡ true) → answer ≡ same_option same_numbers x y
namespace-tested = tested (λ o p. same_option same_numbers o p) (option_tests same_numbers numbers)

earlier-is : (a b : List ℕ) (o : Ordering) → o ≡ slice_cmp nat_cmp a b → is_lt o ≡ earlier_text a b
earlier-is = same_from_slice_cmp nat_cmp is_lt earlier_text refl (λ _ _. refl) (λ _ _. refl) (λ x y xs ys o h. grind (arith, nat_tests))

same-is : (a b : List ℕ) (o : Ordering) → o ≡ slice_cmp nat_cmp a b → is_eq o ≡ same_numbers a b
same-is = same_from_slice_cmp nat_cmp is_eq same_numbers refl (λ _ _. refl) (λ _ _. refl) (λ x y xs ys o h. grind (arith, nat_tests))

-- a text comes before another one
text-earlier : (a b : Text) → earlier_text a b ≡ is_lt (slice_cmp nat_cmp a b)
text-earlier a b = sym (earlier-is a b (slice_cmp nat_cmp a b) refl)

-- two texts are equal
text-same : (a b : Text) → same_numbers a b ≡ is_eq (slice_cmp nat_cmp a b)
text-same a b = sym (same-is a b (slice_cmp nat_cmp a b) refl)

text-turned : (a b : Text) → same_numbers b a ≡ is_eq (slice_cmp nat_cmp a b)
text-turned a b = text-same b a ∙ sym (tie_turned nat_list_cmp_total a b)

-- a namespace comes before another one, and two are equal

abbrev spaces : Option Text → Option Text → Ordering
spaces a b = option_cmp (slice_cmp nat_cmp) a b

space-earlier : (a b : Option Text) → earlier_namespace a b ≡ is_lt (spaces a b)
space-earlier None None = refl
space-earlier None (Some b) = refl
space-earlier (Some a) None = refl
space-earlier (Some a) (Some b) = text-earlier a b

space-same : (a b : Option Text) → same_option same_numbers a b ≡ is_eq (spaces a b)
space-same None None = refl
space-same None (Some b) = refl
space-same (Some a) None = refl
space-same (Some a) (Some b) = text-same a b

space-turned : (a b : Option Text) → same_option same_numbers b a ≡ is_eq (spaces a b)
space-turned None None = refl
space-turned None (Some b) = refl
space-turned (Some a) None = refl
space-turned (Some a) (Some b) = text-turned a b

then-lt : (r s : Ordering) → (is_lt r || (is_eq r && is_lt s)) ≡ is_lt (ordering_then r s)
then-lt Less s = refl
then-lt Equal s = refl
then-lt Greater s = refl

then-eq : (r s : Ordering) → (is_eq s && is_eq r) ≡ is_eq (ordering_then r s)
then-eq Less Less = refl
then-eq Less Equal = refl
then-eq Less Greater = refl
then-eq Equal Less = refl
then-eq Equal Equal = refl
then-eq Equal Greater = refl
then-eq Greater Less = refl
then-eq Greater Equal = refl
then-eq Greater Greater = refl

-- an attribute comes before another one
key-earlier : (a b : DocAttr) → earlier_key (doc_attribute_of a) (doc_attribute_of b) ≡ is_lt (key_order a b)
key-earlier a b =
    (λ i. space-earlier a.namespace b.namespace i || (space-same a.namespace b.namespace i && text-earlier a.name b.name i))
    ∙ then-lt (spaces a.namespace b.namespace) (slice_cmp nat_cmp a.name b.name)

-- two attributes have one name and namespace
key-same : (a b : DocAttr) → same_key (doc_attribute_of b) a.name a.namespace ≡ is_eq (key_order a b)
key-same a b =
    (λ i. text-turned a.name b.name i && space-turned a.namespace b.namespace i)
    ∙ then-eq (spaces a.namespace b.namespace) (slice_cmp nat_cmp a.name b.name)

-- the orders are total

pub texts-total : IsTotalOrder (slice_cmp nat_cmp)
texts-total = nat_list_cmp_total

pub keys-total : IsTotalOrder key_order
keys-total = then_total (on_total (λ (a : DocAttr). a.namespace) (options_total nat_list_cmp_total)) (on_total (λ (a : DocAttr). a.name) nat_list_cmp_total)

chosen : (r : Ordering) (x y z : List DocAttr)
    → attributes_of (match_ordering r x y z) ≡ (if is_eq r then attributes_of y else (if is_lt r then attributes_of x else attributes_of z))
chosen Less x y z = refl
chosen Equal x y z = refl
chosen Greater x y z = refl

-- an attribute takes its place as the definitions say
pub attribute-put : (a : DocAttr) (xs : List DocAttr) → attributes_of (replace_key key_order xs a) ≡ with_attribute (attributes_of xs) (doc_attribute_of a)
attribute-put a [] = refl
attribute-put a (b ∷ rest) =
    let same = sym (key-same a b) in
    let earlier = sym (key-earlier a b) in
    chosen (key_order a b) (a ∷ b ∷ rest) (a ∷ rest) (b ∷ replace_key key_order rest a)
    ∙ (λ i. if same i then attributes_of (a ∷ rest) else (if earlier i then attributes_of (a ∷ b ∷ rest) else doc_attribute_of b ∷ attribute-put a rest i))

picked : (r : Ordering) (x y z : List Text) → match_ordering r x y z ≡ (if is_eq r then y else (if is_lt r then x else z))
picked Less x y z = refl
picked Equal x y z = refl
picked Greater x y z = refl

-- and so does a listener
pub listener-put : (n : Text) (xs : List Text) → insert_key (slice_cmp nat_cmp) xs n ≡ with_listener xs n
listener-put n [] = refl
listener-put n (m ∷ rest) =
    let same = sym (text-turned n m) in
    let earlier = sym (text-earlier n m) in
    picked (slice_cmp nat_cmp n m) (n ∷ m ∷ rest) (m ∷ rest) (m ∷ insert_key (slice_cmp nat_cmp) rest n)
    ∙ (λ i. if same i then m ∷ rest else (if earlier i then n ∷ m ∷ rest else m ∷ listener-put n rest i))
