-- Names that ascend, attribute by attribute; no two of them are the same.
use Rattle.std.proofs.Common.{◌≡◌, ℕ, ◌+◌, ◌<◌, ◌≤◌, List, [], ◌∷◌, ◌++◌, length, get_or, drop, map, true, false, refl, sym, ◌∙◌, ap}
use mathlib.Core.Bool.{true≢false}
use Rattle.std.specs.Prelude.{Bool, ◌&&◌, not, Option, Some, None, is_some, if◌then◌else◌, option_and_then, option_map}
use Rattle.std.specs.declared.cmp.Ordering.TheVariants.{Less}
use Rattle.std.specs.Ordering.{is_lt, is_eq, nat_cmp}
use Rattle.std.specs.Cmp.Lexicographic.{slice_cmp, nat_list_cmp_total}
use Rattle.std.specs.List.{list_any}
use Rattle.std.proofs.Math.ListN.{drop_of_length-le}
use Rattle.std.proofs.lemmas.Map.Text.{is_eq-slice_cmp}
use Rattle.rt_lemmas.proofs.Bools.{not_either as neither}
use Rattle.rt_lemmas.proofs.Orders.{less}
use Rattle.tree_nodes.specs.Names.{Name, same_name, same_namespace, distinct, name_of, names_of, names_in}
use Rattle.tree_nodes.specs.declared.attribute.Attribute.{Attribute}
use Rattle.tree_nodes.specs.declared.template.TemplateAttribute.{TemplateAttribute}
use Rattle.tree_fits.specs.Rising.{risen}
use Rattle.tree_fits.proofs.NamesLemmas.{names_in-drop, drop-next}

chosen : {A B : Type 0} (b : Bool) (f : A → Option B) (p : Option B) (q : Option A) → p ≡ option_and_then f q
    → (if b then p else None) ≡ option_and_then f (if b then q else None)
chosen true f p q is = is
chosen false f p q is = refl

-- one part after another
pub risen-append : (last : List ℕ) (xs ys : List Name) → risen last (xs ++ ys) ≡ option_and_then (λ next. risen next ys) (risen last xs)
risen-append last [] ys = refl
risen-append last (x ∷ xs) ys =
    chosen (is_lt (slice_cmp nat_cmp last x.0)) (λ next. risen next ys) (risen x.0 (xs ++ ys)) (risen x.0 xs) (risen-append x.0 xs ys)

-- one attribute more whose names ascend
pub rise-next : (slots : List (List Name)) (attrs : List TemplateAttribute) (last next : List ℕ) (k : ℕ) (x : TemplateAttribute) → k < length attrs → x ≡ get_or attrs k x
    → risen last (names_of slots x) ≡ Some next
    → risen last (names_in slots (drop k attrs)) ≡ risen next (names_in slots (drop (k + 1) attrs))
rise-next slots attrs last next k x within read one =
    ap (risen last) (names_in-drop slots attrs k x within read) ∙ risen-append last (names_of slots x) _ ∙
    ap (option_and_then (λ n. risen n (names_in slots (drop (k + 1) attrs)))) one

-- an attribute whose names don't
pub rise-stop : (slots : List (List Name)) (attrs : List TemplateAttribute) (last : List ℕ) (k : ℕ) (x : TemplateAttribute) → k < length attrs → x ≡ get_or attrs k x
    → risen last (names_of slots x) ≡ None
    → risen last (names_in slots (drop k attrs)) ≡ None
rise-stop slots attrs last k x within read one =
    ap (risen last) (names_in-drop slots attrs k x within read) ∙ risen-append last (names_of slots x) _ ∙
    ap (option_and_then (λ n. risen n (names_in slots (drop (k + 1) attrs)))) one

-- all attributes' names do
pub rise-end : (slots : List (List Name)) (attrs : List TemplateAttribute) (last : List ℕ) (k : ℕ) → length attrs ≤ k
    → Some last ≡ risen last (names_in slots (drop k attrs))
rise-end slots attrs last k end = ap (λ xs. risen last (names_in slots xs)) (sym (drop_of_length-le attrs end))

module _ {P C Q V H T E L : Type 0} where
  -- the name of one more attribute in a slot
  pub slot-rise : (slot : List (Attribute P C Q V H T E L)) (last next : List ℕ) (k : ℕ) (x : Attribute P C Q V H T E L) → k < length slot → x ≡ get_or slot k x
      → (if is_lt (slice_cmp nat_cmp last x.name) then Some x.name else None) ≡ Some next
      → risen last (map name_of (drop k slot)) ≡ risen next (map name_of (drop (k + 1) slot))
  slot-rise slot last next k x within read one =
      ap (λ xs. risen last (map name_of xs)) (drop-next slot k x within read) ∙ risen-append last (name_of x ∷ []) (map name_of (drop (k + 1) slot)) ∙
      ap (option_and_then (λ n. risen n (map name_of (drop (k + 1) slot)))) one

  -- a name that doesn't ascend
  pub slot-stop : (slot : List (Attribute P C Q V H T E L)) (last : List ℕ) (k : ℕ) (x : Attribute P C Q V H T E L) → k < length slot → x ≡ get_or slot k x
      → (if is_lt (slice_cmp nat_cmp last x.name) then Some x.name else None) ≡ None
      → risen last (map name_of (drop k slot)) ≡ None
  slot-stop slot last k x within read one =
      ap (λ xs. risen last (map name_of xs)) (drop-next slot k x within read) ∙ risen-append last (name_of x ∷ []) (map name_of (drop (k + 1) slot)) ∙
      ap (option_and_then (λ n. risen n (map name_of (drop (k + 1) slot)))) one

  -- all names of a slot
  pub slot-end : (slot : List (Attribute P C Q V H T E L)) (last : List ℕ) (k : ℕ) → length slot ≤ k → Some last ≡ risen last (map name_of (drop k slot))
  slot-end slot last k end = ap (λ xs. risen last (map name_of xs)) (sym (drop_of_length-le slot end))

-- where a choice gives something, it was made
made : {A : Type 0} (b : Bool) (o : Option A) → is_some (if b then o else None) ≡ true → (b ≡ true) × (is_some o ≡ true)
made true o some = (refl, some)
made false o some = absurd (true≢false (sym some))

-- a text that comes before another one isn't that one
other : (m n : Name) → slice_cmp nat_cmp m.0 n.0 ≡ Less → same_name m n ≡ false
other m n before = ap (λ b. b && same_namespace m.1 n.1) (sym (is_eq-slice_cmp m.0 n.0) ∙ ap is_eq before)

-- a name that comes before names that ascend isn't one of them
unnamed : (m : Name) (last : List ℕ) (names : List Name) → slice_cmp nat_cmp m.0 last ≡ Less → is_some (risen last names) ≡ true → list_any (same_name m) names ≡ false
unnamed m last [] before rising = refl
unnamed m last (n ∷ rest) before rising =
    let parts = made (is_lt (slice_cmp nat_cmp last n.0)) (risen n.0 rest) rising in
    let further : slice_cmp nat_cmp m.0 n.0 ≡ Less = nat_list_cmp_total.trans m.0 last n.0 before (less (slice_cmp nat_cmp last n.0) parts.0) in
    neither (same_name m n) (list_any (same_name m) rest) (other m n further) (unnamed m n.0 rest further parts.1)

-- nor is one that they ascend from
unrepeated : (m : Name) (names : List Name) → is_some (risen m.0 names) ≡ true → list_any (same_name m) names ≡ false
unrepeated m [] rising = refl
unrepeated m (n ∷ rest) rising =
    let parts = made (is_lt (slice_cmp nat_cmp m.0 n.0)) (risen n.0 rest) rising in
    let before : slice_cmp nat_cmp m.0 n.0 ≡ Less = less (slice_cmp nat_cmp m.0 n.0) parts.0 in
    neither (same_name m n) (list_any (same_name m) rest) (other m n before) (unnamed m n.0 rest before parts.1)

-- names that ascend differ
pub risen-distinct : (last : List ℕ) (names : List Name) → is_some (risen last names) ≡ true → distinct names ≡ true
risen-distinct last [] rising = refl
risen-distinct last (n ∷ rest) rising =
    let parts = made (is_lt (slice_cmp nat_cmp last n.0)) (risen n.0 rest) rising in
    ap (λ b. not b && distinct rest) (unrepeated n rest parts.1) ∙ risen-distinct n.0 rest parts.1

-- what is there is there under any function
pub some_mapped : {A B : Type 0} (f : A → B) (o : Option A) → is_some (option_map f o) ≡ is_some o
some_mapped f None = refl
some_mapped f (Some x) = refl
