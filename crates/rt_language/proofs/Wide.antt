-- Templates of narrow rows have their paths, and trees with a wide row don't fit.
use Rattle.std.proofs.Common.{arith, ◌≡◌, ◌⊎◌, inl, inr, ℕ, ◌+◌, ◌≤◌, Bool, true, false, ◌&&◌, List, [], ◌∷◌, ◌++◌, map, drop, length, refl, ap}
use Rattle.std.proofs.lemmas.Bool.{and_parts, leb-true, le-leb, and_cases, and_right}
use Rattle.std.specs.Prelude.{nat_eq, nat_lt, nat_le}
use Rattle.std.specs.List.{AllByRecursion}
use Rattle.rt_model.specs.Lists.{same_numbers, same_list}
use Rattle.rt_model.specs.Tree.{Types, Attribute, Slots, block, TemplateAttribute, fixed, from_slot, TemplateNodes, no_nodes, element_node, text_node, slot_node, template_with, slots_among, attribute_slots, node_slots, paths_of}
use Rattle.rt_model.specs.Fits.{row_length, counts_from, template_fits, slot_count, all_once, element_names, all_plain, nodes_fit, slots_fit, fits_at}
use Rattle.rt_language.specs.Syntax.{View, NoViews, TextView, ElementView, SlotView}
use Rattle.rt_language.specs.Views.{Filling, step_of, in_bytes, template_nodes, template_in_bytes, slots_from, tree_with}
use Rattle.rt_language.specs.Wide.{is_narrow, is_narrow_below}

-- the step to one of 256 nodes
small_step : (i : ℕ) → i ≤ 255 → step_of i ≡ i
small_step i low = rw (le-leb i 255 low) refl

-- the steps of each path are bytes
AllBytes : List (ℕ × List ℕ) → Type 0
AllBytes es = AllByRecursion (λ (e : ℕ × List ℕ). map step_of e.1 ≡ e.1) es

both_bytes : (xs ys : List (ℕ × List ℕ)) → AllBytes xs → AllBytes ys → AllBytes (xs ++ ys)
unfolding AllBytes
both_bytes [] ys first second = second
both_bytes (x ∷ xs) ys first second = (first.0, both_bytes xs ys first.1 second)

as_they_are : (es : List (ℕ × List ℕ)) → AllBytes es → in_bytes (paths_of es) ≡ paths_of es
unfolding AllBytes
as_they_are [] all = refl
as_they_are (e ∷ es) all = λ j. all.0 j ∷ as_they_are es all.1 j

first_of : List ℕ → ℕ
first_of [] = 0
first_of (x ∷ xs) = x

longer : (up : List ℕ) (i : ℕ) → map step_of up ≡ up → i ≤ 255 → map step_of (up ++ i ∷ []) ≡ up ++ i ∷ []
unfolding first_of
longer [] i bytes low = λ j. small_step i low j ∷ []
longer (u ∷ up) i bytes low =
    let first : step_of u ≡ u = ap (λ xs. first_of xs) bytes in
    let rest : map step_of up ≡ up = ap (λ xs. drop 1 xs) bytes in
    λ j. first j ∷ longer up i rest low j

own_bytes : (given : List TemplateAttribute) (path : List ℕ) → map step_of path ≡ path → AllBytes (slots_among given path)
unfolding AllBytes
own_bytes [] path bytes = tt
own_bytes (fixed name namespace value ∷ rest) path bytes = own_bytes rest path bytes
own_bytes (from_slot k ∷ rest) path bytes = (bytes, own_bytes rest path bytes)

node_bytes : (up : List ℕ) (i : ℕ) (nodes : TemplateNodes) → map step_of up ≡ up → i + row_length nodes ≤ 256
    → is_narrow_below nodes ≡ true
    → AllBytes (node_slots up i nodes)
unfolding AllBytes
node_bytes up i no_nodes bytes few below = tt
node_bytes up i (element_node tag namespace given children rest) bytes few below =
    let parts = and_parts (nat_le (row_length children) 256) (is_narrow_below children && is_narrow_below rest) below in
    let more = and_parts (is_narrow_below children) (is_narrow_below rest) parts.1 in
    let count : row_length children ≤ 256 = leb-true (row_length children) 256 parts.0 in
    both_bytes (node_slots (up ++ i ∷ []) 0 children) (node_slots up (i + 1) rest)
    (node_bytes (up ++ i ∷ []) 0 children (longer up i bytes (omega arith)) (omega (arith, count)) more.0)
    (node_bytes up (i + 1) rest bytes (omega arith) more.1)
node_bytes up i (text_node text rest) bytes few below = node_bytes up (i + 1) rest bytes (omega arith) below
node_bytes up i (slot_node k rest) bytes few below =
    (longer up i bytes (omega arith), node_bytes up (i + 1) rest bytes (omega arith) below)

attribute_bytes : (up : List ℕ) (i : ℕ) (nodes : TemplateNodes) → map step_of up ≡ up → i + row_length nodes ≤ 256
    → is_narrow_below nodes ≡ true
    → AllBytes (attribute_slots up i nodes)
unfolding AllBytes
attribute_bytes up i no_nodes bytes few below = tt
attribute_bytes up i (element_node tag namespace given children rest) bytes few below =
    let parts = and_parts (nat_le (row_length children) 256) (is_narrow_below children && is_narrow_below rest) below in
    let more = and_parts (is_narrow_below children) (is_narrow_below rest) parts.1 in
    let count : row_length children ≤ 256 = leb-true (row_length children) 256 parts.0 in
    let here : map step_of (up ++ i ∷ []) ≡ up ++ i ∷ [] = longer up i bytes (omega arith) in
    both_bytes (slots_among given (up ++ i ∷ [])) (attribute_slots (up ++ i ∷ []) 0 children ++ attribute_slots up (i + 1) rest)
    (own_bytes given (up ++ i ∷ []) here)
    (both_bytes (attribute_slots (up ++ i ∷ []) 0 children) (attribute_slots up (i + 1) rest)
    (attribute_bytes (up ++ i ∷ []) 0 children here (omega (arith, count)) more.0)
    (attribute_bytes up (i + 1) rest bytes (omega arith) more.1))
attribute_bytes up i (text_node text rest) bytes few below = attribute_bytes up (i + 1) rest bytes (omega arith) below
attribute_bytes up i (slot_node k rest) bytes few below = attribute_bytes up (i + 1) rest bytes (omega arith) below

pub narrow_have_their_paths : (view : View) → is_narrow (template_nodes 0 0 view) ≡ true
    → template_in_bytes (template_nodes 0 0 view) ≡ template_with (template_nodes 0 0 view)
narrow_have_their_paths view narrow =
    let roots : TemplateNodes = template_nodes 0 0 view in
    let parts = and_parts (nat_le (row_length roots) 256) (is_narrow_below roots) narrow in
    let count : row_length roots ≤ 256 = leb-true (row_length roots) 256 parts.0 in
    let nodes = as_they_are (node_slots [] 0 roots) (node_bytes [] 0 roots refl (omega (arith, count)) parts.1) in
    let attributes = as_they_are (attribute_slots [] 0 roots) (attribute_bytes [] 0 roots refl (omega (arith, count)) parts.1) in
    λ j. record { roots = roots; node_paths = nodes j; attribute_paths = attributes j }

-- a wide row

second_fails : (a b c d e f : Bool) → b ≡ false → a && b && c && d && e && f ≡ false
second_fails true true c d e f fails = absurd (cc fails)
second_fails true false c d e f fails = refl
second_fails false b c d e f fails = refl

one_fails : (a b c d e : Bool) → (b ≡ false) ⊎ ((d ≡ false) ⊎ (e ≡ false)) → a && b && c && d && e ≡ false
one_fails false b c d e fails = refl
one_fails true false c d e fails = refl
one_fails true true false d e fails = refl
one_fails true true true false e fails = refl
one_fails true true true true e (inl fails) = absurd (cc fails)
one_fails true true true true e (inr (inl fails)) = absurd (cc fails)
one_fails true true true true e (inr (inr fails)) = fails

-- a row of children is too long, or one below them, or one behind
element_fails : (l n o c r below behind : Bool) → n && (below && behind) ≡ false → (below ≡ false → c ≡ false) → (behind ≡ false → r ≡ false)
    → l && n && o && c && r ≡ false
element_fails l n o c r below behind wide kids others = one_fails l n o c r (which (and_cases n (below && behind) wide))
  where
    later : (below ≡ false) ⊎ (behind ≡ false) → (c ≡ false) ⊎ (r ≡ false)
    later (inl fails) = inl (kids fails)
    later (inr fails) = inr (others fails)

    which : (n ≡ false) ⊎ (below && behind ≡ false) → (n ≡ false) ⊎ ((c ≡ false) ⊎ (r ≡ false))
    which (inl fails) = inl fails
    which (inr fails) = inr (later (and_cases below behind fails))

end_fails : (a b c d e : Bool) → (a ≡ false) ⊎ (e ≡ false) → a && b && c && d && e ≡ false
end_fails false b c d e fails = refl
end_fails true b c d e (inl fails) = absurd (cc fails)
end_fails true true true true e (inr fails) = fails
end_fails true false c d e (inr fails) = refl
end_fails true true false d e (inr fails) = refl
end_fails true true true false e (inr fails) = refl

module _ {K : Types} where
  -- a row below these nodes is too long
  below_fails : (slots : List (List (Attribute K))) (slot : ℕ → ℕ → Bool) (level : ℕ) (nodes : TemplateNodes) → is_narrow_below nodes ≡ false
      → nodes_fit slots slot level nodes ≡ false
  below_fails slots slot level no_nodes wide = absurd (cc wide)
  below_fails slots slot level (element_node tag namespace given children rest) wide =
      element_fails (nat_le level 128) (nat_le (row_length children) 256) (all_once (element_names slots given))
      (nodes_fit slots slot (level + 1) children) (nodes_fit slots slot level rest) (is_narrow_below children) (is_narrow_below rest) wide
      (λ fails. below_fails slots slot (level + 1) children fails) (λ fails. below_fails slots slot level rest fails)
  below_fails slots slot level (text_node text rest) wide =
      and_right (nat_le level 128) (nodes_fit slots slot level rest) (below_fails slots slot level rest wide)
  below_fails slots slot level (slot_node k rest) wide =
      and_right (nat_le level 128 && slot k (level + 1)) (nodes_fit slots slot level rest) (below_fails slots slot level rest wide)

  -- a tree with such a template doesn't fit
  wide_fails : (roots : TemplateNodes) (given : List (List (Attribute K))) (slots : Slots K) (level : ℕ) → is_narrow roots ≡ false
      → fits_at (block (template_in_bytes roots) given slots) level ≡ false
  wide_fails roots given slots level wide =
      end_fails (template_fits (template_in_bytes roots)) (nat_eq (slot_count slots) (length (template_in_bytes roots).node_paths))
      (nat_eq (length given) (length (template_in_bytes roots).attribute_paths)) (all_plain given)
      (nodes_fit given (λ k below. slots_fit slots k below) level roots)
      (which (and_cases (nat_le (row_length roots) 256) (is_narrow_below roots) wide))
    where
      which : (nat_le (row_length roots) 256 ≡ false) ⊎ (is_narrow_below roots ≡ false)
          → (template_fits (template_in_bytes roots) ≡ false) ⊎ (nodes_fit given (λ k below. slots_fit slots k below) level roots ≡ false)
      which (inl fails) =
          inl (second_fails (nat_lt 0 (row_length roots)) (nat_le (row_length roots) 256) (counts_from 0 (node_slots [] 0 roots))
          (counts_from 0 (attribute_slots [] 0 roots))
          (same_list same_numbers (paths_of (node_slots [] 0 roots)) (template_in_bytes roots).node_paths)
          (same_list same_numbers (paths_of (attribute_slots [] 0 roots)) (template_in_bytes roots).attribute_paths) fails)
      which (inr fails) = inr (below_fails given (λ k below. slots_fit slots k below) level roots fails)

pub wide_never_fit : (view : View) (filling : Filling) (level : ℕ) → is_narrow (template_nodes 0 0 view) ≡ false
    → fits_at (tree_with view filling) level ≡ false
wide_never_fit NoViews filling level wide = absurd (cc wide)
wide_never_fit (TextView text rest) filling level wide =
    wide_fails (template_nodes 0 0 (TextView text rest)) filling.attributes (slots_from filling.slots) level wide
wide_never_fit (ElementView tag namespace given kids rest) filling level wide =
    wide_fails (template_nodes 0 0 (ElementView tag namespace given kids rest)) filling.attributes (slots_from filling.slots) level wide
wide_never_fit (SlotView slot rest) filling level wide =
    wide_fails (template_nodes 0 0 (SlotView slot rest)) filling.attributes (slots_from filling.slots) level wide
