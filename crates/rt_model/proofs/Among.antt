-- What is among the items of a list, and that the tests of places and kinds are true of a thing and itself.
use Rattle.std.proofs.Common.{ℕ, Bool, true, false, ◌&&◌, ◌||◌, List, [], ◌∷◌, ◌++◌, ◌≡◌, ◌⊎◌, refl, sym, ap, ◌∙◌, inl, inr, Contains}
use Rattle.std.specs.Prelude.{Option, Some, None}
use Rattle.std.specs.List.{AllByRecursion}
use Rattle.std.proofs.lemmas.List.Elements.{All-from_recursion, All-contains}
use Rattle.rt_lemmas.proofs.Bools.{and_both as both}
use Rattle.rt_model.specs.Lists.{same_numbers, same_option, same_list}
use Rattle.rt_model.specs.Tree.{TemplateAttribute, fixed, from_slot, TemplateNodes, no_nodes, element_node, text_node, slot_node, Template, same_attribute, same_nodes, same_template, Step, inside, item, Place, same_step, same_place, Kind, an_element, a_static_text, a_text, a_placeholder, an_empty_fragment, same_kind}
use Rattle.rt_model.proofs.Maps.{eq_same}

-- one of two tests holds
pub or_else_true : (a b : Bool) → a || b ≡ true → (a ≡ true) ⊎ (b ≡ true)
or_else_true true b h = inl refl
or_else_true false b h = inr h

module _ {A : Type 0} where
  -- an item of a list
  abbrev pub Among : List A → A → Type 0
  Among [] x = ⊥
  Among (y ∷ ys) x = (y ≡ x) ⊎ Among ys x

  -- what is among the first of two lists is among both
  pub among_left : (xs ys : List A) (x : A) → Among xs x → Among (xs ++ ys) x
  among_left [] ys x h = absurd h
  among_left (z ∷ xs) ys x (inl h) = inl h
  among_left (z ∷ xs) ys x (inr h) = inr (among_left xs ys x h)

  -- and what is among the second
  pub among_right : (xs ys : List A) (x : A) → Among ys x → Among (xs ++ ys) x
  among_right [] ys x h = h
  among_right (z ∷ xs) ys x h = inr (among_right xs ys x h)

  -- what is among a list with one more item is among the list or that item
  pub among_push : (xs : List A) (y x : A) → Among (xs ++ y ∷ []) x → Among xs x ⊎ (x ≡ y)
  among_push [] y x (inl h) = inr (sym h)
  among_push [] y x (inr h) = absurd h
  among_push (z ∷ xs) y x (inl h) = inl (inl h)
  among_push (z ∷ xs) y x (inr h) = elim (among_push xs y x h) [ inl g ↦ inl (inr g) | inr g ↦ inr g ]

  every : (xs zs : List A) → ((x : A) → Among xs x → Among zs x) → AllByRecursion (λ (x : A). Among zs x) xs
  every [] zs h = tt
  every (x ∷ xs) zs h = (h x (inl refl), every xs zs (λ y g. h y (inr g)))

  -- an element of a list is among its items
  pub among_contained : (xs : List A) (x : A) → Contains xs x → Among xs x
  among_contained xs x h = All-contains (λ (y : A). Among xs y) xs x (All-from_recursion (λ (y : A). Among xs y) xs (every xs xs (λ y g. g))) h

  -- a test that is true of a thing and itself
  abbrev pub Reflects : (A → A → Bool) → Type 0
  Reflects same = (a : A) → same a a ≡ true

  list_same : (same : A → A → Bool) → Reflects same → (xs : List A) → same_list same xs xs ≡ true
  list_same same f [] = refl
  list_same same f (x ∷ xs) = ap (λ (b : Bool). b && same_list same xs xs) (f x) ∙ list_same same f xs

  option_same : (same : A → A → Bool) → Reflects same → (o : Option A) → same_option same o o ≡ true
  option_same same f None = refl
  option_same same f (Some a) = f a

pub numbers_same : (a : List ℕ) → same_numbers a a ≡ true
numbers_same [] = refl
numbers_same (x ∷ xs) = both _ (same_numbers xs xs) (eq_same x) (numbers_same xs)

pub attribute_same : (a : TemplateAttribute) → same_attribute a a ≡ true
attribute_same (fixed n a v) = both _ (same_numbers v v) (both _ (same_option same_numbers a a) (numbers_same n) (option_same same_numbers numbers_same a)) (numbers_same v)
attribute_same (from_slot k) = eq_same k

pub nodes_same : (a : TemplateNodes) → same_nodes a a ≡ true
nodes_same no_nodes = refl
nodes_same (element_node t n a k r) =
    both _ (same_nodes r r) (both _ (same_nodes k k) (both _ (same_list same_attribute a a) (both _ (same_option same_numbers n n) (numbers_same t) (option_same same_numbers numbers_same n)) (list_same same_attribute attribute_same a)) (nodes_same k)) (nodes_same r)
nodes_same (text_node t r) = both _ (same_nodes r r) (numbers_same t) (nodes_same r)
nodes_same (slot_node k r) = both _ (same_nodes r r) (eq_same k) (nodes_same r)

pub template_same : (t : Template) → same_template t t ≡ true
template_same t =
    both _ (same_list same_numbers t.attribute_paths t.attribute_paths)
    (both _ (same_list same_numbers t.node_paths t.node_paths) (nodes_same t.roots) (list_same same_numbers numbers_same t.node_paths))
    (list_same same_numbers numbers_same t.attribute_paths)

pub step_same : (a : Step) → same_step a a ≡ true
step_same (inside t p) = both _ (same_template t t) (numbers_same p) (template_same t)
step_same (item i) = eq_same i

-- the test finds a place equal to itself
pub place_same : (p : Place) → same_place p p ≡ true
place_same [] = refl
place_same (a ∷ p) = both _ (same_place p p) (step_same a) (place_same p)

-- the test finds a kind equal to itself
pub kind_same : (k : Kind) → same_kind k k ≡ true
kind_same an_element = refl
kind_same a_static_text = refl
kind_same a_text = refl
kind_same a_placeholder = refl
kind_same an_empty_fragment = refl
