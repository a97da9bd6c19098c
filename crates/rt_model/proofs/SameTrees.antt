-- The tests of equal trees and elements decide equality, where the application's own tests do.
use Rattle.std.proofs.Common.{ℕ, Bool, true, ◌&&◌, List, [], ◌∷◌, ◌≡◌, refl, ap, nat_eq}
use Rattle.std.specs.Prelude.{Option, Some, None}
use Rattle.std.proofs.lemmas.Bool.{eqb-true}
pub use Rattle.rt_lemmas.proofs.Bools.{both_true as both}
use Rattle.rt_model.specs.Lists.{same_numbers, same_option, same_list}
use Rattle.rt_model.specs.Tree.{Types, same_template, CapturedError, AttributeValue, text_value, no_value, listener, Attribute, Tree, block, Slots, no_slots, more_slots, Slot, text_slot, placeholder_slot, component_slot, fragment_slot, Trees, no_trees, more_trees, VComponent, Own, Root, Fragment, ErrorBoundary, SuspenseBoundary, Element, rendered, failed, suspended}
use Rattle.rt_model.specs.World.{Source, Cell, Error, Context, same_source, Application}
use Rattle.rt_model.specs.Laws.{Tests}
use Rattle.rt_model.specs.Values.{same_error, same_attribute_value, same_given, same_call, same_tree, same_slots, same_slot, same_trees, same_by_value, same_element}
use Rattle.rt_model.proofs.Maps.{eq_same}
use Rattle.rt_model.proofs.Conjunctions.{and-left, and-right}
use Rattle.rt_model.proofs.Among.{numbers_same, template_same}
use Rattle.rt_model.proofs.SamePlaces.{numbers-true, template-true}

module _ {A : Type 0} (same : A → A → Bool) where
  -- options that the test finds equal are equal, where it is right of values
  pub option-true : ((a b : A) → same a b ≡ true → a ≡ b) → (o p : Option A) → same_option same o p ≡ true → o ≡ p
  option-true test None None h = refl
  option-true test (Some a) (Some b) h = ap Some (test a b h)
  option-true test _ _ h = cc

  option-same : ((a : A) → same a a ≡ true) → (o : Option A) → same_option same o o ≡ true
  option-same test None = refl
  option-same test (Some a) = test a

  -- and so are lists
  pub list-true : ((a b : A) → same a b ≡ true → a ≡ b) → (xs ys : List A) → same_list same xs ys ≡ true → xs ≡ ys
  list-true test [] [] h = refl
  list-true test (x ∷ xs) (y ∷ ys) h =
      let first : x ≡ y = test x y (and-left _ (same_list same xs ys) h) in
      let rest : xs ≡ ys = list-true test xs ys (and-right (same x y) _ h) in
      λ t. first t ∷ rest t
  list-true test _ _ h = cc

  list-same : ((a : A) → same a a ≡ true) → (xs : List A) → same_list same xs xs ≡ true
  list-same test [] = refl
  list-same test (x ∷ xs) = both (test x) (list-same test xs)

  -- a test of values decides options of them
  pub option_tests : Tests A same → Tests (Option A) (λ o p. same_option same o p)
  option_tests test = (option-true test.0, option-same test.1)

  -- a test of values decides lists of them
  pub list_tests : Tests A same → Tests (List A) (λ xs ys. same_list same xs ys)
  list_tests test = (list-true test.0, list-same test.1)

-- equal texts and paths are those that the test finds equal
pub numbers : Tests (List ℕ) same_numbers
numbers = (numbers-true, numbers_same)

error-true : (a b : CapturedError) → same_error a b ≡ true → a ≡ b
error-true a b h =
    let serial : a.serial ≡ b.serial = eqb-true a.serial b.serial (and-left _ (same_numbers a.text b.text) h) in
    let text : a.text ≡ b.text = numbers-true a.text b.text (and-right (nat_eq a.serial b.serial) _ h) in
    λ t. record { serial = serial t; text = text t }

error-same : (a : CapturedError) → same_error a a ≡ true
error-same a = both (eq_same a.serial) (numbers_same a.text)

pub source-true : (a b : Source) → same_source a b ≡ true → a ≡ b
source-true (Cell a) (Cell b) h = ap Cell (eqb-true a b h)
source-true (Error a) (Error b) h = ap Error (eqb-true a b h)
source-true (Context k a) (Context j b) h =
    let kind : k ≡ j = eqb-true k j (and-left _ (nat_eq a b) h) in
    let scope : a ≡ b = eqb-true a b (and-right (nat_eq k j) _ h) in
    λ t. Context (kind t) (scope t)
source-true _ _ h = cc

pub source-same : (a : Source) → same_source a a ≡ true
source-same (Cell a) = eq_same a
source-same (Error a) = eq_same a
source-same (Context k a) = both (eq_same k) (eq_same a)

-- sources are equal where the test says so
pub source_tests : Tests Source same_source
source_tests = (source-true, source-same)

module _ {K : Types} (app : Application K) (components : Tests K.Component app.same_component) (props : Tests K.Props app.same_props) (handlers : Tests K.Handler app.same_handler) where
  value-true : (v u : AttributeValue K) → same_attribute_value app v u ≡ true → v ≡ u
  value-true (text_value t) (text_value u) h = ap text_value (numbers-true t u h)
  value-true no_value no_value h = refl
  value-true (listener s f) (listener t g) h =
      let origin : s ≡ t = eqb-true s t (and-left _ (app.same_handler f g) h) in
      let handler : f ≡ g = handlers.0 f g (and-right (nat_eq s t) _ h) in
      λ i. listener (origin i) (handler i)
  value-true _ _ h = cc

  value-same : (v : AttributeValue K) → same_attribute_value app v v ≡ true
  value-same (text_value t) = numbers_same t
  value-same no_value = refl
  value-same (listener s f) = both (eq_same s) (handlers.1 f)

  given-true : (a b : Attribute K) → same_given app a b ≡ true → a ≡ b
  given-true a b h =
      let front : same_numbers a.name b.name && same_option same_numbers a.namespace b.namespace ≡ true = and-left _ (same_attribute_value app a.value b.value) h in
      let name : a.name ≡ b.name = numbers-true a.name b.name (and-left _ (same_option same_numbers a.namespace b.namespace) front) in
      let space : a.namespace ≡ b.namespace = option-true same_numbers numbers-true a.namespace b.namespace (and-right (same_numbers a.name b.name) _ front) in
      let value : a.value ≡ b.value = value-true a.value b.value (and-right _ (same_attribute_value app a.value b.value) h) in
      λ t. record { name = name t; namespace = space t; value = value t }

  given-same : (a : Attribute K) → same_given app a a ≡ true
  given-same a = both (both (numbers_same a.name) (option-same same_numbers numbers_same a.namespace)) (value-same a.value)

  attributes : Tests (List (List (Attribute K))) (λ a b. same_list (λ xs ys. same_list (λ x y. same_given app x y) xs ys) a b)
  attributes = list_tests (λ xs ys. same_list (λ x y. same_given app x y) xs ys) (list_tests (λ x y. same_given app x y) (given-true, given-same))

  call-true : (a b : K.Component × K.Props) → same_call app a b ≡ true → a ≡ b
  call-true a b h =
      let component : a.0 ≡ b.0 = components.0 a.0 b.0 (and-left _ (app.same_props a.1 b.1) h) in
      let given : a.1 ≡ b.1 = props.0 a.1 b.1 (and-right (app.same_component a.0 b.0) _ h) in
      λ t. (component t, given t)

  call-same : (a : K.Component × K.Props) → same_call app a a ≡ true
  call-same a = both (components.1 a.0) (props.1 a.1)

  calls : Tests (Option (K.Component × K.Props)) (λ o p. same_option (λ x y. same_call app x y) o p)
  calls = option_tests (λ x y. same_call app x y) (call-true, call-same)

  mutual
    tree-true : (a b : Tree K) → same_tree app a b ≡ true → a ≡ b
    tree-true (block t a ss) (block u b us) h =
        let front : same_template t u && same_list (same_list (λ x y. same_given app x y)) a b ≡ true = and-left _ (same_slots app ss us) h in
        let template : t ≡ u = template-true t u (and-left _ (same_list (same_list (λ x y. same_given app x y)) a b) front) in
        let given : a ≡ b = attributes.0 a b (and-right (same_template t u) _ front) in
        let slots : ss ≡ us = slots-true ss us (and-right _ (same_slots app ss us) h) in
        λ i. block (template i) (given i) (slots i)

    slots-true : (a b : Slots K) → same_slots app a b ≡ true → a ≡ b
    slots-true no_slots no_slots h = refl
    slots-true (more_slots v ss) (more_slots u us) h =
        let first : v ≡ u = slot-true v u (and-left _ (same_slots app ss us) h) in
        let rest : ss ≡ us = slots-true ss us (and-right (same_slot app v u) _ h) in
        λ i. more_slots (first i) (rest i)
    slots-true _ _ h = cc

    slot-true : (a b : Slot K) → same_slot app a b ≡ true → a ≡ b
    slot-true (text_slot t) (text_slot u) h = ap text_slot (numbers-true t u h)
    slot-true placeholder_slot placeholder_slot h = refl
    slot-true (component_slot c) (component_slot d) h = ap component_slot (component-true c d h)
    slot-true (fragment_slot ts) (fragment_slot us) h = ap fragment_slot (trees-true ts us h)
    slot-true _ _ h = cc

    trees-true : (a b : Trees K) → same_trees app a b ≡ true → a ≡ b
    trees-true no_trees no_trees h = refl
    trees-true (more_trees t ts) (more_trees u us) h =
        let first : t ≡ u = tree-true t u (and-left _ (same_trees app ts us) h) in
        let rest : ts ≡ us = trees-true ts us (and-right (same_tree app t u) _ h) in
        λ i. more_trees (first i) (rest i)
    trees-true _ _ h = cc

    component-true : (a b : VComponent K) → same_by_value app a b ≡ true → a ≡ b
    component-true (Own a p) (Own b q) h = ap (λ (c : K.Component × K.Props). Own c.0 c.1) (call-true (a, p) (b, q) h)
    component-true (Root a p) (Root b q) h = ap (λ (c : K.Component × K.Props). Root c.0 c.1) (call-true (a, p) (b, q) h)
    component-true (Fragment t) (Fragment u) h = ap Fragment (element-true t u h)
    component-true (ErrorBoundary t f) (ErrorBoundary u g) h =
        let children : t ≡ u = element-true t u (and-left _ (same_option (λ x y. same_call app x y) f g) h) in
        let handler : f ≡ g = calls.0 f g (and-right (same_element app t u) _ h) in
        λ i. ErrorBoundary (children i) (handler i)
    component-true (SuspenseBoundary t f) (SuspenseBoundary u g) h =
        let children : t ≡ u = element-true t u (and-left _ (same_option (λ x y. same_call app x y) f g) h) in
        let fallback : f ≡ g = calls.0 f g (and-right (same_element app t u) _ h) in
        λ i. SuspenseBoundary (children i) (fallback i)
    component-true _ _ h = cc

    element-true : (a b : Element K) → same_element app a b ≡ true → a ≡ b
    element-true (rendered t) (rendered u) h = ap rendered (tree-true t u h)
    element-true (failed e) (failed f) h = ap failed (error-true e f h)
    element-true (suspended s t) (suspended r u) h =
        let origin : s ≡ r = eqb-true s r (and-left _ (nat_eq t u) h) in
        let task : t ≡ u = eqb-true t u (and-right (nat_eq s r) _ h) in
        λ i. suspended (origin i) (task i)
    element-true _ _ h = cc

  mutual
    tree-same : (a : Tree K) → same_tree app a a ≡ true
    tree-same (block t a ss) = both (both (template_same t) (attributes.1 a)) (slots-same ss)

    slots-same : (a : Slots K) → same_slots app a a ≡ true
    slots-same no_slots = refl
    slots-same (more_slots v ss) = both (slot-same v) (slots-same ss)

    slot-same : (a : Slot K) → same_slot app a a ≡ true
    slot-same (text_slot t) = numbers_same t
    slot-same placeholder_slot = refl
    slot-same (component_slot c) = component-same c
    slot-same (fragment_slot ts) = trees-same ts

    trees-same : (a : Trees K) → same_trees app a a ≡ true
    trees-same no_trees = refl
    trees-same (more_trees t ts) = both (tree-same t) (trees-same ts)

    component-same : (a : VComponent K) → same_by_value app a a ≡ true
    component-same (Own a p) = call-same (a, p)
    component-same (Root a p) = call-same (a, p)
    component-same (Fragment t) = element-same t
    component-same (ErrorBoundary t f) = both (element-same t) (calls.1 f)
    component-same (SuspenseBoundary t f) = both (element-same t) (calls.1 f)

    element-same : (a : Element K) → same_element app a a ≡ true
    element-same (rendered t) = tree-same t
    element-same (failed e) = error-same e
    element-same (suspended s t) = both (eq_same s) (eq_same t)

  -- trees are equal where the test says so
  pub tree_tests : Tests (Tree K) (λ a b. same_tree app a b)
  tree_tests = (tree-true, tree-same)

  -- elements are equal where the test says so
  pub element_tests : Tests (Element K) (λ a b. same_element app a b)
  element_tests = (element-true, element-same)
