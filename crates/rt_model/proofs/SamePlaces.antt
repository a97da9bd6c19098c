-- Templates and places that the tests find equal are equal, so a number that is found stands under its place.
use Rattle.std.proofs.Common.{ℕ, suc, ◌<◌, true, ◌&&◌, List, [], ◌∷◌, ◌≡◌, refl, sym, ap, ◌∙◌, subst, arith}
use Rattle.std.specs.Prelude.{Option, Some, None, Contains}
use Rattle.std.proofs.lemmas.Bool.{eqb-true}
use Rattle.rt_model.specs.Lists.{same_numbers, same_option, same_list}
use Rattle.rt_model.specs.Tree.{TemplateAttribute, fixed, from_slot, TemplateNodes, no_nodes, element_node, text_node, slot_node, Template, same_attribute, same_nodes, same_template, Step, inside, item, same_step, Place, same_place, Kind, an_element, a_static_text, a_text, a_placeholder, an_empty_fragment, same_kind}
use Rattle.rt_model.specs.Heard.{number_at}
use Rattle.rt_model.proofs.Maps.{pick_true, pick_false, by_test}
use Rattle.rt_model.proofs.Conjunctions.{and-left, and-right}

pub numbers-true : (p q : List ℕ) → same_numbers p q ≡ true → p ≡ q
numbers-true [] [] h = refl
numbers-true (x ∷ xs) (y ∷ ys) h =
    let first : x ≡ y = eqb-true x y (and-left _ (same_numbers xs ys) h) in
    let rest : xs ≡ ys = numbers-true xs ys (and-right _ (same_numbers xs ys) h) in
    λ t. first t ∷ rest t
numbers-true _ _ h = cc

pub option-true : (o p : Option (List ℕ)) → same_option same_numbers o p ≡ true → o ≡ p
option-true None None h = refl
option-true (Some a) (Some b) h = ap Some (numbers-true a b h)
option-true _ _ h = cc

pub attribute-true : (a b : TemplateAttribute) → same_attribute a b ≡ true → a ≡ b
attribute-true (fixed n a v) (fixed m b u) h =
    let front : same_numbers n m && same_option same_numbers a b ≡ true = and-left _ (same_numbers v u) h in
    let name : n ≡ m = numbers-true n m (and-left _ (same_option same_numbers a b) front) in
    let space : a ≡ b = option-true a b (and-right (same_numbers n m) _ front) in
    let value : v ≡ u = numbers-true v u (and-right _ (same_numbers v u) h) in
    λ t. fixed (name t) (space t) (value t)
attribute-true (from_slot k) (from_slot j) h = ap from_slot (eqb-true k j h)
attribute-true _ _ h = cc

pub attributes-true : (xs ys : List TemplateAttribute) → same_list same_attribute xs ys ≡ true → xs ≡ ys
attributes-true [] [] h = refl
attributes-true (x ∷ xs) (y ∷ ys) h =
    let first : x ≡ y = attribute-true x y (and-left _ (same_list same_attribute xs ys) h) in
    let rest : xs ≡ ys = attributes-true xs ys (and-right _ (same_list same_attribute xs ys) h) in
    λ t. first t ∷ rest t
attributes-true _ _ h = cc

pub paths-true : (xs ys : List (List ℕ)) → same_list same_numbers xs ys ≡ true → xs ≡ ys
paths-true [] [] h = refl
paths-true (x ∷ xs) (y ∷ ys) h =
    let first : x ≡ y = numbers-true x y (and-left _ (same_list same_numbers xs ys) h) in
    let rest : xs ≡ ys = paths-true xs ys (and-right _ (same_list same_numbers xs ys) h) in
    λ t. first t ∷ rest t
paths-true _ _ h = cc

pub nodes-true : (a b : TemplateNodes) → same_nodes a b ≡ true → a ≡ b
nodes-true no_nodes no_nodes h = refl
nodes-true (element_node t n a k r) (element_node u m b l q) h =
    let h4 : same_numbers t u && same_option same_numbers n m && same_list same_attribute a b && same_nodes k l ≡ true = and-left _ (same_nodes r q) h in
    let h3 : same_numbers t u && same_option same_numbers n m && same_list same_attribute a b ≡ true = and-left _ (same_nodes k l) h4 in
    let h2 : same_numbers t u && same_option same_numbers n m ≡ true = and-left _ (same_list same_attribute a b) h3 in
    let tag : t ≡ u = numbers-true t u (and-left _ (same_option same_numbers n m) h2) in
    let space : n ≡ m = option-true n m (and-right (same_numbers t u) _ h2) in
    let attributes : a ≡ b = attributes-true a b (and-right _ (same_list same_attribute a b) h3) in
    let kids : k ≡ l = nodes-true k l (and-right _ (same_nodes k l) h4) in
    let rest : r ≡ q = nodes-true r q (and-right _ (same_nodes r q) h) in
    λ i. element_node (tag i) (space i) (attributes i) (kids i) (rest i)
nodes-true (text_node t r) (text_node u q) h =
    let text : t ≡ u = numbers-true t u (and-left _ (same_nodes r q) h) in
    let rest : r ≡ q = nodes-true r q (and-right _ (same_nodes r q) h) in
    λ i. text_node (text i) (rest i)
nodes-true (slot_node k r) (slot_node j q) h =
    let slot : k ≡ j = eqb-true k j (and-left _ (same_nodes r q) h) in
    let rest : r ≡ q = nodes-true r q (and-right _ (same_nodes r q) h) in
    λ i. slot_node (slot i) (rest i)
nodes-true _ _ h = cc

pub template-true : (t u : Template) → same_template t u ≡ true → t ≡ u
template-true t u h =
    let front : same_nodes t.roots u.roots && same_list same_numbers t.node_paths u.node_paths ≡ true = and-left _ (same_list same_numbers t.attribute_paths u.attribute_paths) h in
    let roots : t.roots ≡ u.roots = nodes-true t.roots u.roots (and-left _ (same_list same_numbers t.node_paths u.node_paths) front) in
    let nodes : t.node_paths ≡ u.node_paths = paths-true t.node_paths u.node_paths (and-right (same_nodes t.roots u.roots) _ front) in
    let attributes : t.attribute_paths ≡ u.attribute_paths = paths-true t.attribute_paths u.attribute_paths (and-right _ (same_list same_numbers t.attribute_paths u.attribute_paths) h) in
    λ i. record { roots = roots i; node_paths = nodes i; attribute_paths = attributes i }

pub step-true : (a b : Step) → same_step a b ≡ true → a ≡ b
step-true (inside t p) (inside u q) h =
    let template : t ≡ u = template-true t u (and-right (same_numbers p q) _ h) in
    let path : p ≡ q = numbers-true p q (and-left _ (same_template t u) h) in
    λ i. inside (template i) (path i)
step-true (item n) (item m) h = ap item (eqb-true n m h)
step-true _ _ h = cc

-- places that the test finds equal are equal
pub same_place-true : (p q : Place) → same_place p q ≡ true → p ≡ q
same_place-true [] [] h = refl
same_place-true (a ∷ p) (b ∷ q) h =
    let first : a ≡ b = step-true a b (and-left _ (same_place p q) h) in
    let rest : p ≡ q = same_place-true p q (and-right _ (same_place p q) h) in
    λ t. first t ∷ rest t
same_place-true _ _ h = cc

-- kinds that the test finds equal are equal
pub same_kind-true : (k l : Kind) → same_kind k l ≡ true → k ≡ l
same_kind-true an_element an_element h = refl
same_kind-true a_static_text a_static_text h = refl
same_kind-true a_text a_text h = refl
same_kind-true a_placeholder a_placeholder h = refl
same_kind-true an_empty_fragment an_empty_fragment h = refl
same_kind-true _ _ h = cc

-- an item stands in a list that it heads
pub contains_here : {A : Type 0} (x : A) (xs : List A) → Contains (x ∷ xs) x
contains_here x xs = (0, omega arith, refl)

-- an item of the rest of a list stands in it
pub contains_later : {A : Type 0} (y : A) (xs : List A) (x : A) → Contains xs x → Contains (y ∷ xs) x
contains_later y xs x h = let low : h.0 < _ = h.1 in (suc h.0, omega arith, h.2)

-- a number that is found stands under its place and kind
pub number_stands : (numbers : List (Place × Kind × ℕ)) (p : Place) (k : Kind) (n : ℕ) → 0 < n → number_at numbers p k ≡ n → Contains numbers (p, k, n)
number_stands [] p k n low h = absurd (let none : 0 ≡ n = h in omega arith)
number_stands (e ∷ es) p k n low h =
    by_test (same_kind e.1 k && same_place e.0 p)
    (
    λ q.
    let kind : e.1 ≡ k = same_kind-true e.1 k (and-left _ (same_place e.0 p) q) in
    let place : e.0 ≡ p = same_place-true e.0 p (and-right (same_kind e.1 k) _ q) in
    let number : e.2 ≡ n = sym (pick_true e.2 (number_at es p k) q) ∙ h in
    let same : e ≡ (p, k, n) = λ t. (place t, kind t, number t) in
    subst (λ (x : Place × Kind × ℕ). Contains (e ∷ es) x) same (contains_here e es)
    )
    (λ q. contains_later e es (p, k, n) (number_stands es p k n low (sym (pick_false e.2 (number_at es p k) q) ∙ h)))
