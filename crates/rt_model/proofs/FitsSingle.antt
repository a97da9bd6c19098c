-- A tree that meets the node test has no name twice in an attribute slot.
use Rattle.std.proofs.Common.{ℕ, zero, suc, ◌+◌, ◌≤◌, ◌<◌, Bool, true, false, ◌&&◌, ◌||◌, not, List, [], ◌∷◌, ◌++◌, length, ◌≡◌, refl, sym, ap, subst, ◌∙◌, nat_eq, arith}
use Rattle.std.specs.Prelude.{Option, Some, None, nat_lt}
use Rattle.std.proofs.lemmas.Bool.{eqb-true, ltb-true, ltb-false}
use Rattle.rt_lemmas.proofs.Bools.{both_true}
use Rattle.rt_model.specs.Lists.{Text, same_numbers, same_list}
use Rattle.rt_model.specs.Tree.{Types, TemplateAttribute, fixed, from_slot, TemplateNodes, no_nodes, element_node, text_node, slot_node, Template, Attribute, Tree, block, Slots, no_slots, more_slots, Slot, text_slot, placeholder_slot, component_slot, fragment_slot, Trees, no_trees, more_trees, attributes_in, slots_among, attribute_slots, node_slots, paths_of}
use Rattle.rt_model.specs.World.{Application}
use Rattle.rt_model.specs.Fits.{counts_from, slot_count, same_name, is_named, all_once, template_fits, given_names, element_names, all_plain, nodes_fit, fits_at, slots_fit, slot_fits, items_fit}
use Rattle.rt_model.specs.Caused.{is_key}
use Rattle.rt_model.specs.State.{State, side_of}
use Rattle.rt_model.specs.Unchanged.{is_keyed, once_each, Single, SingleSlots, SingleSlot, SingleTrees, SingleOutput, AllSingle, RestCausesNothing}
use Rattle.rt_model.proofs.Maps.{by_test}
use Rattle.rt_model.proofs.Conjunctions.{and-left, and-right}
use Rattle.rt_model.proofs.SamePlaces.{paths-true}
use Rattle.rt_model.proofs.WellNumbered.{FitsBelow, WellNumbered}
use Rattle.rt_model.proofs.NumbersStand.{replay_well_numbered}
use Rattle.rt_model.proofs.Quiet.{same_causes_nothing}

-- it holds of the number of each slot in a list
abbrev OfEach : (ℕ → Type 0) → List (ℕ × List ℕ) → Type 0
OfEach P [] = Unit {0}
OfEach P (e ∷ es) = P e.0 × OfEach P es

each_both : (P : ℕ → Type 0) (xs ys : List (ℕ × List ℕ)) → OfEach P xs → OfEach P ys → OfEach P (xs ++ ys)
each_both P [] ys h g = g
each_both P (x ∷ xs) ys h g = (h.0, each_both P xs ys h.1 g)

-- numbers that count up from one on are all met
counted : (P : ℕ → Type 0) (n : ℕ) (es : List (ℕ × List ℕ)) → counts_from n es ≡ true → OfEach P es → (k : ℕ) → k < length es → P (n + k)
counted P n [] c h k l = absurd (omega arith)
counted P n (e ∷ es) c h zero l =
    let first : e.0 ≡ n = eqb-true e.0 n (and-left (nat_eq e.0 n) (counts_from (n + 1) es) c) in
    let same : e.0 ≡ n + 0 = omega arith in
    subst P same h.0
counted P n (e ∷ es) c h (suc k) l =
    let below : k < length es = omega arith in
    let same : n + 1 + k ≡ n + suc k = omega arith in
    subst P same (counted P (n + 1) es (and-right (nat_eq e.0 n) (counts_from (n + 1) es) c) h.1 k below)

all_counted : (P : ℕ → Type 0) (es : List (ℕ × List ℕ)) → counts_from 0 es ≡ true → OfEach P es → (k : ℕ) → k < length es → P k
all_counted P es c h k l = let same : 0 + k ≡ k = omega arith in subst P same (counted P 0 es c h k l)

-- a slot passes a test at some level
record Passes (test : ℕ → ℕ → Bool) (k : ℕ) : Type 0 where
  level : ℕ
  passed : test k level ≡ true

paths_length : (es : List (ℕ × List ℕ)) → length (paths_of es) ≡ length es
paths_length [] = refl
paths_length (e ∷ es) = ap suc (paths_length es)

one_more : (k n : ℕ) → k < n → suc k < n + 1
one_more k n l = omega arith

not_or : (b c d : Bool) → (not c ≡ true → not d ≡ true) → not (b || c) ≡ true → not (b || d) ≡ true
not_or true c d f h = h
not_or false c d f h = f h

named_front : (a : Text × Option Text) (xs ys : List (Text × Option Text)) → not (is_named a (xs ++ ys)) ≡ true → not (is_named a xs) ≡ true
named_front a [] ys h = refl
named_front a (x ∷ xs) ys h = not_or (same_name a x) (is_named a (xs ++ ys)) (is_named a xs) (λ g. named_front a xs ys g) h

once_front : (xs ys : List (Text × Option Text)) → all_once (xs ++ ys) ≡ true → all_once xs ≡ true
once_front [] ys h = refl
once_front (x ∷ xs) ys h =
    both_true
    (named_front x xs ys (and-left (not (is_named x (xs ++ ys))) (all_once (xs ++ ys)) h))
    (once_front xs ys (and-right (not (is_named x (xs ++ ys))) (all_once (xs ++ ys)) h))

once_back : (xs ys : List (Text × Option Text)) → all_once (xs ++ ys) ≡ true → all_once ys ≡ true
once_back [] ys h = h
once_back (x ∷ xs) ys h = once_back xs ys (and-right (not (is_named x (xs ++ ys))) (all_once (xs ++ ys)) h)

module _ {K : Types} where
  keyed_named : (a : Attribute K) (es : List (Attribute K)) → is_keyed a es ≡ is_named (a.name, a.namespace) (given_names es)
  keyed_named a [] = refl
  keyed_named a (b ∷ es) = ap (λ (x : Bool). is_key a b || x) (keyed_named a es)

  once_names : (es : List (Attribute K)) → all_once (given_names es) ≡ true → once_each es ≡ true
  once_names [] h = refl
  once_names (a ∷ es) h =
      both_true
      (ap not (keyed_named a es) ∙ and-left (not (is_named (a.name, a.namespace) (given_names es))) (all_once (given_names es)) h)
      (once_names es (and-right (not (is_named (a.name, a.namespace) (given_names es))) (all_once (given_names es)) h))

  -- a slot has no name twice
  abbrev OnceIn : List (List (Attribute K)) → ℕ → Type 0
  OnceIn given k = once_each (attributes_in given k) ≡ true

  element_once : (given : List (List (Attribute K))) (path : List ℕ) (attributes : List TemplateAttribute) → all_once (element_names given attributes) ≡ true → OfEach (OnceIn given) (slots_among attributes path)
  element_once given path [] h = tt
  element_once given path (fixed name namespace value ∷ rest) h =
      element_once given path rest (and-right (not (is_named (name, namespace) (element_names given rest))) (all_once (element_names given rest)) h)
  element_once given path (from_slot k ∷ rest) h = (
    once_names (attributes_in given k) (once_front (given_names (attributes_in given k)) (element_names given rest) h),
    element_once given path rest (once_back (given_names (attributes_in given k)) (element_names given rest) h),
  )

  module _ (given : List (List (Attribute K))) (test : ℕ → ℕ → Bool) where
    nodes_once : (up : List ℕ) (i level : ℕ) (nodes : TemplateNodes) → nodes_fit given test level nodes ≡ true → OfEach (OnceIn given) (attribute_slots up i nodes)
    nodes_once up i level no_nodes h = tt
    nodes_once up i level (element_node tag namespace attributes children rest) h =
        let front = and-left _ (nodes_fit given test level rest) h in
        let own : all_once (element_names given attributes) ≡ true = and-right _ (all_once (element_names given attributes)) (and-left _ (nodes_fit given test (level + 1) children) front) in
        each_both (OnceIn given) (slots_among attributes (up ++ i ∷ [])) (attribute_slots (up ++ i ∷ []) 0 children ++ attribute_slots up (i + 1) rest)
        (element_once given (up ++ i ∷ []) attributes own)
        (each_both (OnceIn given) (attribute_slots (up ++ i ∷ []) 0 children) (attribute_slots up (i + 1) rest)
        (nodes_once (up ++ i ∷ []) 0 (level + 1) children (and-right _ (nodes_fit given test (level + 1) children) front))
        (nodes_once up (i + 1) level rest (and-right _ (nodes_fit given test level rest) h)))
    nodes_once up i level (text_node text rest) h = nodes_once up (i + 1) level rest (and-right _ (nodes_fit given test level rest) h)
    nodes_once up i level (slot_node k rest) h = nodes_once up (i + 1) level rest (and-right _ (nodes_fit given test level rest) h)

    nodes_pass : (up : List ℕ) (i level : ℕ) (nodes : TemplateNodes) → nodes_fit given test level nodes ≡ true → OfEach (Passes test) (node_slots up i nodes)
    nodes_pass up i level no_nodes h = tt
    nodes_pass up i level (element_node tag namespace attributes children rest) h =
        each_both (Passes test) (node_slots (up ++ i ∷ []) 0 children) (node_slots up (i + 1) rest)
        (nodes_pass (up ++ i ∷ []) 0 (level + 1) children (and-right _ (nodes_fit given test (level + 1) children) (and-left _ (nodes_fit given test level rest) h)))
        (nodes_pass up (i + 1) level rest (and-right _ (nodes_fit given test level rest) h))
    nodes_pass up i level (text_node text rest) h = nodes_pass up (i + 1) level rest (and-right _ (nodes_fit given test level rest) h)
    nodes_pass up i level (slot_node k rest) h = (
      record { level = level + 1; passed = and-right _ (test k (level + 1)) (and-left _ (nodes_fit given test level rest) h) },
      nodes_pass up (i + 1) level rest (and-right _ (nodes_fit given test level rest) h),
    )

  beyond : (given : List (List (Attribute K))) (k : ℕ) → length given ≤ k → attributes_in given k ≡ []
  beyond [] k l = refl
  beyond (a ∷ given) zero l = absurd (omega arith)
  beyond (a ∷ given) (suc k) l = let below : length given ≤ k = omega arith in beyond given k below

  -- what the node test says of a template and its slots
  record Tested (template : Template) (given : List (List (Attribute K))) (slots : Slots K) : Type 0 where
    attributes_count : counts_from 0 (attribute_slots [] 0 template.roots) ≡ true
    nodes_count : counts_from 0 (node_slots [] 0 template.roots) ≡ true
    attributes_met : length given ≡ length (attribute_slots [] 0 template.roots)
    nodes_met : slot_count slots ≡ length (node_slots [] 0 template.roots)

  tested : (template : Template) (given : List (List (Attribute K))) (slots : Slots K) → template_fits template && nat_eq (slot_count slots) (length template.node_paths) && nat_eq (length given) (length template.attribute_paths) ≡ true → Tested template given slots
  tested template given slots h =
      let attributes : List (ℕ × List ℕ) = attribute_slots [] 0 template.roots in
      let nodes : List (ℕ × List ℕ) = node_slots [] 0 template.roots in
      let paths : Bool = same_list same_numbers (paths_of attributes) template.attribute_paths in
      let places : Bool = same_list same_numbers (paths_of nodes) template.node_paths in
      let front = and-left (template_fits template && nat_eq (slot_count slots) (length template.node_paths)) (nat_eq (length given) (length template.attribute_paths)) h in
      let whole = and-left (template_fits template) (nat_eq (slot_count slots) (length template.node_paths)) front in
      let all_but_paths = and-left _ paths whole in
      let counts = and-left _ places all_but_paths in
      record {
        attributes_count = and-right _ (counts_from 0 attributes) counts;
        nodes_count = and-right _ (counts_from 0 nodes) (and-left _ (counts_from 0 attributes) counts);
        attributes_met =
            eqb-true (length given) (length template.attribute_paths)
            (and-right (template_fits template && nat_eq (slot_count slots) (length template.node_paths)) (nat_eq (length given) (length template.attribute_paths)) h)
            ∙ ap (λ (l : List (List ℕ)). length l) (sym (paths-true (paths_of attributes) template.attribute_paths (and-right _ paths whole)))
            ∙ paths_length attributes;
        nodes_met =
            eqb-true (slot_count slots) (length template.node_paths) (and-right (template_fits template) (nat_eq (slot_count slots) (length template.node_paths)) front)
            ∙ ap (λ (l : List (List ℕ)). length l) (sym (paths-true (paths_of nodes) template.node_paths (and-right _ places all_but_paths)))
            ∙ paths_length nodes;
      }

  -- a slot that is met has no name twice, and no other slot gives anything
  all_slots_once : (given : List (List (Attribute K))) (n : ℕ) → length given ≡ n → ((k : ℕ) → k < n → OnceIn given k) → (k : ℕ) → OnceIn given k
  all_slots_once given n q h k =
      by_test (nat_lt k n)
      (λ e. h k (ltb-true k n e))
      (λ e. let past : n ≤ k = ltb-false k n e in let over : length given ≤ k = omega arith in ap (λ (l : List (Attribute K)). once_each l) (beyond given k over))

  later : (v : Slot K) (rest : Slots K) (k : ℕ) → Passes (λ j below. slots_fit (more_slots v rest) j below) (suc k) → Passes (λ j below. slots_fit rest j below) k
  later v rest k p = record { level = p.level; passed = p.passed }

  mutual
    tree_single : (x : Tree K) (level : ℕ) → fits_at x level ≡ true → Single x
    tree_single (block template given slots) level h =
        let test : ℕ → ℕ → Bool = λ k below. slots_fit slots k below in
        let nodes : nodes_fit given test level template.roots ≡ true = and-right _ (nodes_fit given test level template.roots) h in
        let front = and-left _ (all_plain given) (and-left _ (nodes_fit given test level template.roots) h) in
        let t : Tested template given slots = tested template given slots front in (
          λ k.
              all_slots_once given (length (attribute_slots [] 0 template.roots)) t.attributes_met
              (λ j l. all_counted (OnceIn given) (attribute_slots [] 0 template.roots) t.attributes_count (nodes_once given test [] 0 level template.roots nodes) j l)
              k,
          slots_single slots
              (λ k l. all_counted (Passes test) (node_slots [] 0 template.roots) t.nodes_count (nodes_pass given test [] 0 level template.roots nodes) k (subst (λ (n : ℕ). k < n) t.nodes_met l)),
        )

    slots_single : (slots : Slots K) → ((k : ℕ) → k < slot_count slots → Passes (λ j below. slots_fit slots j below) k) → SingleSlots slots
    slots_single no_slots h = tt
    slots_single (more_slots v rest) h =
        let first : 0 < slot_count rest + 1 = omega arith in
        let p : Passes (λ j below. slots_fit (more_slots v rest) j below) 0 = h 0 first in
        (slot_single v p.level p.passed, slots_single rest (λ k l. later v rest k (h (suc k) (one_more k (slot_count rest) l))))

    slot_single : (v : Slot K) (level : ℕ) → slot_fits v level ≡ true → SingleSlot v
    slot_single (text_slot text) level h = tt
    slot_single placeholder_slot level h = tt
    slot_single (component_slot c) level h = tt
    slot_single (fragment_slot items) level h = items_single items level h

    items_single : (ts : Trees K) (level : ℕ) → items_fit ts level ≡ true → SingleTrees ts
    items_single no_trees level h = tt
    items_single (more_trees t ts) level h = (tree_single t level (and-left (fits_at t level) (items_fit ts level) h), items_single ts level (and-right (fits_at t level) (items_fit ts level) h))

  output_single : (o : Option (Tree K)) → ((tree : Tree K) → o ≡ Some tree → FitsBelow tree) → SingleOutput o
  output_single None f = tt
  output_single (Some tree) f = let t : FitsBelow tree = f tree refl in tree_single tree t.level t.fits

  -- no attribute slot of a well-numbered state's outputs has a name twice
  pub well_numbered_single : (w : State K) → WellNumbered w → AllSingle w
  well_numbered_single w good s x e side = output_single (side_of x side).output (λ tree o. good.fit s x side tree e o)

-- between a state that an accepted log reaches and itself no edit is caused
pub rest_causes_nothing : {K : Types} (app : Application K) → RestCausesNothing app
rest_causes_nothing app lawful props inputs log m h s =
    same_causes_nothing app lawful.tests_components m.state (well_numbered_single m.state (replay_well_numbered app lawful props inputs log m h)) s
