-- A tree passes the node test of code just where it passes that of the definitions.
use Rattle.std.proofs.Common.{ℕ, zero, suc, ◌+◌, ◌-◌, ◌≤◌, Bool, true, false, ◌&&◌, List, [], ◌∷◌, ◌++◌, ◌≡◌, Option, Result, Ok, Err, map, length, refl, sym, ap, ◌∙◌, add-one, append_assoc, arith, rules}
use Rattle.std.specs.Prelude.{nat_le, nat_lt, nat_eq, ◌==◌, is_none}
use Rattle.std.specs.List.{list_all, slice_index_or, enumerate_from}
use Rattle.std.specs.Bool.{one_answer}
use Rattle.std.proofs.lemmas.Bool.{leb-true, eqb-true}
use Rattle.rt_lemmas.proofs.Lists.{one_longer as longer, length_end}
use Rattle.tree_nodes.specs.declared.attribute.Attribute.{Attribute}
use Rattle.tree_nodes.specs.declared.attribute.AttributeValue.{AttributeValue}
use Rattle.tree_nodes.specs.declared.attribute.AttributeValue.TheVariants as values
use Rattle.tree_nodes.specs.declared.error.RenderError.{RenderError}
use Rattle.tree_nodes.specs.declared.error.RenderError.TheVariants as errors
use Rattle.tree_nodes.specs.Met.{Met, AtElement, AtAttribute, AtText, AtSlot, met_in}
use Rattle.tree_nodes.specs.Names.{Name, name_of, slot_names}
use Rattle.tree_nodes.specs.Slots as slots
use Rattle.tree_nodes.specs.BlockTest.{met_fits, value_fits, attribute_fits, block_fits}
use Rattle.tree_nodes.specs.NodeTest as code
use Rattle.tree_nodes.specs.NodeTest.{Test, fits_within, node_fits_within, component_fits_within, element_fits_within, all_fit, children_fit, node_step, component_step, error_boundary_step, fragment_step, suspense_boundary_step, tree_step}
use Rattle.tree_nodes.specs.declared.vnode.VNode.{VNode}
use Rattle.tree_nodes.specs.declared.vnode.VComponent.{VComponent as CodeComponent}
use Rattle.tree_nodes.specs.declared.vnode.VComponent.TheVariants as c
use Rattle.tree_nodes.specs.declared.vnode.FragmentProps.{FragmentProps}
use Rattle.tree_nodes.specs.declared.vnode.ErrorBoundaryProps.{ErrorBoundaryProps}
use Rattle.tree_nodes.specs.declared.vnode.SuspenseBoundaryProps.{SuspenseBoundaryProps}
use Rattle.tree_nodes.specs.declared.vnode.RootProps.{RootProps}
use Rattle.tree_nodes.specs.declared.vnode.DynamicNode.{DynamicNode, the_lemmas}
use Rattle.tree_nodes.specs.declared.vnode.DynamicNode.TheVariants as s
use Rattle.tree_nodes.specs.declared.vnode.DynamicNode.TheFolds.{fold_out-VNode}
use Rattle.rt_model.specs.OneLog.{types}
use Rattle.rt_model.specs.Lists.{same_numbers, same_list}
use Rattle.rt_model.specs.Tree as model
use Rattle.rt_model.specs.Tree.{TemplateNodes, no_nodes, element_node, text_node, slot_node, node_slots, attribute_slots, attributes_in, paths_of, Tree, block, Slots, no_slots, more_slots, Slot, text_slot, placeholder_slot, component_slot, fragment_slot, Trees, no_trees, more_trees, VComponent, Own, Root, Fragment, ErrorBoundary, SuspenseBoundary, Element, rendered, failed, suspended}
use Rattle.rt_model.specs.Fits.{counts_from, row_length, slot_count, given_names, is_plain, plain_listeners, all_plain, nodes_fit, element_names, all_once, template_fits, fits_at, slots_fit, slot_fits, items_fit, component_fits, element_fits, fits}
use Rattle.rt_model.proofs.Conjunctions.{and-left, and-right}
use Rattle.rt_model.proofs.SamePlaces.{numbers-true as same_numbers_is}
use Rattle.tree_mirror.specs.Mirror.{attribute_of, value_of, slots_from, trees_from}
use Rattle.tree_mirror.specs.Sealed.{nodes_of, template_of, tree_of, slot_of, component_of, element_of}
use Rattle.tree_mirror.proofs.SealedTrees.{tree_out, slot_Text, slot_Placeholder, slot_Component, slot_Fragment}
use Rattle.tree_mirror.proofs.SealedComponents.{component_App, component_Root}
use Rattle.rt_scopes.proofs.TestNames.{numbered_same}
use Rattle.rt_scopes.proofs.TestWalks.{Names, bare_fit, count_same, nodes_same, attrs_same, bare_same}
use Rattle.rt_scopes.proofs.BuiltIns.{by-value, by-component, fragment_children, fragment_is, error_boundary_children, error_boundary_is, suspense_boundary_children, suspense_boundary_is}

-- pairs of numbers and paths that pass a test
all_slots_on : (test : ℕ × List ℕ → Bool) (xs ys : List (ℕ × List ℕ)) → list_all test (xs ++ ys) ≡ list_all test xs && list_all test ys
all_slots_on test [] ys = refl
all_slots_on test (x ∷ xs) ys = ap (λ b. test x && b) (all_slots_on test xs ys) ∙ grouped (test x) (list_all test xs) (list_all test ys)
  where
    grouped : (a b c : Bool) → a && (b && c) ≡ (a && b) && c
    grouped true b c = refl
    grouped false b c = refl

mixed : (x k t r u : Bool) → (x && (k && t)) && (r && u) ≡ ((x && k) && r) && (t && u)
mixed true true true r u = refl
mixed true true false true u = refl
mixed true true false false u = refl
mixed true false t r u = refl
mixed false k t r u = refl

mixed_slot : (a t r u : Bool) → (a && t) && (r && u) ≡ ((a && true) && r) && (t && u)
mixed_slot true true r u = refl
mixed_slot true false true u = refl
mixed_slot true false false u = refl
mixed_slot false t r u = refl

mixed_text : (a r u : Bool) → a && (r && u) ≡ (a && r) && u
mixed_text true r u = refl
mixed_text false r u = refl

-- the test of a numbered slot, with its level by its path
abbrev at_slots : (ℕ → ℕ → Bool) → ℕ → List (ℕ × List ℕ) → Bool
at_slots slot base es = list_all (λ e. slot e.0 (base + length e.1)) es

module _ {K : model.Types} where
  -- nodes fit where they do by themselves and what stands in their slots does
  parted : (given : List (List (model.Attribute K))) (slot : ℕ → ℕ → Bool) (base level : ℕ) (up : List ℕ) (i : ℕ) (m : TemplateNodes) → level ≡ base + length up
      → nodes_fit given slot level m ≡ bare_fit given level m && at_slots slot base (node_slots up i m)
  parted given slot base level up i no_nodes at_level = refl
  parted given slot base level up i (element_node tag namespace attributes children rest) at_level =
      ap (λ b. ((nat_le level 128 && nat_le (row_length children) 256) && all_once (element_names given attributes)) && b && nodes_fit given slot level rest)
      (parted given slot base (level + 1) (up ++ i ∷ []) 0 children (omega (arith, at_level, length_end up i)))
      ∙ ap (λ b. ((nat_le level 128 && nat_le (row_length children) 256) && all_once (element_names given attributes)) && (bare_fit given (level + 1) children && at_slots slot base (node_slots (up ++ i ∷ []) 0 children)) && b)
      (parted given slot base level up (i + 1) rest at_level)
      ∙ mixed ((nat_le level 128 && nat_le (row_length children) 256) && all_once (element_names given attributes)) (bare_fit given (level + 1) children)
      (at_slots slot base (node_slots (up ++ i ∷ []) 0 children)) (bare_fit given level rest) (at_slots slot base (node_slots up (i + 1) rest))
      ∙ ap (λ b. (((nat_le level 128 && nat_le (row_length children) 256) && all_once (element_names given attributes)) && bare_fit given (level + 1) children) && bare_fit given level rest && b)
      (sym (all_slots_on (λ e. slot e.0 (base + length e.1)) (node_slots (up ++ i ∷ []) 0 children) (node_slots up (i + 1) rest)))
  parted given slot base level up i (text_node text rest) at_level =
      ap (λ b. nat_le level 128 && b) (parted given slot base level up (i + 1) rest at_level)
      ∙ mixed_text (nat_le level 128) (bare_fit given level rest) (at_slots slot base (node_slots up (i + 1) rest))
  parted given slot base level up i (slot_node k rest) at_level =
      let below : level + 1 ≡ base + length (up ++ i ∷ []) = omega (arith, at_level, length_end up i) in
      ap (λ b. (nat_le level 128 && slot k (level + 1)) && b) (parted given slot base level up (i + 1) rest at_level)
      ∙ ap (λ n. (nat_le level 128 && slot k n) && (bare_fit given level rest && at_slots slot base (node_slots up (i + 1) rest))) below
      ∙ mixed_slot (nat_le level 128) (slot k (base + length (up ++ i ∷ []))) (bare_fit given level rest) (at_slots slot base (node_slots up (i + 1) rest))

counted_is : (k : ℕ) (es : List (ℕ × List ℕ)) (ps : List (List ℕ)) → counts_from k es ≡ true → same_list same_numbers (paths_of es) ps ≡ true → es ≡ enumerate_from k ps
counted_is k [] [] h g = refl
counted_is k [] (p ∷ ps) h g = cc
counted_is k (e ∷ es) [] h g = cc
counted_is k (e ∷ es) (p ∷ ps) h g =
    let number = eqb-true e.0 k (and-left (nat_eq e.0 k) (counts_from (k + 1) es) h) in
    let path = same_numbers_is e.1 p (and-left (same_numbers e.1 p) (same_list same_numbers (paths_of es) ps) g) in
    let rest = counted_is (k + 1) es ps (and-right (nat_eq e.0 k) (counts_from (k + 1) es) h) (and-right (same_numbers e.1 p) (same_list same_numbers (paths_of es) ps) g) in
    λ i. (number i, path i) ∷ rest i

-- what was met stands within the levels, so the node slots do
low_slots : (levels : ℕ) (names : List (List Name)) (ms : List Met) → list_all (met_fits levels names) ms ≡ true → list_all (λ e. nat_le (length e.1) levels) (slots.node_slots ms) ≡ true
low_slots levels names [] h = refl
low_slots levels names (AtElement path attrs n ∷ ms) h = low_slots levels names ms (and-right (met_fits levels names (AtElement path attrs n)) _ h)
low_slots levels names (AtAttribute path id ∷ ms) h = low_slots levels names ms h
low_slots levels names (AtText path ∷ ms) h = low_slots levels names ms (and-right (nat_le (length path) levels) _ h)
low_slots levels names (AtSlot path id ∷ ms) h =
    let own = and-left (nat_le (length path) levels) (list_all (met_fits levels names) ms) h in
    let rest = low_slots levels names ms (and-right (nat_le (length path) levels) (list_all (met_fits levels names) ms) h) in
    rw (own, rest) refl

low_paths : (levels k : ℕ) (ps : List (List ℕ)) → list_all (λ (e : ℕ × List ℕ). nat_le (length e.1) levels) (enumerate_from k ps) ≡ true → list_all (λ (p : List ℕ). nat_le (length p) levels) ps ≡ true
low_paths levels k [] h = refl
low_paths levels k (p ∷ ps) h =
    let own = and-left (nat_le (length p) levels) (list_all (λ (e : ℕ × List ℕ). nat_le (length e.1) levels) (enumerate_from (k + 1) ps)) h in
    let rest = low_paths levels (k + 1) ps (and-right (nat_le (length p) levels) (list_all (λ (e : ℕ × List ℕ). nat_le (length e.1) levels) (enumerate_from (k + 1) ps)) h) in
    rw (own, rest) refl

-- what both tests of a tree ask for
record Asked (a b c d e cn sn ca sa h s : Bool) : Type 0 where
  values : a ≡ true
  given : b ≡ true
  plain : c ≡ true
  some : d ≡ true
  few : e ≡ true
  nodes : cn ≡ true
  node_paths : sn ≡ true
  attrs : ca ≡ true
  attr_paths : sa ≡ true
  met : h ≡ true
  below : s ≡ true

by_code : (a b c d e cn sn ca sa h s : Bool) → (a && (b && (c && (d && (e && ((cn && sn) && ((ca && sa) && h))))))) && s ≡ true → Asked a b c d e cn sn ca sa h s
by_code a b c d e cn sn ca sa h s is =
    let p0 = and-left (a && (b && (c && (d && (e && ((cn && sn) && ((ca && sa) && h))))))) s is in
    let p1 = and-right a (b && (c && (d && (e && ((cn && sn) && ((ca && sa) && h)))))) p0 in
    let p2 = and-right b (c && (d && (e && ((cn && sn) && ((ca && sa) && h))))) p1 in
    let p3 = and-right c (d && (e && ((cn && sn) && ((ca && sa) && h)))) p2 in
    let p4 = and-right d (e && ((cn && sn) && ((ca && sa) && h))) p3 in
    let p5 = and-right e ((cn && sn) && ((ca && sa) && h)) p4 in
    let p6 = and-left (cn && sn) ((ca && sa) && h) p5 in
    let p7 = and-right (cn && sn) ((ca && sa) && h) p5 in
    let p8 = and-left (ca && sa) h p7 in
    record {
      values = and-left a (b && (c && (d && (e && ((cn && sn) && ((ca && sa) && h)))))) p0;
      given = and-left b (c && (d && (e && ((cn && sn) && ((ca && sa) && h))))) p1;
      plain = and-left c (d && (e && ((cn && sn) && ((ca && sa) && h)))) p2;
      some = and-left d (e && ((cn && sn) && ((ca && sa) && h))) p3;
      few = and-left e ((cn && sn) && ((ca && sa) && h)) p4;
      nodes = and-left cn sn p6;
      node_paths = and-right cn sn p6;
      attrs = and-left ca sa p8;
      attr_paths = and-right ca sa p8;
      met = and-right (ca && sa) h p7;
      below = and-right (a && (b && (c && (d && (e && ((cn && sn) && ((ca && sa) && h))))))) s is;
    }

to_code : (a b c d e cn sn ca sa h s : Bool) → Asked a b c d e cn sn ca sa h s → (a && (b && (c && (d && (e && ((cn && sn) && ((ca && sa) && h))))))) && s ≡ true
to_code a b c d e cn sn ca sa h s p = rw (p.values, p.given, p.plain, p.some, p.few, p.nodes, p.node_paths, p.attrs, p.attr_paths, p.met, p.below) refl

by_model : (a b c d e cn sn ca sa h s : Bool) → (((((((((d && e) && cn) && ca) && sn) && sa) && a) && b) && c) && (h && s)) ≡ true → Asked a b c d e cn sn ca sa h s
by_model a b c d e cn sn ca sa h s is =
    let q0 = and-left ((((((((d && e) && cn) && ca) && sn) && sa) && a) && b) && c) (h && s) is in
    let q1 = and-left (((((((d && e) && cn) && ca) && sn) && sa) && a) && b) c q0 in
    let q2 = and-left ((((((d && e) && cn) && ca) && sn) && sa) && a) b q1 in
    let q3 = and-left (((((d && e) && cn) && ca) && sn) && sa) a q2 in
    let q4 = and-left ((((d && e) && cn) && ca) && sn) sa q3 in
    let q5 = and-left (((d && e) && cn) && ca) sn q4 in
    let q6 = and-left ((d && e) && cn) ca q5 in
    let q7 = and-left (d && e) cn q6 in
    let q8 = and-right ((((((((d && e) && cn) && ca) && sn) && sa) && a) && b) && c) (h && s) is in
    record {
      values = and-right (((((d && e) && cn) && ca) && sn) && sa) a q2;
      given = and-right ((((((d && e) && cn) && ca) && sn) && sa) && a) b q1;
      plain = and-right (((((((d && e) && cn) && ca) && sn) && sa) && a) && b) c q0;
      some = and-left d e q7;
      few = and-right d e q7;
      nodes = and-right (d && e) cn q6;
      node_paths = and-right (((d && e) && cn) && ca) sn q4;
      attrs = and-right ((d && e) && cn) ca q5;
      attr_paths = and-right ((((d && e) && cn) && ca) && sn) sa q3;
      met = and-left h s q8;
      below = and-right h s q8;
    }

to_model : (a b c d e cn sn ca sa h s : Bool) → Asked a b c d e cn sn ca sa h s → (((((((((d && e) && cn) && ca) && sn) && sa) && a) && b) && c) && (h && s)) ≡ true
to_model a b c d e cn sn ca sa h s p = rw (p.values, p.given, p.plain, p.some, p.few, p.nodes, p.node_paths, p.attrs, p.attr_paths, p.met, p.below) refl

-- both ask for the same, where what stands in the slots is asked alike once all else holds
alike : (a b c d e cn sn ca sa h s t : Bool) → (a ≡ true → cn ≡ true → sn ≡ true → h ≡ true → s ≡ t)
    → (a && (b && (c && (d && (e && ((cn && sn) && ((ca && sa) && h))))))) && s ≡ (((((((((d && e) && cn) && ca) && sn) && sa) && a) && b) && c) && (h && t))
alike a b c d e cn sn ca sa h s t same =
    one_answer ((a && (b && (c && (d && (e && ((cn && sn) && ((ca && sa) && h))))))) && s) (((((((((d && e) && cn) && ca) && sn) && sa) && a) && b) && c) && (h && t))
    (by_code a b c d e cn sn ca sa h s, to_code a b c d e cn sn ca sa h s) (
      (λ is. let p = by_model a b c d e cn sn ca sa h t is in record { values = p.values; given = p.given; plain = p.plain; some = p.some; few = p.few; nodes = p.nodes; node_paths = p.node_paths; attrs = p.attrs; attr_paths = p.attr_paths; met = p.met; below = same p.values p.nodes p.node_paths p.met ∙ p.below }),
      (λ p. to_model a b c d e cn sn ca sa h t (record { values = p.values; given = p.given; plain = p.plain; some = p.some; few = p.few; nodes = p.nodes; node_paths = p.node_paths; attrs = p.attrs; attr_paths = p.attr_paths; met = p.met; below = sym (same p.values p.nodes p.node_paths p.met) ∙ p.below })),
    )

index_at : (pre : List (List ℕ)) (p : List ℕ) (ps : List (List ℕ)) → slice_index_or (pre ++ p ∷ ps) (length pre) [] ≡ p
index_at [] p ps = refl
index_at (x ∷ pre) p ps = index_at pre p ps

-- each test with the path of its slot
abbrev each_code : ℕ → List Test → List (List ℕ) → Bool
each_code levels [] ps = true
each_code levels (test ∷ tests) [] = true
each_code levels (test ∷ tests) (p ∷ ps) = test (levels - length p) && each_code levels tests ps

code_by_paths : (levels : ℕ) (pre ps : List (List ℕ)) (tests : List Test) → length tests ≡ length ps → code.slots_fit (pre ++ ps) (length pre) tests levels ≡ each_code levels tests ps
code_by_paths levels pre ps [] h = refl
code_by_paths levels pre [] (test ∷ tests) h = cc
code_by_paths levels pre (p ∷ ps) (test ∷ tests) h =
    ap (λ q. test (levels - length q) && code.slots_fit (pre ++ p ∷ ps) (length pre + 1) tests levels) (index_at pre p ps)
    ∙ ap (λ b. test (levels - length p) && b)
    (ap (λ k. code.slots_fit (pre ++ p ∷ ps) k tests levels) (sym (longer pre p))
    ∙ ap (λ qs. code.slots_fit qs (length (pre ++ p ∷ [])) tests levels) (sym (append_assoc pre (p ∷ []) ps))
    ∙ code_by_paths levels (pre ++ p ∷ []) ps tests (omega (arith, h)))

module _ {K : model.Types} where
  -- the value of a slot, with the path of its slot
  abbrev each_value : ℕ → List (Slot K) → List (List ℕ) → Bool
  each_value level [] ps = true
  each_value level (v ∷ vs) [] = true
  each_value level (v ∷ vs) (p ∷ ps) = slot_fits v (level + length p) && each_value level vs ps

  value_at : (pre : List (Slot K)) (v : Slot K) (vs : List (Slot K)) (level : ℕ) → slots_fit (slots_from (pre ++ v ∷ vs)) (length pre) level ≡ slot_fits v level
  value_at [] v vs level = refl
  value_at (x ∷ pre) v vs level = value_at pre v vs level

  model_by_paths : (level : ℕ) (pre vs : List (Slot K)) (ps : List (List ℕ)) → length vs ≡ length ps
      → at_slots (λ k below. slots_fit (slots_from (pre ++ vs)) k below) level (enumerate_from (length pre) ps) ≡ each_value level vs ps
  model_by_paths level pre [] [] h = refl
  model_by_paths level pre [] (p ∷ ps) h = cc
  model_by_paths level pre (v ∷ vs) [] h = refl
  model_by_paths level pre (v ∷ vs) (p ∷ ps) h =
      ap (λ b. b && at_slots (λ k below. slots_fit (slots_from (pre ++ v ∷ vs)) k below) level (enumerate_from (length pre + 1) ps)) (value_at pre v vs (level + length p))
      ∙ ap (λ b. slot_fits v (level + length p) && b)
      (ap (λ k. at_slots (λ j below. slots_fit (slots_from (pre ++ v ∷ vs)) j below) level (enumerate_from k ps)) (sym (longer pre v))
      ∙ ap (λ us. at_slots (λ j below. slots_fit (slots_from us) j below) level (enumerate_from (length (pre ++ v ∷ [])) ps)) (sym (append_assoc pre (v ∷ []) vs))
      ∙ model_by_paths level (pre ++ v ∷ []) vs ps (omega (arith, h)))

  count_values : (vs : List (Slot K)) → slot_count (slots_from vs) ≡ length vs
  count_values [] = refl
  count_values (v ∷ vs) = ap (λ n. n + 1) (count_values vs) ∙ add-one (length vs)

module _ (P C Q V H T E L : Type 0) where
  text_in_slot : (text : List ℕ) (levels : ℕ) → node_fits_within {P = P} {Component = C} {Props = Q} {Value = V} {Handler = H} {TaskState = T} {Effect = E} {Payload = L} (s.Text text) levels ≡ true
  text_in_slot text levels = search (rules, the_lemmas)

  placeholder_in_slot : (levels : ℕ) → node_fits_within {P = P} {Component = C} {Props = Q} {Value = V} {Handler = H} {TaskState = T} {Effect = E} {Payload = L} s.Placeholder levels ≡ true
  placeholder_in_slot levels = search (rules, the_lemmas)

  own_fits : (a : C) (q : Q) (levels : ℕ) → component_fits_within {P = P} {Component = C} {Props = Q} {Value = V} {Handler = H} {TaskState = T} {Effect = E} {Payload = L} (c.App a q) levels ≡ true
  own_fits a q levels = search (rules, the_lemmas)

module _ {P C Q V H T E L : Type 0} where
  -- a listener without a namespace
  plain_value : (value : AttributeValue P C Q V H T E L) (namespace : Option (List ℕ)) → value_fits (is_none namespace) value ≡ is_plain (value_of value) namespace
  plain_value (values.Text text) namespace = refl
  plain_value values.None namespace = refl
  plain_value (values.Listener l) namespace = refl

  plain_slot : (given : List (Attribute P C Q V H T E L)) → list_all attribute_fits given ≡ plain_listeners (map attribute_of given)
  plain_slot [] = refl
  plain_slot (a ∷ given) = ap (λ b. b && list_all attribute_fits given) (plain_value a.value a.namespace) ∙ ap (λ b. is_plain (value_of a.value) a.namespace && b) (plain_slot given)

  plain_slots : (slots : List (List (Attribute P C Q V H T E L))) → list_all (list_all attribute_fits) slots ≡ all_plain (map (map attribute_of) slots)
  plain_slots [] = refl
  plain_slots (given ∷ slots) = ap (λ b. b && list_all (list_all attribute_fits) slots) (plain_slot given) ∙ ap (λ b. plain_listeners (map attribute_of given) && b) (plain_slots slots)

  names_given : (given : List (Attribute P C Q V H T E L)) → map name_of given ≡ given_names (map attribute_of given)
  names_given [] = refl
  names_given (a ∷ given) = ap (λ ns. (a.name, a.namespace) ∷ ns) (names_given given)

  names_of_slots : (slots : List (List (Attribute P C Q V H T E L))) → Names (map (map attribute_of) slots) (slot_names slots)
  names_of_slots [] k = refl
  names_of_slots (given ∷ slots) zero = names_given given
  names_of_slots (given ∷ slots) (suc k) = names_of_slots slots k

  length_slots : (slots : List (List (Attribute P C Q V H T E L))) → length (map (map attribute_of) slots) ≡ length slots
  length_slots [] = refl
  length_slots (given ∷ slots) = ap suc (length_slots slots)

  length_tests : (ds : List (DynamicNode P C Q V H T E L)) → length (map (node_fits_within {P = P} {Component = C} {Props = Q} {Value = V} {Handler = H} {TaskState = T} {Effect = E} {Payload = L}) ds) ≡ length ds
  length_tests [] = refl
  length_tests (d ∷ ds) = ap suc (length_tests ds)

  length_values : (ds : List (DynamicNode P C Q V H T E L)) → length (map slot_of ds) ≡ length ds
  length_values [] = refl
  length_values (d ∷ ds) = ap suc (length_values ds)

  -- the test of a tree by its parts
  fits_parts : (t : VNode P C Q V H T E L) (levels : ℕ) → fits_within t levels ≡
      (block_fits t.template (length t.dynamic_nodes) t.dynamic_attrs levels && code.slots_fit t.template.node_paths 0 (map node_fits_within t.dynamic_nodes) levels)
  fits_parts t levels =
      ap (λ (f : Test). f levels) (fold_out-VNode P C Q V H T E L Test Test Test Test Test Test node_step component_step error_boundary_step fragment_step suspense_boundary_step tree_step t)
      ∙ ap (λ n. block_fits t.template n t.dynamic_attrs levels && code.slots_fit t.template.node_paths 0 (map node_fits_within t.dynamic_nodes) levels) (length_tests t.dynamic_nodes)

  -- a tree's two tests agree where those of what stands in its slots do
  block_same : (t : VNode P C Q V H T E L) (level levels : ℕ) → level + levels ≡ 129
      → ((ps : List (List ℕ)) → list_all (λ (p : List ℕ). nat_le (length p) levels) ps ≡ true → each_code levels (map node_fits_within t.dynamic_nodes) ps ≡ each_value level (map slot_of t.dynamic_nodes) ps)
      → fits_within t levels ≡ fits_at (tree_of t) level
  block_same t level levels at_level values =
      let given : List (List (model.Attribute (types C Q V H T E L))) = map (map attribute_of) t.dynamic_attrs in
      let names : List (List Name) = slot_names t.dynamic_attrs in
      let roots : TemplateNodes = nodes_of t.template.roots in
      let ms : List Met = met_in t.template.roots in
      let below : Bool = code.slots_fit t.template.node_paths 0 (map node_fits_within t.dynamic_nodes) levels in
      let slotted : ℕ → ℕ → Bool = λ k low. slots_fit (slots_from (map slot_of t.dynamic_nodes)) k low in
      fits_parts t levels
      ∙ ap (λ b. (length t.dynamic_nodes == length t.template.node_paths && (length t.dynamic_attrs == length t.template.attr_paths && (list_all (list_all attribute_fits) t.dynamic_attrs && (nat_lt 0 (length t.template.roots) && (nat_le (length t.template.roots) 256 && (b && (slots.are_numbered (slots.attr_slots ms) t.template.attr_paths && list_all (met_fits levels names) ms))))))) && below)
      (numbered_same (slots.node_slots ms) t.template.node_paths)
      ∙ ap (λ b. (length t.dynamic_nodes == length t.template.node_paths && (length t.dynamic_attrs == length t.template.attr_paths && (list_all (list_all attribute_fits) t.dynamic_attrs && (nat_lt 0 (length t.template.roots) && (nat_le (length t.template.roots) 256 && ((counts_from 0 (slots.node_slots ms) && same_list same_numbers (paths_of (slots.node_slots ms)) t.template.node_paths) && (b && list_all (met_fits levels names) ms))))))) && below)
      (numbered_same (slots.attr_slots ms) t.template.attr_paths)
      ∙ alike (length t.dynamic_nodes == length t.template.node_paths) (length t.dynamic_attrs == length t.template.attr_paths) (list_all (list_all attribute_fits) t.dynamic_attrs) (nat_lt 0 (length t.template.roots)) (nat_le (length t.template.roots) 256)
      (counts_from 0 (slots.node_slots ms)) (same_list same_numbers (paths_of (slots.node_slots ms)) t.template.node_paths) (counts_from 0 (slots.attr_slots ms)) (same_list same_numbers (paths_of (slots.attr_slots ms)) t.template.attr_paths)
      (list_all (met_fits levels names) ms) below (at_slots slotted level (slots.node_slots ms))
      (λ count numbered placed met.
      let are : slots.node_slots ms ≡ enumerate_from 0 t.template.node_paths = counted_is 0 (slots.node_slots ms) t.template.node_paths numbered placed in
      let long : length t.dynamic_nodes ≡ length t.template.node_paths = eqb-true (length t.dynamic_nodes) (length t.template.node_paths) count in
      let low : list_all (λ (p : List ℕ). nat_le (length p) levels) t.template.node_paths ≡ true =
      low_paths levels 0 t.template.node_paths (ap (λ es. list_all (λ (e : ℕ × List ℕ). nat_le (length e.1) levels) es) (sym are) ∙ low_slots levels names ms met) in
      code_by_paths levels [] t.template.node_paths (map node_fits_within t.dynamic_nodes) (length_tests t.dynamic_nodes ∙ long)
      ∙ values t.template.node_paths low
      ∙ sym (model_by_paths level [] (map slot_of t.dynamic_nodes) t.template.node_paths (length_values t.dynamic_nodes ∙ long))
      ∙ ap (λ es. at_slots slotted level es) (sym are))
      ∙ ap (λ es. ((((((((nat_lt 0 (length t.template.roots) && nat_le (length t.template.roots) 256) && counts_from 0 es) && counts_from 0 (slots.attr_slots ms)) && same_list same_numbers (paths_of es) t.template.node_paths) && same_list same_numbers (paths_of (slots.attr_slots ms)) t.template.attr_paths) && (length t.dynamic_nodes == length t.template.node_paths)) && (length t.dynamic_attrs == length t.template.attr_paths)) && list_all (list_all attribute_fits) t.dynamic_attrs) && (list_all (met_fits levels names) ms && at_slots slotted level es))
      (sym (nodes_same (types C Q V H T E L) t.template.roots))
      ∙ ap (λ es. ((((((((nat_lt 0 (length t.template.roots) && nat_le (length t.template.roots) 256) && counts_from 0 (node_slots [] 0 roots)) && counts_from 0 es) && same_list same_numbers (paths_of (node_slots [] 0 roots)) t.template.node_paths) && same_list same_numbers (paths_of es) t.template.attr_paths) && (length t.dynamic_nodes == length t.template.node_paths)) && (length t.dynamic_attrs == length t.template.attr_paths)) && list_all (list_all attribute_fits) t.dynamic_attrs) && (list_all (met_fits levels names) ms && at_slots slotted level (node_slots [] 0 roots)))
      (sym (attrs_same (types C Q V H T E L) t.template.roots))
      ∙ ap (λ n. ((((((((nat_lt 0 n && nat_le n 256) && counts_from 0 (node_slots [] 0 roots)) && counts_from 0 (attribute_slots [] 0 roots)) && same_list same_numbers (paths_of (node_slots [] 0 roots)) t.template.node_paths) && same_list same_numbers (paths_of (attribute_slots [] 0 roots)) t.template.attr_paths) && (length t.dynamic_nodes == length t.template.node_paths)) && (length t.dynamic_attrs == length t.template.attr_paths)) && list_all (list_all attribute_fits) t.dynamic_attrs) && (list_all (met_fits levels names) ms && at_slots slotted level (node_slots [] 0 roots)))
      (sym (count_same (types C Q V H T E L) t.template.roots))
      ∙ ap (λ n. ((template_fits (template_of t.template) && (n == length t.template.node_paths)) && (length t.dynamic_attrs == length t.template.attr_paths)) && list_all (list_all attribute_fits) t.dynamic_attrs && (list_all (met_fits levels names) ms && at_slots slotted level (node_slots [] 0 roots)))
      (sym (count_values (map slot_of t.dynamic_nodes) ∙ length_values t.dynamic_nodes))
      ∙ ap (λ n. ((template_fits (template_of t.template) && (slot_count (slots_from (map slot_of t.dynamic_nodes)) == length t.template.node_paths)) && (n == length t.template.attr_paths)) && list_all (list_all attribute_fits) t.dynamic_attrs && (list_all (met_fits levels names) ms && at_slots slotted level (node_slots [] 0 roots)))
      (sym (length_slots t.dynamic_attrs))
      ∙ ap (λ b. ((template_fits (template_of t.template) && (slot_count (slots_from (map slot_of t.dynamic_nodes)) == length t.template.node_paths)) && (length given == length t.template.attr_paths)) && b && (list_all (met_fits levels names) ms && at_slots slotted level (node_slots [] 0 roots)))
      (plain_slots t.dynamic_attrs)
      ∙ ap (λ b. ((template_fits (template_of t.template) && (slot_count (slots_from (map slot_of t.dynamic_nodes)) == length t.template.node_paths)) && (length given == length t.template.attr_paths)) && all_plain given && (b && at_slots slotted level (node_slots [] 0 roots)))
      (sym (bare_same (types C Q V H T E L) t.template.roots given names (names_of_slots t.dynamic_attrs) level levels at_level))
      ∙ ap (λ b. ((template_fits (template_of t.template) && (slot_count (slots_from (map slot_of t.dynamic_nodes)) == length t.template.node_paths)) && (length given == length t.template.attr_paths)) && all_plain given && b)
      (sym (parted given slotted level level [] 0 roots (omega arith)))
      ∙ ap (λ m. fits_at m level) (sym (tree_out t))

  component_in_slot : (k : CodeComponent P C Q V H T E L) (levels : ℕ) → node_fits_within (s.Component k) levels ≡ component_fits_within k levels
  component_in_slot k levels = search (rules, the_lemmas)

  fragment_in_slot : (ts : List (VNode P C Q V H T E L)) (levels : ℕ) → node_fits_within (s.Fragment ts) levels ≡ all_fit (map fits_within ts) levels
  fragment_in_slot ts levels = search (rules, the_lemmas)

  root_fits : (props : RootProps P C Q V H T E L) (levels : ℕ) → component_fits_within (c.Root props) levels ≡ true
  root_fits props levels = search (rules, the_lemmas)

  fragment_fits : (props : FragmentProps P C Q V H T E L) (levels : ℕ) → component_fits_within (c.Fragment props) levels ≡ element_fits_within (fragment_children props) levels
  fragment_fits props levels = search (rules, the_lemmas)

  error_boundary_fits : (props : ErrorBoundaryProps P C Q V H T E L) (levels : ℕ) → component_fits_within (c.ErrorBoundary props) levels ≡ element_fits_within (error_boundary_children props) levels
  error_boundary_fits props levels = search (rules, the_lemmas)

  suspense_boundary_fits : (props : SuspenseBoundaryProps P C Q V H T E L) (levels : ℕ) → component_fits_within (c.SuspenseBoundary props) levels ≡ element_fits_within (suspense_boundary_children props) levels
  suspense_boundary_fits props levels = search (rules, the_lemmas)

  -- what stands in a slot, where components and fragments are known
  slot_same : (v : Slot (types C Q V H T E L)) (level levels : ℕ)
      → ((k : CodeComponent P C Q V H T E L) → component_slot (component_of k) ≡ v → component_fits_within k levels ≡ component_fits (component_of k) level)
      → ((ts : List (VNode P C Q V H T E L)) → fragment_slot (trees_from (map tree_of ts)) ≡ v → all_fit (map fits_within ts) levels ≡ items_fit (trees_from (map tree_of ts)) level)
      → (d : DynamicNode P C Q V H T E L) → slot_of d ≡ v → node_fits_within d levels ≡ slot_fits (slot_of d) level
  slot_same v level levels component fragment d = by-value (λ d. slot_of d ≡ v → node_fits_within d levels ≡ slot_fits (slot_of d) level)
      (λ text e. text_in_slot P C Q V H T E L text levels ∙ ap (λ u. slot_fits u level) (sym (slot_Text P text)))
      (λ e. placeholder_in_slot P C Q V H T E L levels ∙ ap (λ u. slot_fits u level) (sym (slot_Placeholder P)))
      (λ k e. component_in_slot k levels ∙ component k (sym (slot_Component k) ∙ e) ∙ ap (λ u. slot_fits u level) (sym (slot_Component k)))
      (λ ts e. fragment_in_slot ts levels ∙ fragment ts (sym (slot_Fragment ts) ∙ e) ∙ ap (λ u. slot_fits u level) (sym (slot_Fragment ts)))
      d

  -- a component, where the children of a built-in one are known
  component_same : (m : VComponent (types C Q V H T E L)) (level levels : ℕ)
      → ((r : Result (VNode P C Q V H T E L) RenderError) → Fragment (element_of r) ≡ m → element_fits_within r levels ≡ element_fits (element_of r) level)
      → ((r : Result (VNode P C Q V H T E L) RenderError) (o : Option (C × Q)) → ErrorBoundary (element_of r) o ≡ m → element_fits_within r levels ≡ element_fits (element_of r) level)
      → ((r : Result (VNode P C Q V H T E L) RenderError) (o : Option (C × Q)) → SuspenseBoundary (element_of r) o ≡ m → element_fits_within r levels ≡ element_fits (element_of r) level)
      → (k : CodeComponent P C Q V H T E L) → component_of k ≡ m → component_fits_within k levels ≡ component_fits (component_of k) level
  component_same m level levels fragment errors suspense k = by-component (λ k. component_of k ≡ m → component_fits_within k levels ≡ component_fits (component_of k) level)
      (λ a q e. own_fits P C Q V H T E L a q levels ∙ ap (λ u. component_fits u level) (sym (component_App P a q)))
      (λ props e. fragment_fits props levels ∙ fragment (fragment_children props) (sym (fragment_is props) ∙ e) ∙ ap (λ u. component_fits u level) (sym (fragment_is props)))
      (λ props e. error_boundary_fits props levels ∙ errors (error_boundary_children props) _ (sym (error_boundary_is props) ∙ e) ∙ ap (λ u. component_fits u level) (sym (error_boundary_is props)))
      (λ props e. suspense_boundary_fits props levels ∙ suspense (suspense_boundary_children props) _ (sym (suspense_boundary_is props) ∙ e) ∙ ap (λ u. component_fits u level) (sym (suspense_boundary_is props)))
      (λ props e. root_fits props levels ∙ ap (λ u. component_fits u level) (sym (component_Root props)))
      k

  mutual
    -- a tree with this mirror
    tree_same : (m : Tree (types C Q V H T E L)) (t : VNode P C Q V H T E L) → tree_of t ≡ m → (level levels : ℕ) → level + levels ≡ 129 → fits_within t levels ≡ fits_at (tree_of t) level
    tree_same (block u given ss) t e level levels at_level =
        let parts : block (template_of t.template) (map (map attribute_of) t.dynamic_attrs) (slots_from (map slot_of t.dynamic_nodes)) ≡ block u given ss = sym (tree_out t) ∙ e in
        let values : slots_from (map slot_of t.dynamic_nodes) ≡ ss = cc parts in
        block_same t level levels at_level (λ ps low. slots_same ss t.dynamic_nodes values ps level levels at_level low)

    slots_same : (ss : Slots (types C Q V H T E L)) (ds : List (DynamicNode P C Q V H T E L)) → slots_from (map slot_of ds) ≡ ss → (ps : List (List ℕ)) (level levels : ℕ) → level + levels ≡ 129
        → list_all (λ (p : List ℕ). nat_le (length p) levels) ps ≡ true → each_code levels (map node_fits_within ds) ps ≡ each_value level (map slot_of ds) ps
    slots_same ss [] e ps level levels at_level low = refl
    slots_same ss (d ∷ ds) e [] level levels at_level low = refl
    slots_same no_slots (d ∷ ds) e (p ∷ ps) level levels at_level low = cc
    slots_same (more_slots v ss) (d ∷ ds) e (p ∷ ps) level levels at_level low =
        let short : length p ≤ levels = leb-true (length p) levels (and-left (nat_le (length p) levels) (list_all (λ (q : List ℕ). nat_le (length q) levels) ps) low) in
        let rest = slots_same ss ds (cc e) ps level levels at_level (and-right (nat_le (length p) levels) (list_all (λ (q : List ℕ). nat_le (length q) levels) ps) low) in
        ap (λ b. b && each_code levels (map node_fits_within ds) ps) (value_same v d (cc e) (level + length p) (levels - length p) (omega (arith, at_level, short)))
        ∙ ap (λ b. slot_fits (slot_of d) (level + length p) && b) rest

    value_same : (v : Slot (types C Q V H T E L)) (d : DynamicNode P C Q V H T E L) → slot_of d ≡ v → (level levels : ℕ) → level + levels ≡ 129 → node_fits_within d levels ≡ slot_fits (slot_of d) level
    value_same (text_slot text) d e level levels at_level = slot_same (text_slot text) level levels (λ k g. cc) (λ ts g. cc) d e
    value_same placeholder_slot d e level levels at_level = slot_same placeholder_slot level levels (λ k g. cc) (λ ts g. cc) d e
    value_same (component_slot m) d e level levels at_level = slot_same (component_slot m) level levels (λ k g. part_same m k (cc g) level levels at_level) (λ ts g. cc) d e
    value_same (fragment_slot ms) d e level levels at_level = slot_same (fragment_slot ms) level levels (λ k g. cc) (λ ts g. items_same ms ts (cc g) level levels at_level) d e

    items_same : (ms : Trees (types C Q V H T E L)) (ts : List (VNode P C Q V H T E L)) → trees_from (map tree_of ts) ≡ ms → (level levels : ℕ) → level + levels ≡ 129 → all_fit (map fits_within ts) levels ≡ items_fit (trees_from (map tree_of ts)) level
    items_same ms [] e level levels at_level = refl
    items_same no_trees (t ∷ ts) e level levels at_level = cc
    items_same (more_trees m ms) (t ∷ ts) e level levels at_level =
        ap (λ b. b && all_fit (map fits_within ts) levels) (tree_same m t (cc e) level levels at_level)
        ∙ ap (λ b. fits_at (tree_of t) level && b) (items_same ms ts (cc e) level levels at_level)

    part_same : (m : VComponent (types C Q V H T E L)) (k : CodeComponent P C Q V H T E L) → component_of k ≡ m → (level levels : ℕ) → level + levels ≡ 129 → component_fits_within k levels ≡ component_fits (component_of k) level
    part_same (Own a q) k e level levels at_level = component_same (Own a q) level levels (λ r g. cc) (λ r o g. cc) (λ r o g. cc) k e
    part_same (Root a q) k e level levels at_level = component_same (Root a q) level levels (λ r g. cc) (λ r o g. cc) (λ r o g. cc) k e
    part_same (Fragment m) k e level levels at_level = component_same (Fragment m) level levels (λ r g. answer_same m r (cc g) level levels at_level) (λ r o g. cc) (λ r o g. cc) k e
    part_same (ErrorBoundary m o) k e level levels at_level = component_same (ErrorBoundary m o) level levels (λ r g. cc) (λ r p g. answer_same m r (cc g) level levels at_level) (λ r p g. cc) k e
    part_same (SuspenseBoundary m o) k e level levels at_level = component_same (SuspenseBoundary m o) level levels (λ r g. cc) (λ r p g. cc) (λ r p g. answer_same m r (cc g) level levels at_level) k e

    answer_same : (m : Element (types C Q V H T E L)) (r : Result (VNode P C Q V H T E L) RenderError) → element_of r ≡ m → (level levels : ℕ) → level + levels ≡ 129 → element_fits_within r levels ≡ element_fits (element_of r) level
    answer_same m (Err (errors.Error f)) e level levels at_level = refl
    answer_same m (Err (errors.Suspended f)) e level levels at_level = refl
    answer_same (rendered m) (Ok t) e level levels at_level = tree_same m t (cc e) level levels at_level
    answer_same (failed f) (Ok t) e level levels at_level = cc
    answer_same (suspended f g) (Ok t) e level levels at_level = cc

  -- a tree passes the one test where it passes the other
  pub fits_same : (t : VNode P C Q V H T E L) → code.fits t ≡ fits (tree_of t)
  fits_same t = tree_same (tree_of t) t refl 1 128 refl
