-- One pass over the attribute slots of a template, and both.
use Rattle.std.proofs.Common.{ℕ, ◌+◌, List, [], ◌∷◌, ◌++◌, subst, arith, append_assoc}
use Rattle.rt_model.specs.Tree.{Types, TemplateNodes, no_nodes, element_node, text_node, slot_node, Template, Attribute, Place, Kind, an_element, a_static_text, place_in, attributes_in}
use Rattle.rt_model.specs.Heard.{number_at}
use Rattle.rt_model.specs.Document.{Content, DocElement, DocText, Forest, Empty, Edit, leaf, count_of}
use Rattle.rt_model.specs.View.{element_attributes, element_listeners, nodes_view}
use Rattle.rt_model.specs.Caused.{element_pass, attribute_pass, left, come}
use Rattle.rt_model.proofs.ViewCounts.{count_join}
use Rattle.law_moves.specs.Settings.{Brings}
use Rattle.law_moves.specs.Meets.{AttributesBring}
use Rattle.law_headline.specs.Passes.{ElementsAlter}
use Rattle.law_headline.proofs.Changes.{nothing_brings, both_bring, more_claimed, after_brings, children_bring, joined_bring}
use Rattle.law_headline.proofs.Altering.{element_brings}

module _ {K : Types} (numbers : List (Place × Kind × ℕ)) (whole : Template) (above : Place) (slot : ℕ → Place → Forest) (first second : List (List (Attribute K))) (of : ℕ → ℕ → List Edit) where
  abbrev number : List ℕ → ℕ → ℕ
  number up i = number_at numbers (place_in whole above up i) an_element

  abbrev was : List ℕ → ℕ → TemplateNodes → Forest
  was up i nodes = nodes_view numbers whole above first slot up i nodes

  abbrev is : List ℕ → ℕ → TemplateNodes → Forest
  is up i nodes = nodes_view numbers whole above second slot up i nodes

  -- an element first, then its children, then the nodes after it
  one_pass : (nodes : TemplateNodes) (up : List ℕ) (i : ℕ) → ElementsAlter numbers whole above first second of up i nodes
      → Brings (attribute_pass of (λ us j. number_at numbers (place_in whole above us j) an_element) up i nodes) (was up i nodes) (is up i nodes) (λ n. count_of n (is up i nodes))
  one_pass no_nodes up i h = nothing_brings Empty
  one_pass (element_node tag namespace attributes children rest) up i h =
      let m : ℕ = number up i in
      let old : Content = DocElement tag namespace (element_attributes first [] attributes) (element_listeners first [] attributes) in
      let new : Content = DocElement tag namespace (element_attributes second [] attributes) (element_listeners second [] attributes) in
      let own = element_brings m (element_pass of m attributes) old new (was (up ++ i ∷ []) 0 children) h.0 in
      let inner = one_pass children (up ++ i ∷ []) 0 h.1 in
      let later = one_pass rest up (i + 1) h.2 in
      subst
      (λ (es : List Edit). Brings es (was up i (element_node tag namespace attributes children rest)) (is up i (element_node tag namespace attributes children rest)) (λ n. count_of n (is up i (element_node tag namespace attributes children rest))))
      (append_assoc (element_pass of m attributes) _ _)
      (more_claimed (λ n. omega arith) (joined_bring (both_bring (more_claimed (λ n. omega (arith, inner.old n)) own) (children_bring m new inner)) later))
  one_pass (text_node text rest) up i h =
      more_claimed (λ n. omega arith) (after_brings (leaf (number_at numbers (place_in whole above up i) a_static_text) (DocText text)) (one_pass rest up (i + 1) h))
  one_pass (slot_node k rest) up i h =
      more_claimed
      (λ n. omega (arith, count_join n (slot k (place_in whole above up i)) (is up (i + 1) rest)))
      (after_brings (slot k (place_in whole above up i)) (one_pass rest up (i + 1) h))

module _ {K : Types} where
  pub passes_bring : (numbers : List (Place × Kind × ℕ)) (above : Place) (whole : Template) (old between new : List (List (Attribute K)))
      → ElementsAlter numbers whole above old between (λ k n. left (attributes_in old k) (attributes_in new k) n) [] 0 whole.roots
      → ElementsAlter numbers whole above between new (λ k n. come (attributes_in new k) (attributes_in old k) n) [] 0 whole.roots
      → AttributesBring numbers above whole new old
  passes_bring numbers above whole old between new gone come_in slot =
      let second = one_pass numbers whole above slot between new (λ k n. come (attributes_in new k) (attributes_in old k) n) whole.roots [] 0 come_in in
      let first = one_pass numbers whole above slot old between (λ k n. left (attributes_in old k) (attributes_in new k) n) whole.roots [] 0 gone in
      both_bring (more_claimed (λ n. second.old n) first) second
