-- Two sides, each with the nodes of child scopes, that agree at all spots of a tree show the same of it.
use Rattle.std.proofs.Common.{ℕ, zero, suc, ◌+◌, List, [], ◌∷◌, ◌++◌, ◌≡◌, inl, inr, refl, ap}
use Rattle.rt_model.specs.Tree.{Types, TemplateNodes, no_nodes, element_node, text_node, slot_node, Template, Attribute, Tree, block, Slots, no_slots, more_slots, Slot, text_slot, placeholder_slot, component_slot, fragment_slot, Trees, no_trees, more_trees, item, Place, an_element, a_static_text, Spot, node_at, component_at, node_spots, place_in, spots, slots_spots, slot_spots, item_spots}
use Rattle.rt_model.specs.State.{Side}
use Rattle.rt_model.specs.Document.{Content, DocElement, DocText, DocPlaceholder, Forest, Empty, Node, join_rows, leaf}
use Rattle.rt_model.specs.View.{element_attributes, element_listeners, nodes_view, tree_view, slots_view, slot_view, items_view}
use Rattle.rt_model.proofs.Among.{Among, among_left, among_right}
use Rattle.law_patch.specs.SoFar.{AgreeAt}

module _ {K : Types} (s t : Side K) (f g : ℕ → Forest) where
  -- they agree at each of these spots
  abbrev pub AllAgree : List (Spot K) → Type 0
  AllAgree ss = (x : Spot K) → Among ss x → AgreeAt s f t g x

  pub front_agree : (xs ys : List (Spot K)) → AllAgree (xs ++ ys) → AllAgree xs
  front_agree xs ys h x a = h x (among_left xs ys x a)

  pub back_agree : (xs ys : List (Spot K)) → AllAgree (xs ++ ys) → AllAgree ys
  back_agree xs ys h x a = h x (among_right xs ys x a)

  nodes_alike : (whole : Template) (above : Place) (gives : List (List (Attribute K))) (ss : ℕ → Place → List (Spot K)) (old new : ℕ → Place → Forest)
      → ((k : ℕ) (place : Place) → AllAgree (ss k place) → old k place ≡ new k place)
      → (up : List ℕ) (i : ℕ) (nodes : TemplateNodes)
      → AllAgree (node_spots whole above ss up i nodes)
      → nodes_view s.numbers whole above gives old up i nodes ≡ nodes_view t.numbers whole above gives new up i nodes
  nodes_alike whole above gives ss old new h up i no_nodes all = refl
  nodes_alike whole above gives ss old new h up i (element_node tag namespace attributes children rest) all =
      let content : Content = DocElement tag namespace (element_attributes gives [] attributes) (element_listeners gives [] attributes) in
      let below : List (Spot K) = node_spots whole above ss (up ++ i ∷ []) 0 children in
      let later : List (Spot K) = node_spots whole above ss up (i + 1) rest in
      let inside : AllAgree (below ++ later) = λ x a. all x (inr a) in
      let number = all (node_at (place_in whole above up i) an_element) (inl refl) in
      let inner = nodes_alike whole above gives ss old new h (up ++ i ∷ []) 0 children (front_agree below later inside) in
      let outer = nodes_alike whole above gives ss old new h up (i + 1) rest (back_agree below later inside) in
      (λ k. Node (number k) content (inner k) (outer k))
  nodes_alike whole above gives ss old new h up i (text_node text rest) all =
      let number = all (node_at (place_in whole above up i) a_static_text) (inl refl) in
      let outer = nodes_alike whole above gives ss old new h up (i + 1) rest (λ x a. all x (inr a)) in
      (λ k. Node (number k) (DocText text) Empty (outer k))
  nodes_alike whole above gives ss old new h up i (slot_node k rest) all =
      let here : List (Spot K) = ss k (place_in whole above up i) in
      let later : List (Spot K) = node_spots whole above ss up (i + 1) rest in
      let first = h k (place_in whole above up i) (front_agree here later all) in
      let outer = nodes_alike whole above gives ss old new h up (i + 1) rest (back_agree here later all) in
      (λ n. join_rows (first n) (outer n))

  mutual
    pub tree_alike : (above : Place) (y : Tree K) → AllAgree (spots above y) → tree_view s f above y ≡ tree_view t g above y
    tree_alike above (block template gives slots) all =
        nodes_alike template above gives (λ k place. slots_spots slots k place) (λ k place. slots_view s f slots k place) (λ k place. slots_view t g slots k place)
        (λ k place a. slots_alike slots k place a) [] 0 template.roots all

    slots_alike : (ys : Slots K) (k : ℕ) (place : Place) → AllAgree (slots_spots ys k place) → slots_view s f ys k place ≡ slots_view t g ys k place
    slots_alike no_slots k place all = refl
    slots_alike (more_slots v rest) zero place all = slot_alike v place all
    slots_alike (more_slots v rest) (suc k) place all = slots_alike rest k place all

    pub slot_alike : (y : Slot K) (place : Place) → AllAgree (slot_spots y place) → slot_view s f y place ≡ slot_view t g y place
    slot_alike (text_slot text) place all = ap (λ (n : ℕ). leaf n (DocText text)) (all _ (inl refl))
    slot_alike placeholder_slot place all = ap (λ (n : ℕ). leaf n DocPlaceholder) (all _ (inl refl))
    slot_alike (component_slot c) place all = all (component_at place c) (inl refl)
    slot_alike (fragment_slot no_trees) place all = ap (λ (n : ℕ). leaf n DocPlaceholder) (all _ (inl refl))
    slot_alike (fragment_slot (more_trees y ys)) place all = items_alike 0 place (more_trees y ys) all

    pub items_alike : (i : ℕ) (place : Place) (ys : Trees K) → AllAgree (item_spots i place ys) → items_view s f i place ys ≡ items_view t g i place ys
    items_alike i place no_trees all = refl
    items_alike i place (more_trees y ys) all =
        let here : List (Spot K) = spots (place ++ item i ∷ []) y in
        let later : List (Spot K) = item_spots (i + 1) place ys in
        let first = tree_alike (place ++ item i ∷ []) y (front_agree here later all) in
        let others = items_alike (i + 1) place ys (back_agree here later all) in
        (λ k. join_rows (first k) (others k))
