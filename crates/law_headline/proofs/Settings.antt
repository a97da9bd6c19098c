-- The nodes of one child scope stand in one setting among the nodes of its parent, where no other child's nodes differ.
use Rattle.std.proofs.Common.{ℕ, zero, suc, ◌+◌, List, [], ◌∷◌, ◌++◌, ◌≡◌, ◌⊎◌, inl, inr, refl, sym, ap, ◌∙◌, subst}
use Rattle.std.specs.Prelude.{Option, Some, All}
use Rattle.std.proofs.lemmas.List.Elements.{All-from_recursion}
use Rattle.rt_model.specs.Tree.{Types, TemplateNodes, no_nodes, element_node, text_node, slot_node, Template, Attribute, Tree, block, Slots, no_slots, more_slots, Slot, text_slot, placeholder_slot, component_slot, fragment_slot, Trees, no_trees, more_trees, VComponent, Place, item, an_element, a_static_text, Spot, component_at, place_in, node_spots, spots, slots_spots, slot_spots, item_spots}
use Rattle.rt_model.specs.State.{Side}
use Rattle.rt_model.specs.Run.{child_at}
use Rattle.rt_model.specs.Heard.{number_at}
use Rattle.rt_model.specs.Document.{DocElement, DocText, Forest, Empty, Node, join_rows}
use Rattle.rt_model.specs.View.{element_attributes, element_listeners, child_view, nodes_view, tree_view, slots_view, slot_view, items_view}
use Rattle.rt_model.proofs.Among.{Among, among_left, among_right}
use Rattle.rt_model.proofs.Places.{place_of, Apart, Distinct, spots_distinct}
use Rattle.law_moves.proofs.Lists.{all_among}
use Rattle.law_moves.specs.Settings.{Setting, Alone, After, Ahead, Within, placed}
use Rattle.law_headline.proofs.Lines.{among_either, every_of}

-- a setting within another one
abbrev pub set_in : Setting → Setting → Setting
set_in Alone outer = outer
set_in (After nodes s) outer = After nodes (set_in s outer)
set_in (Ahead nodes s) outer = Ahead nodes (set_in s outer)
set_in (Within id content s) outer = Within id content (set_in s outer)

pub placed_in : (s outer : Setting) (row : Forest) → placed (set_in s outer) row ≡ placed outer (placed s row)
placed_in Alone outer row = refl
placed_in (After nodes s) outer row = placed_in s outer (join_rows nodes row)
placed_in (Ahead nodes s) outer row = placed_in s outer (join_rows row nodes)
placed_in (Within id content s) outer row = placed_in s outer (Node id content row Empty)

-- two rows in one setting
pub record InSetting (f g p q : Forest) : Type 0 where
  pub setting : Setting
  pub one : f ≡ placed setting p
  pub two : g ≡ placed setting q

-- what stands about them stands about what they stand in
in_more : (outer : Setting) (f g p q : Forest) → InSetting f g p q → InSetting (placed outer f) (placed outer g) p q
in_more outer f g p q h =
    record {
      setting = set_in h.setting outer;
      one = ap (λ (z : Forest). placed outer z) h.one ∙ sym (placed_in h.setting outer p);
      two = ap (λ (z : Forest). placed outer z) h.two ∙ sym (placed_in h.setting outer q);
    }

in_row : (a b c d p q : Forest) → InSetting a b p q → c ≡ d → InSetting (join_rows a c) (join_rows b d) p q
in_row a b c d p q h same = subst (λ (z : Forest). InSetting (join_rows a c) (join_rows b z) p q) same (in_more (Ahead c Alone) a b p q h)

in_rest : (a b c d p q : Forest) → a ≡ b → InSetting c d p q → InSetting (join_rows a c) (join_rows b d) p q
in_rest a b c d p q same h = subst (λ (z : Forest). InSetting (join_rows a c) (join_rows z d) p q) same (in_more (After a Alone) c d p q h)

module _ {K : Types} where
  -- spots of two parts of a list have different places
  pub parts_apart : (xs ys : List (Spot K)) (e f : Spot K) → Distinct (xs ++ ys) → Among xs e → Among ys f → place_of e ≡ place_of f → ⊥
  parts_apart [] ys e f d g h = absurd g
  parts_apart (x ∷ xs) ys e f d (inl g) h =
      λ same. all_among (λ (i : Spot K). Apart x i) (xs ++ ys) f d.0 (among_right xs ys f h) (ap (λ (i : Spot K). place_of i) g ∙ same)
  parts_apart (x ∷ xs) ys e f d (inr g) h = parts_apart xs ys e f d.1 g h

  module _ (side : Side K) (f g : ℕ → Forest) where
    -- the children at other places show the same
    abbrev Agree : List (Spot K) → Type 0
    Agree ss = (q : Place) (d : VComponent K) → Among ss (component_at q d) → child_view f (child_at side.children q) ≡ child_view g (child_at side.children q)

    module _ (whole : Template) (above : Place) (given : List (List (Attribute K))) (one two : ℕ → Place → Forest) (of : ℕ → Place → List (Spot K)) (same : (k : ℕ) (q : Place) → Agree (of k q) → one k q ≡ two k q) where
      row_same : (nodes : TemplateNodes) (up : List ℕ) (i : ℕ) → Agree (node_spots whole above of up i nodes) → nodes_view side.numbers whole above given one up i nodes ≡ nodes_view side.numbers whole above given two up i nodes
      row_same no_nodes up i agree = refl
      row_same (element_node tag namespace attributes children rest) up i agree =
          let xs : List (Spot K) = node_spots whole above of (up ++ i ∷ []) 0 children in
          let ys : List (Spot K) = node_spots whole above of up (i + 1) rest in
          let inside = row_same children (up ++ i ∷ []) 0 (λ q c e. agree q c (inr (among_left xs ys (component_at q c) e))) in
          let later = row_same rest up (i + 1) (λ q c e. agree q c (inr (among_right xs ys (component_at q c) e))) in
          let id : ℕ = number_at side.numbers (place_in whole above up i) an_element in
          let content = DocElement tag namespace (element_attributes given [] attributes) (element_listeners given [] attributes) in
          ap (λ (z : Forest). Node id content z (nodes_view side.numbers whole above given one up (i + 1) rest)) inside
          ∙ ap (λ (z : Forest). Node id content (nodes_view side.numbers whole above given two (up ++ i ∷ []) 0 children) z) later
      row_same (text_node text rest) up i agree =
          ap (λ (z : Forest). Node (number_at side.numbers (place_in whole above up i) a_static_text) (DocText text) Empty z) (row_same rest up (i + 1) (λ q c e. agree q c (inr e)))
      row_same (slot_node k rest) up i agree =
          let q0 : Place = place_in whole above up i in
          let xs : List (Spot K) = of k q0 in
          let ys : List (Spot K) = node_spots whole above of up (i + 1) rest in
          ap (λ (z : Forest). join_rows z (nodes_view side.numbers whole above given one up (i + 1) rest)) (same k q0 (λ q c e. agree q c (among_left xs ys (component_at q c) e)))
          ∙ ap (λ (z : Forest). join_rows (two k q0) z) (row_same rest up (i + 1) (λ q c e. agree q c (among_right xs ys (component_at q c) e)))

    mutual
      pub tree_same : (above : Place) (tree : Tree K) → Agree (spots above tree) → tree_view side f above tree ≡ tree_view side g above tree
      tree_same above (block template attributes slots) agree =
          row_same template above attributes (λ k q. slots_view side f slots k q) (λ k q. slots_view side g slots k q) (λ k q. slots_spots slots k q) (λ k q a. slots_same slots k q a) template.roots [] 0 agree

      slots_same : (slots : Slots K) (k : ℕ) (q : Place) → Agree (slots_spots slots k q) → slots_view side f slots k q ≡ slots_view side g slots k q
      slots_same no_slots k q agree = refl
      slots_same (more_slots v rest) zero q agree = slot_same v q agree
      slots_same (more_slots v rest) (suc k) q agree = slots_same rest k q agree

      slot_same : (v : Slot K) (q : Place) → Agree (slot_spots v q) → slot_view side f v q ≡ slot_view side g v q
      slot_same (text_slot text) q agree = refl
      slot_same placeholder_slot q agree = refl
      slot_same (component_slot c) q agree = agree q c (inl refl)
      slot_same (fragment_slot no_trees) q agree = refl
      slot_same (fragment_slot (more_trees t ts)) q agree = items_same (more_trees t ts) 0 q agree

      items_same : (ts : Trees K) (i : ℕ) (q : Place) → Agree (item_spots i q ts) → items_view side f i q ts ≡ items_view side g i q ts
      items_same no_trees i q agree = refl
      items_same (more_trees t ts) i q agree =
          let xs : List (Spot K) = spots (q ++ item i ∷ []) t in
          let ys : List (Spot K) = item_spots (i + 1) q ts in
          ap (λ (z : Forest). join_rows z (items_view side f (i + 1) q ts)) (tree_same (q ++ item i ∷ []) t (λ p c e. agree p c (among_left xs ys (component_at p c) e)))
          ∙ ap (λ (z : Forest). join_rows (tree_view side g (q ++ item i ∷ []) t) z) (items_same ts (i + 1) q (λ p c e. agree p c (among_right xs ys (component_at p c) e)))

    module _ (place : Place) (own : VComponent K) (u : ℕ) (kid : child_at side.children place ≡ Some u) where
      -- but at the one place
      abbrev AgreeElse : List (Spot K) → Type 0
      AgreeElse ss = (q : Place) (d : VComponent K) → Among ss (component_at q d) → (q ≡ place → ⊥) → child_view f (child_at side.children q) ≡ child_view g (child_at side.children q)

      abbrev There : Forest → Forest → Type 0
      There a b = InSetting a b (f u) (g u)

      -- a part in which the place isn't
      agree_left : (xs ys : List (Spot K)) → Distinct (xs ++ ys) → Among ys (component_at place own) → AgreeElse (xs ++ ys) → Agree xs
      agree_left xs ys d h agree q c e = agree q c (among_left xs ys (component_at q c) e) (λ same. parts_apart xs ys (component_at q c) (component_at place own) d e h same)

      agree_right : (xs ys : List (Spot K)) → Distinct (xs ++ ys) → Among xs (component_at place own) → AgreeElse (xs ++ ys) → Agree ys
      agree_right xs ys d h agree q c e = agree q c (among_right xs ys (component_at q c) e) (λ same. parts_apart xs ys (component_at place own) (component_at q c) d h e (sym same))

      else_left : (xs ys : List (Spot K)) → AgreeElse (xs ++ ys) → AgreeElse xs
      else_left xs ys agree q c e = agree q c (among_left xs ys (component_at q c) e)

      else_right : (xs ys : List (Spot K)) → AgreeElse (xs ++ ys) → AgreeElse ys
      else_right xs ys agree q c e = agree q c (among_right xs ys (component_at q c) e)

      distinct_left : (xs ys : List (Spot K)) → Distinct (xs ++ ys) → Distinct xs
      distinct_left [] ys d = tt
      distinct_left (x ∷ xs) ys d = (all_left xs ys d.0, distinct_left xs ys d.1)
        where
          all_left : (xs ys : List (Spot K)) → All (λ (i : Spot K). Apart x i) (xs ++ ys) → All (λ (i : Spot K). Apart x i) xs
          all_left xs ys h = All-from_recursion (λ (i : Spot K). Apart x i) xs (every_of (λ (i : Spot K). Apart x i) xs (λ e g. all_among (λ (i : Spot K). Apart x i) (xs ++ ys) e h (among_left xs ys e g)))

      distinct_right : (xs ys : List (Spot K)) → Distinct (xs ++ ys) → Distinct ys
      distinct_right [] ys d = d
      distinct_right (x ∷ xs) ys d = distinct_right xs ys d.1

      module _ (whole : Template) (above : Place) (given : List (List (Attribute K))) (one two : ℕ → Place → Forest) (of : ℕ → Place → List (Spot K)) (same : (k : ℕ) (q : Place) → Agree (of k q) → one k q ≡ two k q) where
        module _ (set : (k : ℕ) (q : Place) → Distinct (of k q) → AgreeElse (of k q) → Among (of k q) (component_at place own) → There (one k q) (two k q)) where
          row_set : (nodes : TemplateNodes) (up : List ℕ) (i : ℕ) → Distinct (node_spots whole above of up i nodes) → AgreeElse (node_spots whole above of up i nodes) → Among (node_spots whole above of up i nodes) (component_at place own)
              → There (nodes_view side.numbers whole above given one up i nodes) (nodes_view side.numbers whole above given two up i nodes)
          row_set no_nodes up i d agree h = absurd h
          row_set (element_node tag namespace attributes children rest) up i d agree (inl h) = cc
          row_set (element_node tag namespace attributes children rest) up i d agree (inr h) =
              let xs : List (Spot K) = node_spots whole above of (up ++ i ∷ []) 0 children in
              let ys : List (Spot K) = node_spots whole above of up (i + 1) rest in
              by_part d.1 (λ q c e. agree q c (inr e)) (row_set children (up ++ i ∷ []) 0 (distinct_left xs ys d.1) (λ q c e. agree q c (inr (among_left xs ys (component_at q c) e))))
              (row_set rest up (i + 1) (distinct_right xs ys d.1) (λ q c e. agree q c (inr (among_right xs ys (component_at q c) e)))) (among_either xs ys (component_at place own) h)
            where
              by_part : Distinct (node_spots whole above of (up ++ i ∷ []) 0 children ++ node_spots whole above of up (i + 1) rest)
                  → AgreeElse (node_spots whole above of (up ++ i ∷ []) 0 children ++ node_spots whole above of up (i + 1) rest)
                  → (Among (node_spots whole above of (up ++ i ∷ []) 0 children) (component_at place own) → There (nodes_view side.numbers whole above given one (up ++ i ∷ []) 0 children) (nodes_view side.numbers whole above given two (up ++ i ∷ []) 0 children))
                  → (Among (node_spots whole above of up (i + 1) rest) (component_at place own) → There (nodes_view side.numbers whole above given one up (i + 1) rest) (nodes_view side.numbers whole above given two up (i + 1) rest))
                  → Among (node_spots whole above of (up ++ i ∷ []) 0 children) (component_at place own) ⊎ Among (node_spots whole above of up (i + 1) rest) (component_at place own)
                  → There (nodes_view side.numbers whole above given one up i (element_node tag namespace attributes children rest)) (nodes_view side.numbers whole above given two up i (element_node tag namespace attributes children rest))
              by_part all else_all go on (inl e) =
                  let xs : List (Spot K) = node_spots whole above of (up ++ i ∷ []) 0 children in
                  let ys : List (Spot K) = node_spots whole above of up (i + 1) rest in
                  let id : ℕ = number_at side.numbers (place_in whole above up i) an_element in
                  let content = DocElement tag namespace (element_attributes given [] attributes) (element_listeners given [] attributes) in
                  let a : Forest = nodes_view side.numbers whole above given one (up ++ i ∷ []) 0 children in
                  let b : Forest = nodes_view side.numbers whole above given two (up ++ i ∷ []) 0 children in
                  in_row (Node id content a Empty) (Node id content b Empty) (nodes_view side.numbers whole above given one up (i + 1) rest) (nodes_view side.numbers whole above given two up (i + 1) rest) (f u) (g u)
                  (in_more (Within id content Alone) a b (f u) (g u) (go e)) (row_same whole above given one two of same rest up (i + 1) (agree_right xs ys all e else_all))
              by_part all else_all go on (inr e) =
                  let xs : List (Spot K) = node_spots whole above of (up ++ i ∷ []) 0 children in
                  let ys : List (Spot K) = node_spots whole above of up (i + 1) rest in
                  let id : ℕ = number_at side.numbers (place_in whole above up i) an_element in
                  let content = DocElement tag namespace (element_attributes given [] attributes) (element_listeners given [] attributes) in
                  let a : Forest = nodes_view side.numbers whole above given one (up ++ i ∷ []) 0 children in
                  let b : Forest = nodes_view side.numbers whole above given two (up ++ i ∷ []) 0 children in
                  in_rest (Node id content a Empty) (Node id content b Empty) (nodes_view side.numbers whole above given one up (i + 1) rest) (nodes_view side.numbers whole above given two up (i + 1) rest) (f u) (g u)
                  (ap (λ (z : Forest). Node id content z Empty) (row_same whole above given one two of same children (up ++ i ∷ []) 0 (agree_left xs ys all e else_all))) (on e)
          row_set (text_node text rest) up i d agree (inl h) = cc
          row_set (text_node text rest) up i d agree (inr h) =
              let id : ℕ = number_at side.numbers (place_in whole above up i) a_static_text in
              in_rest (Node id (DocText text) Empty Empty) (Node id (DocText text) Empty Empty) (nodes_view side.numbers whole above given one up (i + 1) rest) (nodes_view side.numbers whole above given two up (i + 1) rest) (f u) (g u)
              refl (row_set rest up (i + 1) d.1 (λ q c e. agree q c (inr e)) h)
          row_set (slot_node k rest) up i d agree h =
              let q0 : Place = place_in whole above up i in
              let xs : List (Spot K) = of k q0 in
              let ys : List (Spot K) = node_spots whole above of up (i + 1) rest in
              let a : Forest = nodes_view side.numbers whole above given one up (i + 1) rest in
              let b : Forest = nodes_view side.numbers whole above given two up (i + 1) rest in
              by_part (row_set rest up (i + 1) (distinct_right xs ys d) (else_right xs ys agree)) (among_either xs ys (component_at place own) h)
            where
              by_part : (Among (node_spots whole above of up (i + 1) rest) (component_at place own) → There (nodes_view side.numbers whole above given one up (i + 1) rest) (nodes_view side.numbers whole above given two up (i + 1) rest))
                  → Among (of k (place_in whole above up i)) (component_at place own) ⊎ Among (node_spots whole above of up (i + 1) rest) (component_at place own)
                  → There (nodes_view side.numbers whole above given one up i (slot_node k rest)) (nodes_view side.numbers whole above given two up i (slot_node k rest))
              by_part on (inl e) =
                  let q0 : Place = place_in whole above up i in
                  let xs : List (Spot K) = of k q0 in
                  let ys : List (Spot K) = node_spots whole above of up (i + 1) rest in
                  in_row (one k q0) (two k q0) (nodes_view side.numbers whole above given one up (i + 1) rest) (nodes_view side.numbers whole above given two up (i + 1) rest) (f u) (g u)
                  (set k q0 (distinct_left xs ys d) (else_left xs ys agree) e) (row_same whole above given one two of same rest up (i + 1) (agree_right xs ys d e agree))
              by_part on (inr e) =
                  let q0 : Place = place_in whole above up i in
                  let xs : List (Spot K) = of k q0 in
                  let ys : List (Spot K) = node_spots whole above of up (i + 1) rest in
                  in_rest (one k q0) (two k q0) (nodes_view side.numbers whole above given one up (i + 1) rest) (nodes_view side.numbers whole above given two up (i + 1) rest) (f u) (g u)
                  (same k q0 (agree_left xs ys d e agree)) (on e)

      items_by : (t : Tree K) (ts : Trees K) (i : ℕ) (q : Place) → Distinct (spots (q ++ item i ∷ []) t ++ item_spots (i + 1) q ts) → AgreeElse (spots (q ++ item i ∷ []) t ++ item_spots (i + 1) q ts)
          → (Among (spots (q ++ item i ∷ []) t) (component_at place own) → There (tree_view side f (q ++ item i ∷ []) t) (tree_view side g (q ++ item i ∷ []) t))
          → (Among (item_spots (i + 1) q ts) (component_at place own) → There (items_view side f (i + 1) q ts) (items_view side g (i + 1) q ts))
          → Among (spots (q ++ item i ∷ []) t) (component_at place own) ⊎ Among (item_spots (i + 1) q ts) (component_at place own)
          → There (items_view side f i q (more_trees t ts)) (items_view side g i q (more_trees t ts))
      items_by t ts i q d agree go on (inl e) =
          let xs : List (Spot K) = spots (q ++ item i ∷ []) t in
          let ys : List (Spot K) = item_spots (i + 1) q ts in
          in_row (tree_view side f (q ++ item i ∷ []) t) (tree_view side g (q ++ item i ∷ []) t) (items_view side f (i + 1) q ts) (items_view side g (i + 1) q ts) (f u) (g u) (go e) (items_same ts (i + 1) q (agree_right xs ys d e agree))
      items_by t ts i q d agree go on (inr e) =
          let xs : List (Spot K) = spots (q ++ item i ∷ []) t in
          let ys : List (Spot K) = item_spots (i + 1) q ts in
          in_rest (tree_view side f (q ++ item i ∷ []) t) (tree_view side g (q ++ item i ∷ []) t) (items_view side f (i + 1) q ts) (items_view side g (i + 1) q ts) (f u) (g u) (tree_same (q ++ item i ∷ []) t (agree_left xs ys d e agree)) (on e)

      mutual
        tree_set : (above : Place) (tree : Tree K) → Distinct (spots above tree) → AgreeElse (spots above tree) → Among (spots above tree) (component_at place own) → There (tree_view side f above tree) (tree_view side g above tree)
        tree_set above (block template attributes slots) d agree h =
            row_set template above attributes (λ k q. slots_view side f slots k q) (λ k q. slots_view side g slots k q) (λ k q. slots_spots slots k q) (λ k q a. slots_same slots k q a) (λ k q e a i. slots_set slots k q e a i) template.roots [] 0 d agree h

        slots_set : (slots : Slots K) (k : ℕ) (q : Place) → Distinct (slots_spots slots k q) → AgreeElse (slots_spots slots k q) → Among (slots_spots slots k q) (component_at place own) → There (slots_view side f slots k q) (slots_view side g slots k q)
        slots_set no_slots k q d agree h = absurd h
        slots_set (more_slots v rest) zero q d agree h = slot_set v q d agree h
        slots_set (more_slots v rest) (suc k) q d agree h = slots_set rest k q d agree h

        slot_set : (v : Slot K) (q : Place) → Distinct (slot_spots v q) → AgreeElse (slot_spots v q) → Among (slot_spots v q) (component_at place own) → There (slot_view side f v q) (slot_view side g v q)
        slot_set (text_slot text) q d agree (inl h) = cc
        slot_set (text_slot text) q d agree (inr h) = absurd h
        slot_set placeholder_slot q d agree (inl h) = cc
        slot_set placeholder_slot q d agree (inr h) = absurd h
        slot_set (component_slot c) q d agree (inl h) =
            let same : q ≡ place = ap (λ (i : Spot K). place_of i) h in
            let here : child_at side.children q ≡ Some u = ap (λ (i : Place). child_at side.children i) same ∙ kid in
            record { setting = Alone; one = ap (λ (o : Option ℕ). child_view f o) here; two = ap (λ (o : Option ℕ). child_view g o) here }
        slot_set (component_slot c) q d agree (inr h) = absurd h
        slot_set (fragment_slot no_trees) q d agree (inl h) = cc
        slot_set (fragment_slot no_trees) q d agree (inr h) = absurd h
        slot_set (fragment_slot (more_trees t ts)) q d agree h = items_set (more_trees t ts) 0 q d agree h

        items_set : (ts : Trees K) (i : ℕ) (q : Place) → Distinct (item_spots i q ts) → AgreeElse (item_spots i q ts) → Among (item_spots i q ts) (component_at place own) → There (items_view side f i q ts) (items_view side g i q ts)
        items_set no_trees i q d agree h = absurd h
        items_set (more_trees t ts) i q d agree h =
            let xs : List (Spot K) = spots (q ++ item i ∷ []) t in
            let ys : List (Spot K) = item_spots (i + 1) q ts in
            items_by t ts i q d agree (λ e. tree_set (q ++ item i ∷ []) t (distinct_left xs ys d) (else_left xs ys agree) e) (λ e. items_set ts (i + 1) q (distinct_right xs ys d) (else_right xs ys agree) e)
            (among_either xs ys (component_at place own) h)

      -- so the nodes of the one child stand in one setting in both
      pub tree_setting : (tree : Tree K) → AgreeElse (spots [] tree) → Among (spots [] tree) (component_at place own) → There (tree_view side f [] tree) (tree_view side g [] tree)
      tree_setting tree agree h = tree_set [] tree (spots_distinct [] tree) agree h
