-- Two outputs meet where common nodes keep their numbers, fed children are the same scopes, and components show nodes.
use Rattle.std.proofs.Common.{ℕ, zero, suc, ◌+◌, Bool, true, false, ◌&&◌, List, [], ◌∷◌, ◌++◌, ◌≡◌, inl, inr, refl, sym, ap, ◌∙◌, subst, arith, nat_eq, length}
use Rattle.std.specs.Prelude.{nat_le}
use Rattle.std.proofs.lemmas.Bool.{eqb-true}
use Rattle.rt_model.specs.Tree.{Types, TemplateNodes, no_nodes, element_node, text_node, slot_node, Template, same_template, Attribute, Tree, block, Slots, no_slots, more_slots, Slot, text_slot, placeholder_slot, component_slot, fragment_slot, Trees, no_trees, more_trees, VComponent, Place, item, Kind, an_element, a_static_text, a_text, a_placeholder, an_empty_fragment, Spot, node_at, component_at, place_in, node_spots, spots, slots_spots, slot_spots, item_spots}
use Rattle.rt_model.specs.World.{Application}
use Rattle.rt_model.specs.Values.{is_same_component}
use Rattle.rt_model.specs.Fits.{row_length, all_once, element_names, slot_count, nodes_fit, fits_at, slots_fit, slot_fits, items_fit}
use Rattle.rt_model.specs.Run.{child_at}
use Rattle.rt_model.specs.Heard.{number_at}
use Rattle.rt_model.specs.Caused.{Both}
use Rattle.rt_model.proofs.Among.{Among, among_left, among_right}
use Rattle.rt_model.proofs.SamePlaces.{template-true}
use Rattle.rt_model.proofs.Conjunctions.{and-left, and-right}
use Rattle.law_moves.specs.Meets.{AttributesBring, NodesMeet, ChildMeets, TreeMeets, SlotsMeet, SlotMeets, ItemsMeet}
use Rattle.law_headline.specs.Fitting.{FittingBring}
use Rattle.law_headline.proofs.Nodes.{parts_of, Rows, tree_node, slot_node_is}

and_three : (a b c : Bool) → a && b && c ≡ true → (a ≡ true) × (b ≡ true) × (c ≡ true)
and_three true true true h = (refl, refl, refl)
and_three true true false h = cc
and_three true false c h = cc
and_three false b c h = cc

and_five : (a b c d e : Bool) → a && b && c && d && e ≡ true → (d ≡ true) × (e ≡ true)
and_five true true true true true h = (refl, refl)
and_five true true true true false h = cc
and_five true true true false e h = cc
and_five true true false d e h = cc
and_five true false c d e h = cc
and_five false b c d e h = cc

module _ {K : Types} where
  -- all of a list is among another one
  abbrev pub Within : List (Spot K) → List (Spot K) → Type 0
  Within xs ys = (e : Spot K) → Among xs e → Among ys e

  count_same : (ys xs : Slots K) (n : ℕ) → nat_eq (slot_count ys) n ≡ true → nat_eq (slot_count xs) n ≡ true → slot_count ys ≡ slot_count xs
  count_same ys xs n g h = eqb-true (slot_count ys) n g ∙ sym (eqb-true (slot_count xs) n h)

module _ {K : Types} (app : Application K) (bring : FittingBring K) (b : Both K) (child : ℕ → Type 0) where
  -- what is known of the spots of two outputs
  pub record Linked (ys xs : List (Spot K)) : Type 0 where
    -- a node of both keeps its number
    pub nodes : (p : Place) (k : Kind) → Among ys (node_at p k) → Among xs (node_at p k) → number_at b.new.numbers p k ≡ number_at b.old.numbers p k
    -- a component that is fed keeps its child scope
    pub fed :
        (p : Place) (c d : VComponent K) → Among ys (component_at p c) → Among xs (component_at p d) → is_same_component app d c ≡ true
        → (child_at b.new.children p ≡ child_at b.old.children p) × ChildMeets app b child (child_at b.old.children p)
    -- components show nodes
    pub old_rows : Rows b.old b.old_child xs
    pub new_rows : Rows b.new b.new_child ys

  linked_within : (ys xs us vs : List (Spot K)) → Within us ys → Within vs xs → Linked ys xs → Linked us vs
  linked_within ys xs us vs f g h =
      record {
        nodes = λ p k i j. h.nodes p k (f (node_at p k) i) (g (node_at p k) j);
        fed = λ p c d i j. h.fed p c d (f (component_at p c) i) (g (component_at p d) j);
        old_rows = λ p c i. h.old_rows p c (g (component_at p c) i);
        new_rows = λ p c i. h.new_rows p c (f (component_at p c) i);
      }

  -- the rows of a matched template, through its nodes
  nodes_meet : (above : Place) (whole : Template) (given others : List (List (Attribute K))) (slots olds : Slots K)
      → ((k : ℕ) (place : Place) (m n : ℕ) → slots_fit slots k m ≡ true → slots_fit olds k n ≡ true → Linked (slots_spots slots k place) (slots_spots olds k place) → SlotsMeet app b child slots olds k place)
      → (nodes : TemplateNodes) (up : List ℕ) (n i j : ℕ) → nodes_fit given (λ k below. slots_fit slots k below) i nodes ≡ true → nodes_fit others (λ k below. slots_fit olds k below) j nodes ≡ true
      → Linked (node_spots whole above (λ k place. slots_spots slots k place) up n nodes) (node_spots whole above (λ k place. slots_spots olds k place) up n nodes)
      → NodesMeet b.old.numbers b.new.numbers whole above (λ k place. SlotsMeet app b child slots olds k place) up n nodes
  nodes_meet above whole given others slots olds go no_nodes up n i j fi fj h = tt
  nodes_meet above whole given others slots olds go (element_node tag namespace attributes children rest) up n i j fi fj h =
      let ys : List (Spot K) = node_spots whole above (λ k place. slots_spots slots k place) (up ++ n ∷ []) 0 children in
      let zs : List (Spot K) = node_spots whole above (λ k place. slots_spots slots k place) up (n + 1) rest in
      let us : List (Spot K) = node_spots whole above (λ k place. slots_spots olds k place) (up ++ n ∷ []) 0 children in
      let vs : List (Spot K) = node_spots whole above (λ k place. slots_spots olds k place) up (n + 1) rest in
      let own : Spot K = node_at (place_in whole above up n) an_element in
      let fit = and_five (nat_le i 128) (nat_le (row_length children) 256) (all_once (element_names given attributes)) (nodes_fit given (λ k below. slots_fit slots k below) (i + 1) children) (nodes_fit given (λ k below. slots_fit slots k below) i rest) fi in
      let old = and_five (nat_le j 128) (nat_le (row_length children) 256) (all_once (element_names others attributes)) (nodes_fit others (λ k below. slots_fit olds k below) (j + 1) children) (nodes_fit others (λ k below. slots_fit olds k below) j rest) fj in (
        h.nodes (place_in whole above up n) an_element (inl refl) (inl refl),
        nodes_meet above whole given others slots olds go children (up ++ n ∷ []) 0 (i + 1) (j + 1) fit.0 old.0
            (linked_within (own ∷ (ys ++ zs)) (own ∷ (us ++ vs)) ys us (λ e g. inr (among_left ys zs e g)) (λ e g. inr (among_left us vs e g)) h),
        nodes_meet above whole given others slots olds go rest up (n + 1) i j fit.1 old.1
            (linked_within (own ∷ (ys ++ zs)) (own ∷ (us ++ vs)) zs vs (λ e g. inr (among_right ys zs e g)) (λ e g. inr (among_right us vs e g)) h),
      )
  nodes_meet above whole given others slots olds go (text_node text rest) up n i j fi fj h =
      let zs : List (Spot K) = node_spots whole above (λ k place. slots_spots slots k place) up (n + 1) rest in
      let vs : List (Spot K) = node_spots whole above (λ k place. slots_spots olds k place) up (n + 1) rest in
      let own : Spot K = node_at (place_in whole above up n) a_static_text in (
        h.nodes (place_in whole above up n) a_static_text (inl refl) (inl refl),
        nodes_meet above whole given others slots olds go rest up (n + 1) i j
            (and-right (nat_le i 128) (nodes_fit given (λ k below. slots_fit slots k below) i rest) fi)
            (and-right (nat_le j 128) (nodes_fit others (λ k below. slots_fit olds k below) j rest) fj)
            (linked_within (own ∷ zs) (own ∷ vs) zs vs (λ e g. inr g) (λ e g. inr g) h),
      )
  nodes_meet above whole given others slots olds go (slot_node k rest) up n i j fi fj h =
      let place : Place = place_in whole above up n in
      let ys : List (Spot K) = slots_spots slots k place in
      let zs : List (Spot K) = node_spots whole above (λ m q. slots_spots slots m q) up (n + 1) rest in
      let us : List (Spot K) = slots_spots olds k place in
      let vs : List (Spot K) = node_spots whole above (λ m q. slots_spots olds m q) up (n + 1) rest in
      let fit = and_three (nat_le i 128) (slots_fit slots k (i + 1)) (nodes_fit given (λ m below. slots_fit slots m below) i rest) fi in
      let old = and_three (nat_le j 128) (slots_fit olds k (j + 1)) (nodes_fit others (λ m below. slots_fit olds m below) j rest) fj in (
        go k place (i + 1) (j + 1) fit.1 old.1 (linked_within (ys ++ zs) (us ++ vs) ys us (λ e g. among_left ys zs e g) (λ e g. among_left us vs e g) h),
        nodes_meet above whole given others slots olds go rest up (n + 1) i j fit.2 old.2
            (linked_within (ys ++ zs) (us ++ vs) zs vs (λ e g. among_right ys zs e g) (λ e g. among_right us vs e g) h),
      )

  -- a template that both have
  matched : (above : Place) (template other : Template) (given others : List (List (Attribute K))) (slots olds : Slots K) (i j : ℕ) → fits_at (block template given slots) i ≡ true → fits_at (block other others olds) j ≡ true
      → Linked (spots above (block template given slots)) (spots above (block other others olds))
      → ((k : ℕ) (place : Place) (m n : ℕ) → slot_count slots ≡ slot_count olds → slots_fit slots k m ≡ true → slots_fit olds k n ≡ true → Linked (slots_spots slots k place) (slots_spots olds k place) → SlotsMeet app b child slots olds k place)
      → same_template template other ≡ true → template ≡ other
      → AttributesBring b.old.numbers above template given others × NodesMeet b.old.numbers b.new.numbers template above (λ k place. SlotsMeet app b child slots olds k place) [] 0 template.roots
  matched above template other given others slots olds i j fy fx h go e same =
      let py = parts_of template given slots i fy in
      let px = parts_of other others olds j fx in
      let old_fit : nodes_fit others (λ k below. slots_fit olds k below) j template.roots ≡ true = ap (λ (t : Template). nodes_fit others (λ k below. slots_fit olds k below) j t.roots) same ∙ px.nodes in
      let old_count : nat_eq (slot_count olds) (length template.node_paths) ≡ true = ap (λ (t : Template). nat_eq (slot_count olds) (length t.node_paths)) same ∙ px.count in
      let counts : slot_count slots ≡ slot_count olds = count_same slots olds (length template.node_paths) py.count old_count in
      let back : Within (node_spots template above (λ k place. slots_spots olds k place) [] 0 template.roots) (spots above (block other others olds)) =
      λ s g. subst (λ (t : Template). Among (node_spots t above (λ k place. slots_spots olds k place) [] 0 t.roots) s) same g in (
        bring b.old.numbers above (block template given slots) (block other others olds) i j e fy fx,
        nodes_meet above template given others slots olds (λ k place m n fi fj l. go k place m n counts fi fj l) template.roots [] 0 i j py.nodes old_fit
            (linked_within (spots above (block template given slots)) (spots above (block other others olds)) (spots above (block template given slots)) (node_spots template above (λ k place. slots_spots olds k place) [] 0 template.roots)
            (λ s g. g) back h),
      )

  mutual
    -- so trees meet
    pub tree_meets : (above : Place) (y x : Tree K) (i j : ℕ) → fits_at y i ≡ true → fits_at x j ≡ true → Linked (spots above y) (spots above x) → TreeMeets app b child above y x
    tree_meets above (block template given slots) (block other others olds) i j fy fx h = (
      λ e. matched above template other given others slots olds i j fy fx h (λ k place m n counts fi fj l. slots_meet slots olds k place m n counts fi fj l) e (template-true template other e),
      λ e. tree_node b.old b.old_child above (block other others olds) j fx h.old_rows,
    )

    slots_meet : (ys xs : Slots K) (k : ℕ) (place : Place) (i j : ℕ) → slot_count ys ≡ slot_count xs → slots_fit ys k i ≡ true → slots_fit xs k j ≡ true → Linked (slots_spots ys k place) (slots_spots xs k place) → SlotsMeet app b child ys xs k place
    slots_meet no_slots no_slots k place i j counts fi fj h = tt
    slots_meet no_slots (more_slots u others) k place i j counts fi fj h = absurd (omega (arith, counts))
    slots_meet (more_slots v rest) no_slots k place i j counts fi fj h = absurd (omega (arith, counts))
    slots_meet (more_slots v rest) (more_slots u others) zero place i j counts fi fj h = slot_meets place v u i j fi fj h
    slots_meet (more_slots v rest) (more_slots u others) (suc k) place i j counts fi fj h =
        let less : slot_count rest ≡ slot_count others = omega (arith, counts) in
        slots_meet rest others k place i j less fi fj h

    slot_meets : (place : Place) (y x : Slot K) (i j : ℕ) → slot_fits y i ≡ true → slot_fits x j ≡ true → Linked (slot_spots y place) (slot_spots x place) → SlotMeets app b child place y x
    slot_meets place (text_slot t) (text_slot u) i j fi fj h = h.nodes place a_text (inl refl) (inl refl)
    slot_meets place placeholder_slot placeholder_slot i j fi fj h = h.nodes place a_placeholder (inl refl) (inl refl)
    slot_meets place (component_slot c) (component_slot d) i j fi fj h =
        (λ e. h.fed place c d (inl refl) (inl refl) e, λ e. slot_node_is b.old b.old_child (component_slot d) place j fj h.old_rows)
    slot_meets place (fragment_slot no_trees) (fragment_slot no_trees) i j fi fj h = h.nodes place an_empty_fragment (inl refl) (inl refl)
    slot_meets place (fragment_slot (more_trees y ys)) (fragment_slot (more_trees x xs)) i j fi fj h = items_meet place 0 (more_trees y ys) (more_trees x xs) i j fi fj h
    slot_meets place y x i j fi fj h = slot_node_is b.old b.old_child x place j fj h.old_rows

    items_meet : (place : Place) (n : ℕ) (ys xs : Trees K) (i j : ℕ) → items_fit ys i ≡ true → items_fit xs j ≡ true → Linked (item_spots n place ys) (item_spots n place xs) → ItemsMeet app b child place n ys xs
    items_meet place n no_trees xs i j fi fj h = tt
    items_meet place n (more_trees y ys) no_trees i j fi fj h = tt
    items_meet place n (more_trees y ys) (more_trees x xs) i j fi fj h =
        let us : List (Spot K) = spots (place ++ item n ∷ []) y in
        let vs : List (Spot K) = item_spots (n + 1) place ys in
        let ws : List (Spot K) = spots (place ++ item n ∷ []) x in
        let zs : List (Spot K) = item_spots (n + 1) place xs in
        let first : Linked us ws = linked_within (us ++ vs) (ws ++ zs) us ws (λ e g. among_left us vs e g) (λ e g. among_left ws zs e g) h in (
          tree_meets (place ++ item n ∷ []) y x i j (and-left (fits_at y i) (items_fit ys i) fi) (and-left (fits_at x j) (items_fit xs j) fj) first,
          tree_node b.new b.new_child (place ++ item n ∷ []) y i (and-left (fits_at y i) (items_fit ys i) fi) first.new_rows,
          items_meet place (n + 1) ys xs i j (and-right (fits_at y i) (items_fit ys i) fi) (and-right (fits_at x j) (items_fit xs j) fj)
              (linked_within (us ++ vs) (ws ++ zs) vs zs (λ e g. among_right us vs e g) (λ e g. among_right ws zs e g) h),
        )
