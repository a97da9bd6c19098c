-- Where no work is open each live scope shows a node.
use Rattle.std.proofs.Common.{ℕ, zero, suc, ◌+◌, ◌≤◌, Bool, true, false, ◌&&◌, List, [], ◌∷◌, ◌++◌, ◌≡◌, inl, inr, refl, sym, ap, ◌∙◌, subst, arith, nat_eq, length}
use Rattle.std.specs.Prelude.{Option, Some, None, is_some, nat_lt, nat_le}
use Rattle.std.proofs.lemmas.Bool.{eqb-true}
use Rattle.rt_model.specs.Lists.{at, same_numbers, same_list}
use Rattle.rt_model.specs.Tree.{Types, TemplateNodes, no_nodes, element_node, text_node, slot_node, Template, Attribute, Tree, block, Slots, no_slots, more_slots, Slot, text_slot, placeholder_slot, component_slot, fragment_slot, no_trees, more_trees, VComponent, Place, item, Spot, component_at, place_in, node_spots, spots, slots_spots, slot_spots, item_spots, node_slots, attribute_slots, paths_of}
use Rattle.rt_model.specs.Fits.{counts_from, row_length, slot_count, template_fits, all_plain, nodes_fit, fits_at, slots_fit, slot_fits, items_fit}
use Rattle.rt_model.specs.State.{SideName, MainSide, ChildrenSide, FallbackSide, Side, Scope, State, side_of}
use Rattle.rt_model.specs.Run.{child_at, spots_of}
use Rattle.rt_model.specs.Document.{Forest, Empty, Node, join_rows}
use Rattle.rt_model.specs.View.{child_view, nodes_view, tree_view, slots_view, slot_view, items_view, side_view, scope_view, nodes_of}
use Rattle.rt_model.proofs.Among.{Among, among_left}
use Rattle.rt_model.proofs.Conjunctions.{and-left}
use Rattle.rt_model.proofs.NumbersStand.{child_among}
use Rattle.rt_model.proofs.WellNumbered.{FitsBelow}
use Rattle.law_moves.proofs.Twigs.{slots, side_found, found_live}
use Rattle.law_moves.proofs.Woven.{idle_whole}
use Rattle.law_moves.specs.Trees.{IsTree}
use Rattle.law_moves.specs.Meets.{HasNode}
use Rattle.law_headline.proofs.Heights.{height_low}
use Rattle.law_headline.proofs.Unfolding.{tree_unfolds}
use Rattle.law_moves.specs.Trees.{HasChild}
use Rattle.law_headline.proofs.Steps.{Ready}
use Rattle.law_headline.proofs.Trees.{Topped}
use Rattle.law_headline.proofs.Dressed.{Dressed}
use Rattle.law_headline.proofs.Clothed.{Clothed}

pub joined_node : (f g : Forest) → HasNode f → HasNode (join_rows f g)
joined_node f g h =
    record { id = h.id; content = h.content; children = h.children; rest = join_rows h.rest g; is = ap (λ (z : Forest). join_rows z g) h.is }

pub a_node : (f : Forest) → {id : ℕ} → {content : _} → {children rest : Forest} → f ≡ Node id content children rest → HasNode f
a_node f {id} {content} {children} {rest} e = record { id = id; content = content; children = children; rest = rest; is = e }

no_paths : (xs : List (List ℕ)) (p : List ℕ) (ps : List (List ℕ)) → same_list same_numbers (p ∷ ps) xs ≡ true → (n : ℕ) → nat_eq n (length xs) ≡ true → n ≡ 0 → ⊥
no_paths [] p ps h n e z = cc
no_paths (x ∷ xs) p ps h n e z = let same : n ≡ length (x ∷ xs) = eqb-true n (length (x ∷ xs)) e in omega (arith, same, z)

first_number : (t : Template) (k : ℕ) (rest : TemplateNodes) → t.roots ≡ slot_node k rest → template_fits t ≡ true → (k ≡ 0) × ((p : List ℕ) × (ps : List (List ℕ)) × (same_list same_numbers (p ∷ ps) t.node_paths ≡ true))
first_number t k rest is h = by_and (nat_lt 0 (row_length t.roots)) (nat_le (row_length t.roots) 256) (counts_from 0 (node_slots [] 0 t.roots)) (counts_from 0 (attribute_slots [] 0 t.roots))
    (same_list same_numbers (paths_of (node_slots [] 0 t.roots)) t.node_paths) (same_list same_numbers (paths_of (attribute_slots [] 0 t.roots)) t.attribute_paths) h refl refl
  where
    by_and : (a b c d e f : Bool) → a && b && c && d && e && f ≡ true → counts_from 0 (node_slots [] 0 t.roots) ≡ c → same_list same_numbers (paths_of (node_slots [] 0 t.roots)) t.node_paths ≡ e
        → (k ≡ 0) × ((p : List ℕ) × (ps : List (List ℕ)) × (same_list same_numbers (p ∷ ps) t.node_paths ≡ true))
    by_and true true true true true f h counts paths =
        let first : nat_eq k 0 && counts_from 1 (node_slots [] 1 rest) ≡ true = sym (ap (λ (z : TemplateNodes). counts_from 0 (node_slots [] 0 z)) is) ∙ counts in
        (eqb-true k 0 (and-left (nat_eq k 0) (counts_from 1 (node_slots [] 1 rest)) first), (0 ∷ [], paths_of (node_slots [] 1 rest), sym (ap (λ (z : TemplateNodes). same_list same_numbers (paths_of (node_slots [] 0 z)) t.node_paths) is) ∙ paths))
    by_and true true true true false f h counts paths = cc
    by_and true true true false e f h counts paths = cc
    by_and true true false d e f h counts paths = cc
    by_and true false c d e f h counts paths = cc
    by_and false b c d e f h counts paths = cc

some_root : (t : Template) → template_fits t ≡ true → t.roots ≡ no_nodes → ⊥
some_root t h is =
    let none : template_fits t ≡ false = ap (λ (z : TemplateNodes). nat_lt 0 (row_length z) && nat_le (row_length z) 256 && counts_from 0 (node_slots [] 0 z) && counts_from 0 (attribute_slots [] 0 z) && same_list same_numbers (paths_of (node_slots [] 0 z)) t.node_paths && same_list same_numbers (paths_of (attribute_slots [] 0 z)) t.attribute_paths) is in
    let absurdity : true ≡ false = sym h ∙ none in
    cc

module _ {K : Types} where
  -- the six parts of the node test of a tree
  pub record Parts (template : Template) (attributes : List (List (Attribute K))) (slots : Slots K) (level : ℕ) : Type 0 where
    pub whole : template_fits template ≡ true
    pub count : nat_eq (slot_count slots) (length template.node_paths) ≡ true
    pub nodes : nodes_fit attributes (λ k below. slots_fit slots k below) level template.roots ≡ true

  pub parts_of : (template : Template) (attributes : List (List (Attribute K))) (slots : Slots K) (level : ℕ) → fits_at (block template attributes slots) level ≡ true → Parts template attributes slots level
  parts_of template attributes slots level h =
      let a = template_fits template in
      let b = nat_eq (slot_count slots) (length template.node_paths) in
      let c = nat_eq (length attributes) (length template.attribute_paths) in
      let d = all_plain attributes in
      let e = nodes_fit attributes (λ k below. slots_fit slots k below) level template.roots in
      let p = by_and a b c d e h in
      record { whole = p.0; count = p.1; nodes = p.2 }
    where
      by_and : (a b c d e : Bool) → a && b && c && d && e ≡ true → (a ≡ true) × (b ≡ true) × (e ≡ true)
      by_and true true true true true h = (refl, refl, refl)
      by_and true true true true false h = cc
      by_and true true true false e h = cc
      by_and true true false d e h = cc
      by_and true false c d e h = cc
      by_and false b c d e h = cc

  -- the components among these spots show nodes
  abbrev pub Rows : Side K → (ℕ → Forest) → List (Spot K) → Type 0
  Rows side inner ss = (p : Place) (c : VComponent K) → Among ss (component_at p c) → HasNode (child_view inner (child_at side.children p))

  module _ (side : Side K) (inner : ℕ → Forest) where
    -- the first slot of a tree's slots shows a node
    abbrev FirstNode : Slots K → Type 0
    FirstNode slots =
        (k : ℕ) (place : Place) (level : ℕ) → k ≡ 0 → (slot_count slots ≡ 0 → ⊥) → slots_fit slots k level ≡ true → Rows side inner (slots_spots slots k place) → HasNode (slots_view side inner slots k place)

    roots_node : (above : Place) (template : Template) (attributes : List (List (Attribute K))) (slots : Slots K) (level : ℕ) → Parts template attributes slots level → Rows side inner (spots above (block template attributes slots))
        → FirstNode slots → (nodes : TemplateNodes) → template.roots ≡ nodes → HasNode (tree_view side inner above (block template attributes slots))
    roots_node above template attributes slots level parts rows go no_nodes is = absurd (some_root template parts.whole is)
    roots_node above template attributes slots level parts rows go (element_node tag namespace given children rest) is =
        a_node (tree_view side inner above (block template attributes slots))
        (ap (λ (z : TemplateNodes). nodes_view side.numbers template above attributes (λ k place. slots_view side inner slots k place) [] 0 z) is)
    roots_node above template attributes slots level parts rows go (text_node text rest) is =
        a_node (tree_view side inner above (block template attributes slots))
        (ap (λ (z : TemplateNodes). nodes_view side.numbers template above attributes (λ k place. slots_view side inner slots k place) [] 0 z) is)
    roots_node above template attributes slots level parts rows go (slot_node k rest) is =
        let first = first_number template k rest is parts.whole in
        let place : Place = place_in template above [] 0 in
        let fit : nodes_fit attributes (λ j below. slots_fit slots j below) level (slot_node k rest) ≡ true = sym (ap (λ (z : TemplateNodes). nodes_fit attributes (λ j below. slots_fit slots j below) level z) is) ∙ parts.nodes in
        let here : slots_fit slots k (level + 1) ≡ true = middle (nat_le level 128) (slots_fit slots k (level + 1)) (nodes_fit attributes (λ j below. slots_fit slots j below) level rest) fit in
        let all : Rows side inner (slots_spots slots k place) =
        λ p c g.
        rows p c
        (subst (λ (z : TemplateNodes). Among (node_spots template above (λ j q. slots_spots slots j q) [] 0 z) (component_at p c)) (sym is)
        (among_left (slots_spots slots k place) (node_spots template above (λ j q. slots_spots slots j q) [] 1 rest) (component_at p c) g)) in
        subst (λ (f : Forest). HasNode f) (sym (ap (λ (z : TemplateNodes). nodes_view side.numbers template above attributes (λ j q. slots_view side inner slots j q) [] 0 z) is))
        (joined_node (slots_view side inner slots k place) (nodes_view side.numbers template above attributes (λ j q. slots_view side inner slots j q) [] 1 rest)
        (go k place (level + 1) first.0 (λ none. no_paths template.node_paths first.1.0 first.1.1 first.1.2 (slot_count slots) parts.count none) here all))
      where
        middle : (a b c : Bool) → a && b && c ≡ true → b ≡ true
        middle true true c h = refl
        middle true false c h = cc
        middle false b c h = cc

    mutual
      -- a tree that passes the node test shows a node, where its components do
      pub tree_node : (above : Place) (tree : Tree K) (level : ℕ) → fits_at tree level ≡ true → Rows side inner (spots above tree) → HasNode (tree_view side inner above tree)
      tree_node above (block template attributes slots) level h rows =
          roots_node above template attributes slots level (parts_of template attributes slots level h) rows (λ k place below is some fit all. first_node slots k place below is some fit all) template.roots refl

      first_node : (slots : Slots K) → FirstNode slots
      first_node no_slots k place level is some h rows = absurd (some refl)
      first_node (more_slots v rest) zero place level is some h rows = slot_node_is v place level h rows
      first_node (more_slots v rest) (suc k) place level is some h rows = absurd (omega (arith, is))

      -- so does a slot
      pub slot_node_is : (v : Slot K) (place : Place) (level : ℕ) → slot_fits v level ≡ true → Rows side inner (slot_spots v place) → HasNode (slot_view side inner v place)
      slot_node_is (text_slot text) place level h rows = a_node (slot_view side inner (text_slot text) place) refl
      slot_node_is placeholder_slot place level h rows = a_node (slot_view side inner placeholder_slot place) refl
      slot_node_is (component_slot c) place level h rows = rows place c (inl refl)
      slot_node_is (fragment_slot no_trees) place level h rows = a_node (slot_view side inner (fragment_slot no_trees) place) refl
      slot_node_is (fragment_slot (more_trees t ts)) place level h rows =
          joined_node (tree_view side inner (place ++ item 0 ∷ []) t) (items_view side inner 1 place ts)
          (tree_node (place ++ item 0 ∷ []) t level (and-left (fits_at t level) (items_fit ts level) h)
          (λ p c g. rows p c (among_left (spots (place ++ item 0 ∷ []) t) (item_spots 1 place ts) (component_at p c) g)))

  -- where no work is open a live scope shows a side that has an output
  pub record Shown (x : Scope K) : Type 0 where
    pub side : SideName
    pub tree : Tree K
    pub shows : x.shows ≡ Some side
    pub output : (side_of x side).output ≡ Some tree

  tree_in : (o : Option (Tree K)) → is_some o ≡ true → (tree : Tree K) × (o ≡ Some tree)
  tree_in None h = cc
  tree_in (Some tree) h = (tree, refl)

  pub dressed_shown : (s : ℕ) (x : Scope K) → Dressed [] s x → Shown x
  dressed_shown s x (inl h) = let t = tree_in x.main_side.output h.output in record { side = MainSide; tree = t.0; shows = h.shows; output = t.1 }
  dressed_shown s x (inr h) =
      elim h.turned [
        | inl t ↦ elim t [
          | inl e ↦ children e (elim h.kids [ inl o ↦ tree_in x.children_side.output o | inr l ↦ absurd l ])
          | inr e ↦ fallback e (tree_in x.fallback_side.output (h.fall e))
        ]
        | inr c ↦ elim c [ inl l ↦ absurd l | inr d ↦ elim d [ inl l ↦ absurd l | inr l ↦ absurd l ] ]
      ]
    where
      children : x.shows ≡ Some ChildrenSide → (tree : Tree K) × (x.children_side.output ≡ Some tree) → Shown x
      children e t = record { side = ChildrenSide; tree = t.0; shows = e; output = t.1 }

      fallback : x.shows ≡ Some FallbackSide → (tree : Tree K) × (x.fallback_side.output ≡ Some tree) → Shown x
      fallback e t = record { side = FallbackSide; tree = t.0; shows = e; output = t.1 }

  -- a state in which no work is open
  pub record Settled (w : State K) : Type 0 where
    pub ready : Ready w []
    pub tree : IsTree w
    pub clothed : Clothed w []
    pub topped : Topped w []

  module _ (w : State K) (h : Settled w) where
    -- what a live scope shows
    pub shown_of : (s : ℕ) (x : Scope K) → at w.scopes s ≡ Some x → Shown x
    shown_of s x found = dressed_shown s x (h.clothed.dressed s x found)

    pub view_of : (s : ℕ) (x : Scope K) (found : at w.scopes s ≡ Some x) (d : Shown x) → nodes_of w s ≡ tree_view (side_of x d.side) (λ t. nodes_of w t) [] d.tree
    view_of s x found d =
        tree_unfolds w h.tree s
        ∙ ap (λ (o : Option (Scope K)). scope_view (λ t. nodes_of w t) o) found
        ∙ ap (λ (o : Option SideName). elim o as (λ z. Forest) [ None ↦ Empty | Some name ↦ side_view (λ t. nodes_of w t) (side_of x name) ]) d.shows
        ∙ ap (λ (o : Option (Tree K)). elim o as (λ z. Forest) [ None ↦ Empty | Some tree ↦ tree_view (side_of x d.side) (λ t. nodes_of w t) [] tree ]) d.output

    -- a component of an output has a live child scope, one level below
    pub kid_of : (s : ℕ) (x : Scope K) (a : SideName) (tree : Tree K) (p : Place) (c : VComponent K) → at w.scopes s ≡ Some x → (side_of x a).output ≡ Some tree → Among (spots [] tree) (component_at p c) → HasChild w s x a p
    kid_of s x a tree p c found output g =
        let side : _ = side_found w s a x found in
        let slot : Among (slots w s a) (component_at p c) =
        subst (λ (ss : List (Spot K)). Among ss (component_at p c)) (sym (ap (λ (i : Side K). spots_of i.output) side ∙ ap (λ (o : Option (Tree K)). spots_of o) output)) g in
        elim ((idle_whole w h.ready.woven).full s a p c slot) [
          | inl k ↦ from_kid k.0 (ap (λ (i : Side K). child_at i.children p) (sym side) ∙ k.1) (found_live (at w.scopes k.0) k.2)
          | inr m ↦ absurd m.1
        ]
      where
        from_kid : (t : ℕ) → child_at (side_of x a).children p ≡ Some t → (y : Scope K) × (at w.scopes t ≡ Some y) → HasChild w s x a p
        from_kid t kid there =
            let told = (h.ready.stands).child s t x there.0 a p found (child_among (side_of x a).children p t kid) there.1 in
            record { child = t; record_of = there.0; kid = kid; live = there.1; height = h.tree.child s t x there.0 a p found kid there.1; parent = told.0; below = told.1 }

    -- each live scope shows a node, by the levels that are left below it
    node_within : (n s : ℕ) (x : Scope K) → at w.scopes s ≡ Some x → length w.scopes ≤ x.height + n → HasNode (nodes_of w s)
    node_within zero s x found bound = let low = height_low w h.tree s x found in absurd (omega (arith, low, bound))
    node_within (suc n) s x found bound =
        let d : Shown x = shown_of s x found in
        let fit : FitsBelow d.tree = (h.ready.stands).fit s x d.side d.tree found d.output in
        subst (λ (f : Forest). HasNode f) (sym (view_of s x found d))
        (tree_node (side_of x d.side) (λ t. nodes_of w t) [] d.tree fit.level fit.fits
        (
        λ p c g.
        let k : HasChild w s x d.side p = kid_of s x d.side d.tree p c found d.output g in
        let level : k.record_of.height ≡ x.height + 1 = k.height in
        subst (λ (o : Option ℕ). HasNode (child_view (λ t. nodes_of w t) o)) (sym k.kid) (node_within n k.child k.record_of k.live (omega (arith, bound, level)))
        ))

    pub has_node : (s : ℕ) (x : Scope K) → at w.scopes s ≡ Some x → HasNode (nodes_of w s)
    has_node s x found = node_within (length w.scopes) s x found (omega arith)

    -- the components of an output show nodes
    pub rows_of_side : (s : ℕ) (x : Scope K) (a : SideName) (tree : Tree K) → at w.scopes s ≡ Some x → (side_of x a).output ≡ Some tree → Rows (side_of x a) (λ t. nodes_of w t) (spots [] tree)
    rows_of_side s x a tree found output p c g =
        let k : HasChild w s x a p = kid_of s x a tree p c found output g in
        subst (λ (o : Option ℕ). HasNode (child_view (λ t. nodes_of w t) o)) (sym k.kid) (has_node k.child k.record_of k.live)
