-- The node under an index has the template of the side's tree, so its path tells its place.
use Rattle.std.proofs.Common.{ℕ, zero, suc, ◌+◌, true, List, [], ◌∷◌, ◌++◌, ◌≡◌, map, refl, sym, ap, subst, ◌∙◌, arith}
use Rattle.std.specs.Prelude.{Option, None, Some, slice_get}
use base.Stored.{Coded}
use Rattle.tree_nodes.specs.declared.vnode.VNode.{VNode}
use Rattle.rt_model.specs.Lists.{at, or_else}
use Rattle.rt_model.specs.OneLog.{types}
use Rattle.rt_model.specs.Tree as model
use Rattle.rt_model.specs.Tree.{Place, Step, block, inside, item, same_kind, spots}
use Rattle.rt_model.proofs.Among.{place_same}
use Rattle.rt_model.proofs.SamePlaces.{same_kind-true, same_place-true}
use Rattle.tree_mirror.specs.Mirror.{attribute_of, slots_from}
use Rattle.tree_mirror.specs.Sealed.{slot_of, template_of, tree_of}
use Rattle.tree_mirror.proofs.SealedTrees.{tree_out}
use Rattle.run_places.specs.declared.nodes.NodeAt.{NodeAt}
use Rattle.run_places.specs.declared.side.Side.{Side}
use Rattle.run_places.specs.Apart.{Apart}
use Rattle.run_places.specs.Drawn.{nodes_in}
use Rattle.run_places.specs.Indexed.{node_index}
use Rattle.run_places.specs.Known.{spots_kept}
use Rattle.run_places.specs.Places.{at_path, kind_of, node_of, place_of}
use Rattle.run_places.specs.Sides.{number_in}
use Rattle.run_places.proofs.Hits.{node_whole}
use Rattle.run_places.proofs.Knowing.{known_nodes}
use Rattle.run_places.proofs.Sided.{number_found}
use Rattle.run_places.proofs.Trails.{path_Top, path_Below, path_Whole}
use Rattle.run_shown.specs.Told.{IsOneStep, IsUnder, is_made_from, is_tree_of}
use Rattle.run_shown.proofs.Begins.{AllAt, node_below, tree_below}
use Rattle.run_shown.proofs.Codes.{by_code, code_tests}

-- the first step of a place is in this template
abbrev Begins : model.Template → Place → Type 0
Begins whole [] = ⊥
Begins whole (inside t path ∷ rest) = t ≡ whole
Begins whole (item i ∷ rest) = ⊥

begins_further : (whole : model.Template) (p : Place) (s : Step) → Begins whole p → Begins whole (p ++ s ∷ [])
begins_further whole [] s b = absurd b
begins_further whole (inside t path ∷ rest) s b = b
begins_further whole (item i ∷ rest) s b = absurd b

-- the node under an index, where its place is one step
pub under_index : (nodes : List NodeAt) (i : ℕ) (x : NodeAt) (path : List ℕ) (k : model.Kind) → slice_get nodes i ≡ Some x → same_kind (kind_of x.kind) k ≡ true → IsOneStep x.place path → IsUnder nodes i path k
under_index [] i x path k is kind one = cc is
under_index (y ∷ nodes) zero x path k is kind one =
    let same : y ≡ x = cc is in
    let place : place_of y.place ≡ inside (template_of one.0) path ∷ [] = ap (λ (n : NodeAt). place_of n.place) same ∙ ap place_of one.1 in
    let kinds : kind_of y.kind ≡ k = ap (λ (n : NodeAt). kind_of n.kind) same ∙ same_kind-true (kind_of x.kind) k kind in
    (one.0, λ t. Some (place t, kinds t))
under_index (y ∷ nodes) (suc i) x path k is kind one = under_index nodes i x path k is kind one

module _ {P C Q V H T E L : Type 0} where
  -- whatever stands in a tree at the root begins in its template
  all_begin : (tree : VNode P C Q V H T E L) → AllAt (Begins (template_of tree.template)) (spots [] (tree_of tree))
  all_begin tree =
      let whole : model.Template = template_of tree.template in
      let out : model.Tree (types C Q V H T E L) = block whole (map (map attribute_of) tree.dynamic_attrs) (slots_from (map slot_of tree.dynamic_nodes)) in
      subst (λ (t : model.Tree (types C Q V H T E L)). AllAt (Begins whole) (spots [] t)) (sym (tree_out tree))
      (tree_below (Begins whole) (begins_further whole) out [] (λ path. refl))

  -- the template of a node that is one step below the root is that of the kept tree
  made_begins : (output : Option (VNode P C Q V H T E L)) (nodes : List NodeAt) (whole t : model.Template) (i : ℕ) (path : List ℕ) (k : model.Kind)
      → map node_of nodes ≡ nodes_in (spots_kept output) → is_made_from output whole ≡ true → slice_get (map node_of nodes) i ≡ Some (inside t path ∷ [], k) → t ≡ whole
  made_begins None nodes whole t i path k known made h = cc made
  made_begins (Some tree) nodes whole t i path k known made h =
      let same : inside (template_of tree.template) [] ∷ [] ≡ inside whole [] ∷ [] = same_place-true (inside (template_of tree.template) [] ∷ []) (inside whole [] ∷ []) made in
      let own : template_of tree.template ≡ whole = cc same in
      node_below (Begins (template_of tree.template)) (spots [] (tree_of tree)) i (inside t path ∷ []) k (all_begin tree) (ap (λ ns. slice_get ns i) (sym known) ∙ h)
      ∙ own

  -- the tree of a side is made from the template of the side's tree
  pub tree_told : (side : Side P C Q V H T E L) (tree : VNode P C Q V H T E L) (above : Place) → above ≡ [] → side.output ≡ Some tree → is_tree_of side tree above ≡ true
  tree_told side tree [] root is =
      ap (λ (o : Option (VNode P C Q V H T E L)). is_made_from o (template_of tree.template)) is ∙ place_same (inside (template_of tree.template) [] ∷ [])
  tree_told side tree (step ∷ above) root is = cc root

  -- the number under its index is the one at the place
  pub number_told : (code : Coded C) (c : C) (side : Side P C Q V H T E L) (tree : VNode P C Q V H T E L) (above : Place) (i : ℕ) (path : List ℕ) (k : model.Kind)
      → is_tree_of side tree above ≡ true → Apart side.nodes → IsUnder side.nodes i path k
      → or_else 0 (at side.numbers i) ≡ number_in side (at_path (template_of tree.template) above path) k
  number_told code c side tree (step ∷ above) i path k of apart under = cc of
  number_told code c side tree [] i path k of apart under =
      let whole : model.Template = template_of tree.template in
      let p : Place = inside whole path ∷ [] in
      let known : map node_of side.nodes ≡ nodes_in (spots_kept side.output) = known_nodes side.output side.nodes side.seats (side.known (by_code code c) (code_tests code)) in
      let own : template_of under.0 ≡ whole = made_begins side.output side.nodes whole (template_of under.0) i path k known of under.1 in
      let there : slice_get (map node_of side.nodes) i ≡ Some (p, k) = under.1 ∙ ap (λ t. Some (inside t path ∷ [], k)) own in
      let found : node_index side.nodes p k ≡ Some (0 + i) = node_whole 0 side.nodes p k i apart there in
      sym (number_found side.nodes p k apart i (sym (found ∙ ap (λ n. Some n) (let e : 0 + i ≡ i = omega arith in e))) side.numbers)

pub ruleset paths = (path_Top, path_Below, path_Whole)
