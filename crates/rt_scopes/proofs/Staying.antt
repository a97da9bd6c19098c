-- A side of which all nodes stay is patched by its new tree alone.
use Rattle.std.proofs.Common.{ℕ, zero, suc, true, false, ◌&&◌, ◌||◌, List, [], ◌∷◌, ◌++◌, ◌≡◌, map, refl, sym, ap, ◌∙◌, subst}
use Rattle.std.specs.Prelude.{Option, Some, slice_get}
use Rattle.tree_nodes.specs.declared.vnode.VNode.{VNode}
use Rattle.rt_model.specs.OneLog.{types}
use Rattle.rt_model.specs.World.{Application}
use Rattle.rt_model.specs.Tree as model
use Rattle.rt_model.specs.Tree.{Place, Kind, Spot, same_kind, same_place, spots}
use Rattle.rt_model.specs.Lists.{at}
use Rattle.rt_model.specs.State as state
use Rattle.rt_model.specs.State.{Done, change, with_side}
use Rattle.rt_model.specs.Run.{drops_of, has_node, kept_children, kept_numbers, serves, spots_of, start_agenda}
use Rattle.rt_model.proofs.Among.{kind_same, place_same}
use Rattle.rt_model.proofs.Maps.{pick_true}
use Rattle.tree_mirror.specs.Sealed.{tree_of}
use Rattle.run_places.specs.declared.nodes.NodeAt.{NodeAt}
use Rattle.run_places.specs.declared.place.Step.{Step}
use Rattle.run_places.specs.declared.side.Side.{Side}
use Rattle.run_places.specs.declared.side.SideName.{SideName}
use Rattle.run_places.specs.Drawn.{nodes_in, seats_in}
use Rattle.run_places.specs.Known.{knows, spots_kept}
use Rattle.run_places.specs.Places.{node_of, output_of, place_of, placed, seated, side_name_of, side_of}
use Rattle.run_places.proofs.Knowing.{kept_spots, known_by, known_nodes, known_seats, spots_standing}
use Rattle.run_places.proofs.Placed.{by_option, placed_none, placed_one}
use Rattle.rt_scopes.specs.Stay.{AllStay, standing}
use Rattle.rt_scopes.proofs.Agendas.{started}

or_true : (b : _) → (b || true) ≡ true
or_true true = refl
or_true false = refl

module _ (K : model.Types) where
  -- a node that stands there is found
  there : (nodes : List (Place × Kind)) (i : ℕ) (q : Place × Kind) → slice_get nodes i ≡ Some q → has_node {K = K} (standing nodes) q.0 q.1 ≡ true
  there [] i q h = cc h
  there (n ∷ nodes) zero q h =
      let own : n ≡ q = cc h in
      ap (λ b. b || has_node {K = K} (standing nodes) q.0 q.1)
      ((λ t. same_kind ((own t).1) q.1 && same_place ((own t).0) q.0) ∙ (λ t. kind_same q.1 t && place_same q.0 t))
  there (n ∷ nodes) (suc i) q h =
      ap (λ b. (same_kind n.1 q.1 && same_place n.0 q.0) || b) (there nodes i q h) ∙ or_true (same_kind n.1 q.1 && same_place n.0 q.0)

  -- all numbers that stand at nodes are kept
  all_kept : (nodes : List (Place × Kind)) (es : List (ℕ × ℕ)) → kept_numbers {K = K} (standing nodes) (placed nodes es) ≡ placed nodes es
  all_kept nodes [] = refl
  all_kept nodes (e ∷ es) =
      by_option (slice_get nodes e.0)
      (
      λ none.
      ap (λ xs. kept_numbers {K = K} (standing nodes) xs) (placed_none nodes e.0 e.1 es none) ∙ all_kept nodes es ∙ sym (placed_none nodes e.0 e.1 es none)
      )
      (
      λ q is.
      ap (λ xs. kept_numbers {K = K} (standing nodes) xs) (placed_one nodes e.0 e.1 es q is)
      ∙ pick_true ((q.0, q.1, e.1) ∷ kept_numbers {K = K} (standing nodes) (placed nodes es)) (kept_numbers {K = K} (standing nodes) (placed nodes es)) (there nodes e.0 q is)
      ∙ ap (λ xs. (q.0, q.1, e.1) ∷ xs) (all_kept nodes es)
      ∙ sym (placed_one nodes e.0 e.1 es q is)
      )

module _ {K : model.Types} (app : Application K) (s : ℕ) (side : state.SideName) where
  -- nothing is drawn for nodes that stood
  none_served : (all nodes : List (Place × Kind)) → ((i : ℕ) (q : Place × Kind) → slice_get nodes i ≡ Some q → has_node {K = K} (standing all) q.0 q.1 ≡ true)
      → serves app s side (standing all) (standing nodes) ≡ []
  none_served all [] known = refl
  none_served all (q ∷ nodes) known =
      pick_true (serves app s side (standing all) (standing nodes)) (state.Draw s side q.0 q.1 ∷ serves app s side (standing all) (standing nodes)) (known 0 q refl)
      ∙ none_served all nodes (λ i r h. known (suc i) r h)

  -- and nothing is dropped
  none_dropped : (new : List (Spot K)) (children : List (Place × ℕ)) (nodes : List (Place × Kind)) → drops_of app s side new children (standing nodes) ≡ []
  none_dropped new children [] = refl
  none_dropped new children (q ∷ nodes) = none_dropped new children nodes

module _ {P C Q V H T E L : Type 0} (app : Application (types C Q V H T E L)) where
  -- nothing is served
  nothing_left : (s : ℕ) (name : SideName) (tree : VNode P C Q V H T E L) (was : Side P C Q V H T E L) → AllStay was tree
      → [] ≡ serves app s (side_name_of name) (spots_of (side_of was).output) (spots [] (tree_of tree))
      ++ drops_of app s (side_name_of name) (spots [] (tree_of tree)) (side_of was).children (spots_of (side_of was).output)
  nothing_left s name tree was stay =
      let nodes : List (Place × Kind) = map node_of was.nodes in
      let name_is : state.SideName = side_name_of name in
      sym
      (
      (λ t. serves app s name_is (stay.before t) (stay.after t) ++ drops_of app s name_is (stay.after t) (side_of was).children (stay.before t))
      ∙ (λ t. none_served app s name_is nodes nodes (λ i q h. there (types C Q V H T E L) nodes i q h) t ++ none_dropped app s name_is (standing nodes) (side_of was).children nodes t)
      )

  -- the side keeps all that it has
  side_stays : (tree : VNode P C Q V H T E L) (was : Side P C Q V H T E L) → AllStay was tree
      → ◌≡◌ {A = state.Side (types C Q V H T E L)} (record (side_of was) { output = Some (tree_of tree) })
      (record {
        output = Some (tree_of tree);
        numbers = kept_numbers (spots [] (tree_of tree)) (side_of was).numbers;
        children = kept_children app (spots_of (side_of was).output) (spots [] (tree_of tree)) (side_of was).children;
      })
  side_stays tree was stay =
      let nodes : List (Place × Kind) = map node_of was.nodes in
      let numbers : (side_of was).numbers ≡ kept_numbers (spots [] (tree_of tree)) (side_of was).numbers =
      sym (all_kept (types C Q V H T E L) nodes was.numbers) ∙ ap (λ ss. kept_numbers ss (placed nodes was.numbers)) (sym stay.after) in
      let none : (side_of was).children ≡ [] = ap (λ es. seated (map place_of was.seats) es) stay.childless in
      let children : (side_of was).children ≡ kept_children app (spots_of (side_of was).output) (spots [] (tree_of tree)) (side_of was).children =
      none ∙ sym (ap (λ es. kept_children app (spots_of (side_of was).output) (spots [] (tree_of tree)) es) none) in
      λ t. record { output = Some (tree_of tree); numbers = numbers t; children = children t }

  -- the agenda of a scope that was found
  pub stays_on : (w v : state.State (types C Q V H T E L)) (s : ℕ) (name : SideName) (tree : VNode P C Q V H T E L) (was side : Side P C Q V H T E L) (x : state.Scope (types C Q V H T E L))
      → at w.scopes s ≡ Some x → side_of was ≡ state.side_of x (side_name_of name) → AllStay was tree
      → side_of side ≡ record (side_of was) { output = Some (tree_of tree) }
      → v ≡ change w s (λ y. with_side y (side_name_of name) (side_of side))
      → start_agenda app w s (side_name_of name) (tree_of tree) ≡ Done v []
  stays_on w v s name tree was side x found before stay keeps changed =
      let Sides : Type 0 = state.Side (types C Q V H T E L) in
      started app w s (side_name_of name) (tree_of tree) x (side_of side) [] found
      (subst (λ (a : Sides). [] ≡ serves app s (side_name_of name) (spots_of a.output) (spots [] (tree_of tree)) ++ drops_of app s (side_name_of name) (spots [] (tree_of tree)) a.children (spots_of a.output)) before (nothing_left s name tree was stay))
      (
      subst (λ (a : Sides). ◌≡◌ {A = Sides} (side_of side) (record { output = Some (tree_of tree); numbers = kept_numbers (spots [] (tree_of tree)) a.numbers; children = kept_children app (spots_of a.output) (spots [] (tree_of tree)) a.children })) before
      (keeps ∙ side_stays tree was stay)
      )
      ∙ ap (λ u. Done u []) (sym changed)

module _ {P C Q V H T E L : Type 0} where
  -- a side of which all nodes stay knows its new tree
  pub stays_known : (tree : VNode P C Q V H T E L) (was : Side P C Q V H T E L) (nodes : List NodeAt) (seats : List (List Step)) → AllStay was tree → knows was.output was.nodes was.seats ≡ true
      → nodes ≡ was.nodes → seats ≡ was.seats → knows (Some tree) nodes seats ≡ true
  stays_known tree was nodes seats stay known nodes_are seats_are =
      let spots_are : spots_kept was.output ≡ spots [] (tree_of tree) = kept_spots was.output ∙ stay.before ∙ sym stay.after in
      known_by (Some tree) nodes seats
      (ap (λ (ns : List NodeAt). map node_of ns) nodes_are ∙ known_nodes was.output was.nodes was.seats known ∙ ap (λ (ss : List (Spot (types C Q V H T E L))). nodes_in ss) spots_are)
      (ap (λ (ps : List (List Step)). map place_of ps) seats_are ∙ known_seats was.output was.nodes was.seats known ∙ ap (λ (ss : List (Spot (types C Q V H T E L))). seats_in ss) spots_are)

  -- what stands in the tree of a side that knows no component
  pub side_stands : (side : Side P C Q V H T E L) (old : VNode P C Q V H T E L) → side.output ≡ Some old → knows side.output side.nodes side.seats ≡ true → side.seats ≡ []
      → spots [] (tree_of old) ≡ standing (map node_of side.nodes)
  side_stands side old is known none =
      let kept : List (Spot (types C Q V H T E L)) = spots_kept side.output in
      let bare : seats_in kept ≡ [] = sym (known_seats side.output side.nodes side.seats known) ∙ ap (λ ps. map place_of ps) none in
      sym (ap (λ (o : Option (VNode P C Q V H T E L)). spots_kept o) is)
      ∙ spots_standing kept bare
      ∙ ap (λ (ns : List (Place × Kind)). standing {K = types C Q V H T E L} ns) (sym (known_nodes side.output side.nodes side.seats known))

  -- the spots of an output
  pub output_stands : (side : Side P C Q V H T E L) (old : VNode P C Q V H T E L) → side.output ≡ Some old → spots_of (output_of side.output) ≡ spots [] (tree_of old)
  output_stands side old is = ap (λ (o : Option (VNode P C Q V H T E L)). spots_of (output_of o)) is
