-- What a side knows of its tree is what stands there, and has one proof.
use Rattle.std.proofs.Common.{ℕ, true, ◌&&◌, List, [], ◌∷◌, ◌≡◌, refl, sym, ap, subst, ◌∙◌, map}
use Rattle.std.specs.Coded.{Coded-set, coded_bool}
use Rattle.std.specs.Prelude.{Option, None, Some}
use Rattle.tree_nodes.specs.declared.vnode.VNode.{VNode}
use Rattle.rt_model.specs.Tree.{Kind, Place, Spot, Types, component_at, node_at, same_kind, same_place}
use Rattle.rt_model.specs.Run.{spots_of}
use Rattle.rt_model.proofs.Among.{kind_same, place_same}
use Rattle.rt_model.proofs.Conjunctions.{and-left, and-right}
use Rattle.rt_model.proofs.SamePlaces.{same_kind-true, same_place-true}
use Rattle.run_places.specs.declared.nodes.NodeAt.{NodeAt}
use Rattle.run_places.specs.declared.place.Step.{Step}
use Rattle.run_places.specs.declared.side.Side.{Side}
use Rattle.run_places.specs.Drawn.{nodes_in, seats_in}
use Rattle.run_places.specs.Known.{KnowsTree, knows, same_nodes, same_places, spots_kept}
use Rattle.run_places.specs.Places.{output_of}
use Rattle.run_places.specs.Sides.{IsBare}
use Rattle.run_places.specs.Steps.{node_of, place_of}

nodes-true : (xs ys : List (Place × Kind)) → same_nodes xs ys ≡ true → xs ≡ ys
nodes-true [] [] h = refl
nodes-true (x ∷ xs) (y ∷ ys) h =
    let own : same_kind x.1 y.1 && same_place x.0 y.0 ≡ true = and-left (same_kind x.1 y.1 && same_place x.0 y.0) (same_nodes xs ys) h in
    let kind : x.1 ≡ y.1 = same_kind-true x.1 y.1 (and-left (same_kind x.1 y.1) (same_place x.0 y.0) own) in
    let place : x.0 ≡ y.0 = same_place-true x.0 y.0 (and-right (same_kind x.1 y.1) (same_place x.0 y.0) own) in
    let rest : xs ≡ ys = nodes-true xs ys (and-right (same_kind x.1 y.1 && same_place x.0 y.0) (same_nodes xs ys) h) in
    λ i. (place i, kind i) ∷ rest i
nodes-true [] (y ∷ ys) h = cc h
nodes-true (x ∷ xs) [] h = cc h

nodes-same : (xs : List (Place × Kind)) → same_nodes xs xs ≡ true
nodes-same [] = refl
nodes-same (x ∷ xs) = λ i. (kind_same x.1 i && place_same x.0 i) && nodes-same xs i

places-true : (xs ys : List Place) → same_places xs ys ≡ true → xs ≡ ys
places-true [] [] h = refl
places-true (x ∷ xs) (y ∷ ys) h =
    let place : x ≡ y = same_place-true x y (and-left (same_place x y) (same_places xs ys) h) in
    let rest : xs ≡ ys = places-true xs ys (and-right (same_place x y) (same_places xs ys) h) in
    λ i. place i ∷ rest i
places-true [] (y ∷ ys) h = cc h
places-true (x ∷ xs) [] h = cc h

places-same : (xs : List Place) → same_places xs xs ≡ true
places-same [] = refl
places-same (x ∷ xs) = λ i. place_same x i && places-same xs i

module _ {P C Q V H T E L : Type 0} where
  -- the nodes are those that stand in the tree, and so are the components
  pub known_nodes : (output : Option (VNode P C Q V H T E L)) (nodes : List NodeAt) (seats : List (List Step)) → knows output nodes seats ≡ true → map node_of nodes ≡ nodes_in (spots_kept output)
  unfolding knows
  known_nodes output nodes seats h =
      nodes-true (map node_of nodes) (nodes_in (spots_kept output))
      (and-left (same_nodes (map node_of nodes) (nodes_in (spots_kept output))) (same_places (map place_of seats) (seats_in (spots_kept output))) h)

  pub known_seats : (output : Option (VNode P C Q V H T E L)) (nodes : List NodeAt) (seats : List (List Step)) → knows output nodes seats ≡ true → map place_of seats ≡ seats_in (spots_kept output)
  unfolding knows
  known_seats output nodes seats h =
      places-true (map place_of seats) (seats_in (spots_kept output))
      (and-right (same_nodes (map node_of nodes) (nodes_in (spots_kept output))) (same_places (map place_of seats) (seats_in (spots_kept output))) h)

  -- where they are, the side knows its tree
  pub known_by : (output : Option (VNode P C Q V H T E L)) (nodes : List NodeAt) (seats : List (List Step)) → map node_of nodes ≡ nodes_in (spots_kept output) → map place_of seats ≡ seats_in (spots_kept output)
      → knows output nodes seats ≡ true
  unfolding knows
  known_by output nodes seats f g =
      (λ i. same_nodes (f i) (nodes_in (spots_kept output)) && same_places (g i) (seats_in (spots_kept output)))
      ∙ (λ i. nodes-same (nodes_in (spots_kept output)) i && places-same (seats_in (spots_kept output)) i)

  -- what stands in a kept tree is what stands in the output of the definitions
  pub kept_spots : (output : Option (VNode P C Q V H T E L)) → spots_kept output ≡ spots_of (output_of output)
  kept_spots None = refl
  kept_spots (Some tree) = refl

  -- nothing is known of no tree
  pub known_none : (output : Option (VNode P C Q V H T E L)) (nodes : List NodeAt) (seats : List (List Step)) → output ≡ None → nodes ≡ [] → seats ≡ [] → knows output nodes seats ≡ true
  known_none output nodes seats none f g =
      known_by output nodes seats
      (ap (λ ns. map node_of ns) f ∙ sym (ap (λ (o : Option (VNode P C Q V H T E L)). nodes_in (spots_kept o)) none))
      (ap (λ ps. map place_of ps) g ∙ sym (ap (λ (o : Option (VNode P C Q V H T E L)). seats_in (spots_kept o)) none))

  -- what is known of a tree is known of an equal one
  pub known_of : (side : Side P C Q V H T E L) (output : Option (VNode P C Q V H T E L)) (nodes : List NodeAt) (seats : List (List Step)) → output ≡ side.output → nodes ≡ side.nodes → seats ≡ side.seats
      → KnowsTree output nodes seats
  known_of side output nodes seats outputs all_nodes all_seats = λ app tests. (λ i. knows (outputs i) (all_nodes i) (all_seats i)) ∙ side.known app tests

  -- what is known of a tree has one proof
  pub known_once : (output : Option (VNode P C Q V H T E L)) (nodes : List NodeAt) (seats : List (List Step)) (k l : KnowsTree output nodes seats) → k ≡ l
  known_once output nodes seats k l = λ i app tests. Coded-set coded_bool (knows output nodes seats) true (k app tests) (l app tests) i

  -- a side with other numbers, or with other child scopes
  pub numbers_put : (side : Side P C Q V H T E L) (numbers : List (ℕ × ℕ)) (k : KnowsTree side.output side.nodes side.seats)
      → record side { numbers = numbers; known = k } ≡ record side { numbers = numbers }
  numbers_put side numbers k = λ i. record side { numbers = numbers; known = known_once side.output side.nodes side.seats k side.known i }

  pub children_put : (side : Side P C Q V H T E L) (children : List (ℕ × ℕ)) (k : KnowsTree side.output side.nodes side.seats)
      → record side { children = children; known = k } ≡ record side { children = children }
  children_put side children k = λ i. record side { children = children; known = known_once side.output side.nodes side.seats k side.known i }

  -- a side, by its parts
  abbrev made_of : (output : Option (VNode P C Q V H T E L)) (nodes : List NodeAt) (seats : List (List Step)) (numbers children : List (ℕ × ℕ)) → KnowsTree output nodes seats → Side P C Q V H T E L
  made_of output nodes seats numbers children k = record { output = output; nodes = nodes; seats = seats; numbers = numbers; children = children; known = k }

  -- a side of the same parts is the same
  pub same_side : (side : Side P C Q V H T E L) (output : Option (VNode P C Q V H T E L)) (nodes : List NodeAt) (seats : List (List Step)) (numbers children : List (ℕ × ℕ)) (k : KnowsTree output nodes seats)
      → output ≡ side.output → nodes ≡ side.nodes → seats ≡ side.seats → numbers ≡ side.numbers → children ≡ side.children → made_of output nodes seats numbers children k ≡ side
  same_side side output nodes seats numbers children k outputs all_nodes all_seats all_numbers all_children =
      subst (λ (o : Option (VNode P C Q V H T E L)). (l : KnowsTree o nodes seats) → made_of o nodes seats numbers children l ≡ side) (sym outputs)
      (
      subst (λ (ns : List NodeAt). (l : KnowsTree side.output ns seats) → made_of side.output ns seats numbers children l ≡ side) (sym all_nodes)
      (
      subst (λ (ps : List (List Step)). (l : KnowsTree side.output side.nodes ps) → made_of side.output side.nodes ps numbers children l ≡ side) (sym all_seats)
      (λ l i. made_of side.output side.nodes side.seats (all_numbers i) (all_children i) (known_once side.output side.nodes side.seats l side.known i))
      )
      )
      k

  -- two sides on which nothing was ever rendered
  pub bare_same : (a b : Side P C Q V H T E L) → IsBare a → IsBare b → a ≡ b
  bare_same a b is other =
      same_side b a.output a.nodes a.seats a.numbers a.children a.known
      (is.output ∙ sym other.output) (is.nodes ∙ sym other.nodes) (is.seats ∙ sym other.seats) (is.numbers ∙ sym other.numbers) (is.children ∙ sym other.children)

module _ {K : Types} where
  -- spots without a component are their nodes
  pub spots_standing : (ss : List (Spot K)) → seats_in ss ≡ [] → ss ≡ map (λ (q : Place × Kind). node_at q.0 q.1) (nodes_in ss)
  spots_standing [] h = refl
  spots_standing (node_at p k ∷ ss) h = ap (λ (xs : List (Spot K)). node_at p k ∷ xs) (spots_standing ss h)
  spots_standing (component_at p c ∷ ss) h = cc h
