-- What one spot adds to what a walk has found.
use Rattle.std.proofs.Common.{ℕ, zero, suc, List, [], ◌∷◌, ◌++◌, ◌≡◌, length, map, refl, sym, ap, ◌∙◌, append-nil}
use Rattle.std.specs.Prelude.{Option, Some, None, replicate, slice_get}
use Rattle.tree_nodes.specs.declared.vnode.VComponent.{VComponent}
use Rattle.rt_model.specs.OneLog.{types}
use Rattle.rt_model.specs.Tree as model
use Rattle.rt_model.specs.Tree.{Place}
use Rattle.rt_model.specs.State as state
use Rattle.rt_model.specs.Run.{child_at, drop_at}
use Rattle.tree_mirror.specs.Sealed.{component_of}
use Rattle.run_places.specs.declared.nodes.NodeAt.{NodeAt}
use Rattle.run_places.specs.declared.place.Kind.{Kind}
use Rattle.run_places.specs.declared.place.Step.{Step}
use Rattle.run_places.specs.declared.side.Side.{Side}
use Rattle.run_places.specs.Indexed.{node_index, place_in, seat_index}
use Rattle.run_places.specs.Places.{kind_of, node_of, place_of, side_name_of, side_of}
use Rattle.run_places.proofs.Sided.{node_there, seat_there}
use Rattle.run_work.specs.declared.item.Item.{Item}
use Rattle.run_work.specs.declared.item.Item.TheVariants as items
use Rattle.run_work.specs.declared.patched.Ground.{Ground}
use Rattle.run_work.specs.declared.patched.Patched.{Patched}
use Rattle.run_work.specs.Items.{item_of, work_of}
use Rattle.run_work.specs.After.{after, goes_to, nothing_yet}
use Rattle.run_work.specs.Events.{stays, comes, fed, left, made}
use Rattle.run_work.specs.Grounds.{ground_of, known_or, node_known, out_of, seat_known}
use Rattle.run_work.proofs.Walking.{mapped}

pub mapped_long : {A B : Type 0} (f : A → B) (xs : List A) → length xs ≡ length (map f xs)
mapped_long f [] = refl
mapped_long f (x ∷ xs) = ap suc (mapped_long f xs)

-- the place that stands under an index is the one that was looked for

node_got : (nodes : List NodeAt) (i : ℕ) (p : Place) (k : model.Kind) (steps : List Step) → slice_get (map node_of nodes) i ≡ Some (p, k) → place_of (known_or (place_in nodes i) steps) ≡ p
node_got [] i p k steps h = cc h
node_got (x ∷ xs) zero p k steps h = let own : node_of x ≡ (p, k) = cc h in ap (λ (q : Place × model.Kind). q.0) own
node_got (x ∷ xs) (suc i) p k steps h = node_got xs i p k steps h

seat_got : (seats : List (List Step)) (i : ℕ) (p : Place) (steps : List Step) → slice_get (map place_of seats) i ≡ Some p → place_of (known_or (slice_get seats i) steps) ≡ p
seat_got [] i p steps h = cc h
seat_got (x ∷ xs) zero p steps h = cc h
seat_got (x ∷ xs) (suc i) p steps h = seat_got xs i p steps h

module _ {P C Q V H T E L : Type 0} (side : Side P C Q V H T E L) (steps : List Step) where
  pub node_place_is : (k : model.Kind) (index : Option ℕ) → index ≡ node_index side.nodes (place_of steps) k → place_of (known_or (node_known side index) steps) ≡ place_of steps
  node_place_is k None h = refl
  node_place_is k (Some i) h = node_got side.nodes i (place_of steps) k steps (node_there side.nodes (place_of steps) k i h)

  pub seat_place_is : (index : Option ℕ) → index ≡ seat_index side.seats (place_of steps) → place_of (known_or (seat_known side index) steps) ≡ place_of steps
  seat_place_is None h = refl
  seat_place_is (Some i) h = seat_got side.seats i (place_of steps) steps (seat_there side.seats (place_of steps) i h)

module _ {P C Q V H T E L : Type 0} (g : Ground P C Q V H T E L) (o : Patched P C Q V H T E L) (p : Place) where
  -- one more node of the new tree
  pub node_added : (kind : Kind) (known : Option ℕ) (place : List Step) (nodes : List NodeAt) (to : List (Option ℕ))
      → known ≡ node_index (g.side.now).nodes p (kind_of kind) → place_of place ≡ p
      → to ≡ goes_to o.nodes_to known (length o.nodes) → nodes ≡ o.nodes ++ record { place = place; kind = kind } ∷ []
      → out_of (record o { nodes = nodes; nodes_to = to }) ≡ after (ground_of g) (stays p (kind_of kind) ∷ []) (out_of o)
  unfolding out_of ground_of
  node_added kind known place nodes to is at goes more =
      let all : map node_of nodes ≡ map node_of o.nodes ++ (p, kind_of kind) ∷ [] =
      ap (λ ns. map node_of ns) more ∙ mapped node_of o.nodes (record { place = place; kind = kind } ∷ []) ∙ (λ t. map node_of o.nodes ++ (at t, kind_of kind) ∷ []) in
      let led : to ≡ goes_to o.nodes_to (node_index (g.side.now).nodes p (kind_of kind)) (length (map node_of o.nodes)) =
      goes ∙ (λ t. goes_to o.nodes_to (is t) (mapped_long node_of o.nodes t)) in
      λ t. record (out_of o) { nodes = all t; nodes_to = led t }

  -- one that comes is numbered
  pub node_comes : (mid : Patched P C Q V H T E L) (kind : Kind) (place : List Step) (work : List (Item P C Q V H T E L))
      → out_of mid ≡ after (ground_of g) (stays p (kind_of kind) ∷ []) (out_of o) → place_of place ≡ p
      → work ≡ mid.work ++ items.Draw g.scope g.name place kind ∷ []
      → out_of (record mid { work = work }) ≡ after (ground_of g) (comes p (kind_of kind) ∷ []) (out_of o)
  unfolding out_of ground_of
  node_comes mid kind place work h at more =
      let all : work_of work ≡ work_of o.work ++ state.Draw g.scope (side_name_of g.name) p (kind_of kind) ∷ [] =
      ap (λ ws. work_of ws) more ∙ mapped item_of mid.work (items.Draw g.scope g.name place kind ∷ [])
      ∙ (λ t. (h t).work ++ state.Draw g.scope (side_name_of g.name) (at t) (kind_of kind) ∷ []) in
      λ t. record (h t) { work = all t }

  -- a component that stays is fed
  pub seat_fed : (was now : VComponent P C Q V H T E L) (known : Option ℕ) (place : List Step) (component : VComponent P C Q V H T E L) (work : List (Item P C Q V H T E L)) (seats : List (List Step)) (to : List (Option ℕ))
      → known ≡ seat_index (g.side.now).seats p → place_of place ≡ p → component ≡ now
      → to ≡ goes_to o.seats_to known (length o.seats) → seats ≡ o.seats ++ place ∷ []
      → work ≡ o.work ++ items.Feed g.scope g.name place component ∷ []
      → out_of (record o { work = work; seats = seats; seats_to = to }) ≡ after (ground_of g) (fed p (component_of was) (component_of now) ∷ []) (out_of o)
  unfolding out_of ground_of
  seat_fed was now known place component work seats to is at copied goes more fed_more =
      let all : map place_of seats ≡ map place_of o.seats ++ p ∷ [] =
      ap (λ ns. map place_of ns) more ∙ mapped place_of o.seats (place ∷ []) ∙ (λ t. map place_of o.seats ++ at t ∷ []) in
      let led : to ≡ goes_to o.seats_to (seat_index (g.side.now).seats p) (length (map place_of o.seats)) =
      goes ∙ (λ t. goes_to o.seats_to (is t) (mapped_long place_of o.seats t)) in
      let done : work_of work ≡ work_of o.work ++ state.Feed g.scope (side_name_of g.name) p (component_of now) ∷ [] =
      ap (λ ws. work_of ws) fed_more ∙ mapped item_of o.work (items.Feed g.scope g.name place component ∷ [])
      ∙ (λ t. work_of o.work ++ state.Feed g.scope (side_name_of g.name) (at t) (component_of (copied t)) ∷ []) in
      λ t. record (out_of o) { work = done t; seats = all t; seats_to = led t }

  -- one that comes is made
  pub seat_made : (now : VComponent P C Q V H T E L) (place : List Step) (component : VComponent P C Q V H T E L) (work : List (Item P C Q V H T E L)) (seats : List (List Step))
      → place_of place ≡ p → component ≡ now → seats ≡ o.seats ++ place ∷ []
      → work ≡ o.work ++ items.Make g.scope g.name place component ∷ []
      → out_of (record o { work = work; seats = seats }) ≡ after (ground_of g) (made p (component_of now) ∷ []) (out_of o)
  unfolding out_of ground_of
  seat_made now place component work seats at copied more made_more =
      let all : map place_of seats ≡ map place_of o.seats ++ p ∷ [] =
      ap (λ ns. map place_of ns) more ∙ mapped place_of o.seats (place ∷ []) ∙ (λ t. map place_of o.seats ++ at t ∷ []) in
      let done : work_of work ≡ work_of o.work ++ state.Make g.scope (side_name_of g.name) p (component_of now) ∷ [] =
      ap (λ ws. work_of ws) made_more ∙ mapped item_of o.work (items.Make g.scope g.name place component ∷ [])
      ∙ (λ t. work_of o.work ++ state.Make g.scope (side_name_of g.name) (at t) (component_of (copied t)) ∷ []) in
      λ t. record (out_of o) { work = done t; seats = all t }

  -- the child of one that goes is dropped
  pub child_drops : (c : model.VComponent (types C Q V H T E L)) (child : ℕ) (drops : List (Item P C Q V H T E L)) → Some child ≡ child_at (side_of g.side.now).children p
      → drops ≡ o.drops ++ items.Drop child g.scope g.name ∷ [] → out_of (record o { drops = drops }) ≡ after (ground_of g) (left p c ∷ []) (out_of o)
  unfolding out_of ground_of
  child_drops c child drops is more =
      let all : work_of drops ≡ work_of o.drops ++ drop_at g.scope (side_name_of g.name) (child_at (side_of g.side.now).children p) =
      ap (λ ws. work_of ws) more ∙ mapped item_of o.drops (items.Drop child g.scope g.name ∷ [])
      ∙ ap (λ found. work_of o.drops ++ drop_at g.scope (side_name_of g.name) found) is in
      λ t. record (out_of o) { drops = all t }

  -- where it has none nothing is
  pub no_child : (c : model.VComponent (types C Q V H T E L)) → None ≡ child_at (side_of g.side.now).children p → out_of o ≡ after (ground_of g) (left p c ∷ []) (out_of o)
  unfolding out_of ground_of
  no_child c is =
      let all : work_of o.drops ≡ work_of o.drops ++ drop_at g.scope (side_name_of g.name) (child_at (side_of g.side.now).children p) =
      sym (append-nil (work_of o.drops)) ∙ ap (λ found. work_of o.drops ++ drop_at g.scope (side_name_of g.name) found) is in
      λ t. record (out_of o) { drops = all t }

module _ {P C Q V H T E L : Type 0} where
  pub nothing_found : (o : Patched P C Q V H T E L) (nodes seats : ℕ) → o.work ≡ [] → o.drops ≡ [] → o.nodes ≡ [] → o.seats ≡ []
      → o.nodes_to ≡ replicate nodes None → o.seats_to ≡ replicate seats None → out_of o ≡ nothing_yet nodes seats
  unfolding out_of
  nothing_found o nodes seats work drops all_nodes all_seats nodes_to seats_to =
      λ t. record { work = work_of (work t); drops = work_of (drops t); nodes = map node_of (all_nodes t); seats = map place_of (all_seats t); nodes_to = nodes_to t; seats_to = seats_to t }
