-- What a side keeps under indices of nodes and components is what the definitions keep by place.
use Rattle.std.proofs.Common.{ℕ, ◌+◌, List, [], ◌∷◌, ◌++◌, ◌≡◌, map, sym, ap, ◌∙◌, arith}
use Rattle.std.specs.Prelude.{None, Some, slice_get}
use Rattle.rt_model.specs.Lists.{at, or_else}
use Rattle.rt_model.specs.Tree as model
use Rattle.rt_model.specs.Tree.{Place}
use Rattle.rt_model.specs.Heard.{number_at}
use Rattle.rt_model.specs.Run.{child_at}
use Rattle.run_places.specs.declared.nodes.NodeAt.{NodeAt}
use Rattle.run_places.specs.declared.place.Step.{Step}
use Rattle.run_places.specs.Apart.{Apart}
use Rattle.run_places.specs.Indexed.{node_index, seat_index}
use Rattle.run_places.specs.Places.{node_of, place_of, placed, seated}
use Rattle.run_places.proofs.Hits.{node_sound, node_whole, seat_sound, seat_whole}
use Rattle.run_places.proofs.Placed.{child_nowhere, child_seated, number_nowhere, number_placed, placed_more, seated_more}

module _ (nodes : List NodeAt) (p : Place) (k : model.Kind) where
  -- at the index of a node it stands
  pub node_there : (i : ℕ) → Some i ≡ node_index nodes p k → slice_get (map node_of nodes) i ≡ Some (p, k)
  node_there i h =
      let found = node_sound 0 nodes p k i (sym h) in
      ap (λ n. slice_get (map node_of nodes) n) (let e : i ≡ found.0 = omega (arith, found.1) in e) ∙ found.2

  -- the number under the index of a node is the one at its place
  pub number_found : Apart nodes → (i : ℕ) → Some i ≡ node_index nodes p k → (pairs : List (ℕ × ℕ)) → number_at (placed (map node_of nodes) pairs) p k ≡ or_else 0 (at pairs i)
  number_found apart i h pairs = number_placed (map node_of nodes) p k i (node_there i h) only pairs
    where
      only : (j : ℕ) → slice_get (map node_of nodes) j ≡ Some (p, k) → j ≡ i
      only j there =
          let both : Some i ≡ Some (0 + j) = h ∙ node_whole 0 nodes p k j apart there in
          let same : i ≡ 0 + j = cc both in
          omega (arith, same)

  -- a place without a node has no number
  pub number_missing : Apart nodes → None ≡ node_index nodes p k → (pairs : List (ℕ × ℕ)) → number_at (placed (map node_of nodes) pairs) p k ≡ 0
  number_missing apart h pairs = number_nowhere (map node_of nodes) p k never pairs
    where
      never : (j : ℕ) → slice_get (map node_of nodes) j ≡ Some (p, k) → ⊥
      never j there = let both : None ≡ Some (0 + j) = h ∙ node_whole 0 nodes p k j apart there in cc both

  -- one more number under the index of a node is one more at its place
  pub number_more : (i n : ℕ) → Some i ≡ node_index nodes p k → (pairs more : List (ℕ × ℕ)) → more ≡ pairs ++ (i, n) ∷ []
      → placed (map node_of nodes) more ≡ placed (map node_of nodes) pairs ++ (p, k, n) ∷ []
  number_more i n h pairs more is = ap (λ es. placed (map node_of nodes) es) is ∙ placed_more (map node_of nodes) pairs i n (p, k) (node_there i h)

module _ (seats : List (List Step)) (p : Place) where
  -- at the index of a component it stands
  pub seat_there : (i : ℕ) → Some i ≡ seat_index seats p → slice_get (map place_of seats) i ≡ Some p
  seat_there i h =
      let found = seat_sound 0 seats p i (sym h) in
      ap (λ n. slice_get (map place_of seats) n) (let e : i ≡ found.0 = omega (arith, found.1) in e) ∙ found.2

  -- the child scope under the index of a component is the one at its place
  pub child_found : Apart seats → (i : ℕ) → Some i ≡ seat_index seats p → (pairs : List (ℕ × ℕ)) → child_at (seated (map place_of seats) pairs) p ≡ at pairs i
  child_found apart i h pairs = child_seated (map place_of seats) p i (seat_there i h) only pairs
    where
      only : (j : ℕ) → slice_get (map place_of seats) j ≡ Some p → j ≡ i
      only j there =
          let both : Some i ≡ Some (0 + j) = h ∙ seat_whole 0 seats p j apart there in
          let same : i ≡ 0 + j = cc both in
          omega (arith, same)

  -- a place without a component has no child scope
  pub child_missing : Apart seats → None ≡ seat_index seats p → (pairs : List (ℕ × ℕ)) → child_at (seated (map place_of seats) pairs) p ≡ None
  child_missing apart h pairs = child_nowhere (map place_of seats) p never pairs
    where
      never : (j : ℕ) → slice_get (map place_of seats) j ≡ Some p → ⊥
      never j there = let both : None ≡ Some (0 + j) = h ∙ seat_whole 0 seats p j apart there in cc both

  -- one more child scope under the index of a component is one more at its place
  pub child_more : (i n : ℕ) → Some i ≡ seat_index seats p → (pairs more : List (ℕ × ℕ)) → more ≡ pairs ++ (i, n) ∷ []
      → seated (map place_of seats) more ≡ seated (map place_of seats) pairs ++ (p, n) ∷ []
  child_more i n h pairs more is = ap (λ es. seated (map place_of seats) es) is ∙ seated_more (map place_of seats) pairs i n p (seat_there i h)
