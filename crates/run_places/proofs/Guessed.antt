-- What stands at an index is what is found, where nothing stands twice.
use Rattle.std.proofs.Common.{ℕ, zero, suc, ◌+◌, true, List, [], ◌∷◌, ◌≡◌, map, sym, ap, ◌∙◌, arith}
use Rattle.std.specs.Prelude.{Some, slice_get}
use Rattle.rt_model.specs.Tree as model
use Rattle.rt_model.specs.Tree.{Place, same_kind, same_place}
use Rattle.rt_model.proofs.Conjunctions.{and-left, and-right}
use Rattle.rt_model.proofs.SamePlaces.{same_kind-true, same_place-true}
use Rattle.run_places.specs.declared.nodes.NodeAt.{NodeAt}
use Rattle.run_places.specs.declared.place.Step.{Step}
use Rattle.run_places.specs.Apart.{Apart}
use Rattle.run_places.specs.Indexed.{is_node_at, is_seat_at, node_index, seat_index}
use Rattle.run_places.specs.Places.{node_of, place_of}
use Rattle.run_places.proofs.Hits.{node_whole, seat_whole}

stands_node : (nodes : List NodeAt) (p : Place) (k : model.Kind) (i : ℕ) → is_node_at nodes p k i ≡ true → slice_get (map node_of nodes) i ≡ Some (p, k)
stands_node [] p k i h = cc h
stands_node (x ∷ xs) p k zero h =
    let places : (node_of x).0 ≡ p = same_place-true (node_of x).0 p (and-right (same_kind (node_of x).1 k) (same_place (node_of x).0 p) h) in
    let kinds : (node_of x).1 ≡ k = same_kind-true (node_of x).1 k (and-left (same_kind (node_of x).1 k) (same_place (node_of x).0 p) h) in
    λ t. Some (places t, kinds t)
stands_node (x ∷ xs) p k (suc i) h = stands_node xs p k i h

stands_seat : (seats : List (List Step)) (p : Place) (i : ℕ) → is_seat_at seats p i ≡ true → slice_get (map place_of seats) i ≡ Some p
stands_seat [] p i h = cc h
stands_seat (x ∷ xs) p zero h = ap Some (same_place-true (place_of x) p h)
stands_seat (x ∷ xs) p (suc i) h = stands_seat xs p i h

-- a node that stands where it was guessed is found there
pub node_guessed : (nodes : List NodeAt) (p : Place) (k : model.Kind) (i : ℕ) → Apart nodes → is_node_at nodes p k i ≡ true → Some i ≡ node_index nodes p k
node_guessed nodes p k i apart h =
    ap Some (let e : i ≡ 0 + i = omega arith in e) ∙ sym (node_whole 0 nodes p k i apart (stands_node nodes p k i h))

-- and so is a component
pub seat_guessed : (seats : List (List Step)) (p : Place) (i : ℕ) → Apart seats → is_seat_at seats p i ≡ true → Some i ≡ seat_index seats p
seat_guessed seats p i apart h =
    ap Some (let e : i ≡ 0 + i = omega arith in e) ∙ sym (seat_whole 0 seats p i apart (stands_seat seats p i h))
