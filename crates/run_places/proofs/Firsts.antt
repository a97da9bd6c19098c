-- Where each is the first one at its place, no place is that of two.
use Rattle.std.proofs.Common.{ℕ, zero, suc, ◌+◌, ◌<◌, ◌≤◌, true, false, List, [], ◌∷◌, ◌≡◌, length, drop, sym, ap, subst, ◌∙◌, arith, inl, inr}
use Rattle.std.specs.Prelude.{slice_get, Some, None}
use Rattle.std.proofs.lemmas.Bool.{cases_lt}
use Rattle.std.proofs.lemmas.Grind.{common_steps}
use Rattle.rt_lemmas.proofs.Lists.{within_get as past_end}
use Rattle.rt_model.specs.Tree as model
use Rattle.rt_model.proofs.Maps.{pick_true, pick_false}
use Rattle.run_places.specs.declared.nodes.NodeAt.{NodeAt}
use Rattle.run_places.specs.declared.place.Step.{Step}
use Rattle.run_places.specs.Apart.{Apart}
use Rattle.run_places.specs.Indexed.{IsFirstNodes, IsFirstSeats, is_node_at, node_from, node_index, seat_index}
use Rattle.run_places.specs.Places.{node_of, place_of}
use Rattle.run_places.proofs.Hits.{firsts_apart, first_seats_apart}

-- one more of them
pub up_to : (P : ℕ → Type 0) (n : ℕ) → ((i : ℕ) → i < n → P i) → P n → (i : ℕ) → i < n + 1 → P i
up_to P n before own i low =
    elim (cases_lt i n) [
      | inl less ↦ before i less
      | inr past ↦ subst (λ m. P m) (let e : n ≡ i = omega (arith, low, past) in e) own
    ]

-- the node at an index is the first one at its place
pub first_node : (nodes : List NodeAt) (i : ℕ) (x : NodeAt) → slice_get nodes i ≡ Some x → node_index nodes (node_of x).0 (node_of x).1 ≡ Some i → IsFirstNodes nodes i
first_node nodes i x here found y there =
    let both : Some x ≡ Some y = sym here ∙ there in
    let same : x ≡ y = cc both in
    subst (λ z. node_index nodes (node_of z).0 (node_of z).1 ≡ Some i) same found

pub first_seat : (seats : List (List Step)) (i : ℕ) (x : List Step) → slice_get seats i ≡ Some x → seat_index seats (place_of x) ≡ Some i → IsFirstSeats seats i
first_seat seats i x here found y there =
    let both : Some x ≡ Some y = sym here ∙ there in
    let same : x ≡ y = cc both in
    subst (λ z. seat_index seats (place_of z) ≡ Some i) same found

pub all_nodes_apart : (nodes : List NodeAt) (n : ℕ) → length nodes ≤ n → ((i : ℕ) → i < n → IsFirstNodes nodes i) → Apart nodes
all_nodes_apart nodes n past first =
    firsts_apart nodes (λ i x here. first i (let low : i < length nodes = past_end nodes i x here in let e : i < n = omega (arith, low, past) in e) x here)

pub all_seats_apart : (seats : List (List Step)) (n : ℕ) → length seats ≤ n → ((i : ℕ) → i < n → IsFirstSeats seats i) → Apart seats
all_seats_apart seats n past first =
    first_seats_apart seats (λ i x here. first i (let low : i < length seats = past_end seats i x here in let e : i < n = omega (arith, low, past) in e) x here)

passed : (nodes : List NodeAt) (i n : ℕ) (p : model.Place) (k : model.Kind) → i < length nodes → is_node_at nodes p k i ≡ false
    → node_from n (drop i nodes) p k ≡ node_from (n + 1) (drop (suc i) nodes) p k
passed [] i n p k low other = absurd (let e : ⊥ = omega (arith, low) in e)
passed (x ∷ xs) zero n p k low other = pick_false (Some n) (node_from (n + 1) xs p k) other
passed (x ∷ xs) (suc i) n p k low other = passed xs i n p k (let e : i < length xs = omega (arith, low) in e) other

-- a node that stands elsewhere is passed
pub node_passed : (nodes : List NodeAt) (i n : ℕ) (p : model.Place) (k : model.Kind) → i < length nodes → is_node_at nodes p k i ≡ false
    → node_from n (drop i nodes) p k ≡ node_from (n + 1) (drop (i + 1) nodes) p k
node_passed nodes i n p k low other =
    passed nodes i n p k low other
    ∙ ap (λ j. node_from (n + 1) (drop j nodes) p k) (let e : suc i ≡ i + 1 = omega arith in e)

-- one that stands there is the first of those that are left
pub node_here : (nodes : List NodeAt) (i n : ℕ) (p : model.Place) (k : model.Kind) → i < length nodes → is_node_at nodes p k i ≡ true
    → node_from n (drop i nodes) p k ≡ Some n
node_here [] i n p k low here = absurd (let e : ⊥ = omega (arith, low) in e)
node_here (x ∷ xs) zero n p k low here = pick_true (Some n) (node_from (n + 1) xs p k) here
node_here (x ∷ xs) (suc i) n p k low here = node_here xs i n p k (let e : i < length xs = omega (arith, low) in e) here

-- where none is left none is found
pub none_after : (nodes : List NodeAt) (i n : ℕ) (p : model.Place) (k : model.Kind) → length nodes ≤ i → node_from n (drop i nodes) p k ≡ None
none_after nodes i n p k end =
    let gone : drop i nodes ≡ [] = grind (arith, common_steps, end) in
    ap (λ xs. node_from n xs p k) gone
