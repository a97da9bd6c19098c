-- The first node or component of a place is the first one at an index that its key names.
use Rattle.std.proofs.Common.{ℕ, zero, suc, ◌+◌, Bool, true, false, ◌&&◌, List, [], ◌∷◌, ◌++◌, ◌≡◌, nat_eq, length, map, refl, sym, ap, ◌∙◌, arith, append_assoc}
use Rattle.std.specs.Prelude.{slice_get, Option, Some, None, if◌then◌else◌}
use Rattle.rt_lemmas.proofs.Numbers.{eq_same as itself}
use Rattle.rt_lemmas.proofs.Lists.{one_longer}
use Rattle.rt_model.specs.Tree as model
use Rattle.rt_model.specs.Tree.{Place, same_place, same_kind}
use Rattle.rt_model.proofs.Maps.{by_test, pick_true, pick_false}
use Rattle.rt_model.proofs.Among.{kind_same, place_same}
use Rattle.rt_model.proofs.SamePlaces.{same_place-true, same_kind-true}
use Rattle.rt_model.proofs.Conjunctions.{and-left, and-right}
use Rattle.run_places.specs.declared.nodes.NodeAt.{NodeAt}
use Rattle.run_places.specs.declared.place.Kind.{Kind}
use Rattle.run_places.specs.declared.place.Kind.TheVariants as kinds
use Rattle.run_places.specs.declared.place.Step.{Step}
use Rattle.run_places.specs.Apart.{Apart}
use Rattle.run_places.specs.Keys.{positions_from}
use Rattle.run_places.specs.Indexed.{IsFirstNodes, IsFirstSeats, first_of_nodes, first_of_seats, is_node, is_node_at, is_seat, is_seat_at, node_from, node_index, seat_from, seat_index}
use Rattle.run_places.specs.PlaceKeys.{node_key, place_key, seat_key, steps_key}
use Rattle.run_places.specs.Places.{kind_of, node_of, place_of}
use Rattle.run_places.proofs.Backs.{place-apart}

-- the first of these indices at which a node stands
abbrev pub first_in_nodes : List NodeAt → Place → model.Kind → List ℕ → Option ℕ
first_in_nodes nodes p k [] = None
first_in_nodes nodes p k (i ∷ is) = if is_node_at nodes p k i then Some i else first_in_nodes nodes p k is

-- the first of them at which a component stands
abbrev pub first_in_seats : List (List Step) → Place → List ℕ → Option ℕ
first_in_seats seats p [] = None
first_in_seats seats p (i ∷ is) = if is_seat_at seats p i then Some i else first_in_seats seats p is

-- kinds that are one in the definitions are one
abbrev kind_back : model.Kind → Kind
kind_back model.an_element = kinds.Element
kind_back model.a_static_text = kinds.StaticText
kind_back model.a_text = kinds.Text
kind_back model.a_placeholder = kinds.Placeholder
kind_back model.an_empty_fragment = kinds.EmptyFragment

kind-back : (k : Kind) → kind_back (kind_of k) ≡ k
kind-back kinds.Element = refl
kind-back kinds.StaticText = refl
kind-back kinds.Text = refl
kind-back kinds.Placeholder = refl
kind-back kinds.EmptyFragment = refl

kind-apart : (k l : Kind) → kind_of k ≡ kind_of l → k ≡ l
kind-apart k l h = sym (kind-back k) ∙ ap (λ m. kind_back m) h ∙ kind-back l

-- a node of the place has the key of the place
own_key : (n : NodeAt) (place : List Step) (kind : Kind) → is_node (place_of place) (kind_of kind) (Some n) ≡ true → nat_eq (node_key n) (place_key place kind) ≡ true
own_key n place kind h =
    let k : n.kind ≡ kind = kind-apart n.kind kind (same_kind-true (node_of n).1 (kind_of kind) (and-left (same_kind (node_of n).1 (kind_of kind)) (same_place (node_of n).0 (place_of place)) h)) in
    let p : n.place ≡ place = place-apart n.place place (same_place-true (node_of n).0 (place_of place) (and-right (same_kind (node_of n).1 (kind_of kind)) (same_place (node_of n).0 (place_of place)) h)) in
    (λ i. nat_eq (place_key (p i) (k i)) (place_key place kind)) ∙ itself (place_key place kind)

nth_joined : {A : Type 0} (front : List A) (x : A) (rest : List A) → slice_get (front ++ x ∷ rest) (length front) ≡ Some x
nth_joined [] x rest = refl
nth_joined (y ∷ ys) x rest = nth_joined ys x rest

module _ (place : List Step) (kind : Kind) where
  found_from : (front rest : List NodeAt)
      → node_from (length front) rest (place_of place) (kind_of kind)
      ≡ first_in_nodes (front ++ rest) (place_of place) (kind_of kind) (positions_from (length front) (place_key place kind) (map node_key rest))
  found_from front [] = refl
  found_from front (n ∷ rest) =
      let p : Place = place_of place in
      let k : model.Kind = kind_of kind in
      let all : List NodeAt = front ++ n ∷ rest in
      let there : slice_get all (length front) ≡ Some n = nth_joined front n rest in
      let later : List ℕ = positions_from (length front + 1) (place_key place kind) (map node_key rest) in
      let more : node_from (length front + 1) rest p k ≡ first_in_nodes all p k later =
      ap (λ m. node_from m rest p k) (sym (one_longer front n))
      ∙ found_from (front ++ n ∷ []) rest
      ∙ (λ i. first_in_nodes (append_assoc front (n ∷ []) rest i) p k (positions_from (one_longer front n i) (place_key place kind) (map node_key rest))) in
      by_test (is_node p k (Some n))
      (
      λ q.
      pick_true (Some (length front)) (node_from (length front + 1) rest p k) q
      ∙ sym
      (ap (λ (b : Bool). first_in_nodes all p k (if b then length front ∷ later else later)) (own_key n place kind q)
      ∙ pick_true (Some (length front)) (first_in_nodes all p k later) (ap (λ o. is_node p k o) there ∙ q))
      )
      (
      λ q.
      pick_false (Some (length front)) (node_from (length front + 1) rest p k) q ∙ more
      ∙ sym (passed (nat_eq (node_key n) (place_key place kind)) all (length front) n there q later)
      )
    where
      passed : (b : Bool) (all : List NodeAt) (i : ℕ) (n : NodeAt) → slice_get all i ≡ Some n → is_node (place_of place) (kind_of kind) (Some n) ≡ false → (is : List ℕ)
          → first_in_nodes all (place_of place) (kind_of kind) (if b then i ∷ is else is) ≡ first_in_nodes all (place_of place) (kind_of kind) is
      passed false all i n there q is = refl
      passed true all i n there q is =
          pick_false (Some i) (first_in_nodes all (place_of place) (kind_of kind) is) (ap (λ o. is_node (place_of place) (kind_of kind) o) there ∙ q)

  -- the first node of a place is the first one at the positions of its key
  pub node_found : (nodes : List NodeAt) → node_index nodes (place_of place) (kind_of kind) ≡ first_in_nodes nodes (place_of place) (kind_of kind) (positions_from 0 (place_key place kind) (map node_key nodes))
  node_found nodes = found_from [] nodes

-- the same of components

own_seat : (x place : List Step) → is_seat (place_of place) (Some x) ≡ true → nat_eq (seat_key x) (steps_key place 6) ≡ true
own_seat x place h =
    let p : x ≡ place = place-apart x place (same_place-true (place_of x) (place_of place) h) in
    (λ i. nat_eq (steps_key (p i) 6) (steps_key place 6)) ∙ itself (steps_key place 6)

module _ (place : List Step) where
  sat_from : (front rest : List (List Step)) → seat_from (length front) rest (place_of place) ≡ first_in_seats (front ++ rest) (place_of place) (positions_from (length front) (steps_key place 6) (map seat_key rest))
  sat_from front [] = refl
  sat_from front (x ∷ rest) =
      let p : Place = place_of place in
      let all : List (List Step) = front ++ x ∷ rest in
      let there : slice_get all (length front) ≡ Some x = nth_joined front x rest in
      let later : List ℕ = positions_from (length front + 1) (steps_key place 6) (map seat_key rest) in
      let more : seat_from (length front + 1) rest p ≡ first_in_seats all p later =
      ap (λ m. seat_from m rest p) (sym (one_longer front x))
      ∙ sat_from (front ++ x ∷ []) rest
      ∙ (λ i. first_in_seats (append_assoc front (x ∷ []) rest i) p (positions_from (one_longer front x i) (steps_key place 6) (map seat_key rest))) in
      by_test (is_seat p (Some x))
      (
      λ q.
      pick_true (Some (length front)) (seat_from (length front + 1) rest p) q
      ∙ sym
      (ap (λ (b : Bool). first_in_seats all p (if b then length front ∷ later else later)) (own_seat x place q)
      ∙ pick_true (Some (length front)) (first_in_seats all p later) (ap (λ o. is_seat p o) there ∙ q))
      )
      (
      λ q.
      pick_false (Some (length front)) (seat_from (length front + 1) rest p) q ∙ more
      ∙ sym (passed (nat_eq (seat_key x) (steps_key place 6)) all (length front) x there q later)
      )
    where
      passed : (b : Bool) (all : List (List Step)) (i : ℕ) (x : List Step) → slice_get all i ≡ Some x → is_seat (place_of place) (Some x) ≡ false → (is : List ℕ)
          → first_in_seats all (place_of place) (if b then i ∷ is else is) ≡ first_in_seats all (place_of place) is
      passed false all i x there q is = refl
      passed true all i x there q is = pick_false (Some i) (first_in_seats all (place_of place) is) (ap (λ o. is_seat (place_of place) o) there ∙ q)

  pub seat_found : (seats : List (List Step)) → seat_index seats (place_of place) ≡ first_in_seats seats (place_of place) (positions_from 0 (steps_key place 6) (map seat_key seats))
  seat_found seats = sat_from [] seats

-- beside keys stand the indices
pub among_nodes : (nodes : List NodeAt) (p : Place) (k : model.Kind) (es : List (ℕ × ℕ)) → first_of_nodes nodes p k es ≡ first_in_nodes nodes p k (map (λ e. e.1) es)
among_nodes nodes p k [] = refl
among_nodes nodes p k (e ∷ es) = ap (λ o. if is_node_at nodes p k e.1 then Some e.1 else o) (among_nodes nodes p k es)

pub among_seats : (seats : List (List Step)) (p : Place) (es : List (ℕ × ℕ)) → first_of_seats seats p es ≡ first_in_seats seats p (map (λ e. e.1) es)
among_seats seats p [] = refl
among_seats seats p (e ∷ es) = ap (λ o. if is_seat_at seats p e.1 then Some e.1 else o) (among_seats seats p es)

-- what is found stands there

pub node_sound : (n : ℕ) (nodes : List NodeAt) (p : Place) (k : model.Kind) (i : ℕ) → node_from n nodes p k ≡ Some i → (m : ℕ) × (i ≡ n + m) × (slice_get (map node_of nodes) m ≡ Some (p, k))
node_sound n [] p k i h = cc h
node_sound n (x ∷ xs) p k i h =
    by_test (is_node p k (Some x))
    (
    λ q.
    let own : Some n ≡ Some i = sym (pick_true (Some n) (node_from (n + 1) xs p k) q) ∙ h in
    let same : n ≡ i = cc own in
    let places : (node_of x).0 ≡ p = same_place-true (node_of x).0 p (and-right (same_kind (node_of x).1 k) (same_place (node_of x).0 p) q) in
    let kinds : (node_of x).1 ≡ k = same_kind-true (node_of x).1 k (and-left (same_kind (node_of x).1 k) (same_place (node_of x).0 p) q) in
    (0, (let e : i ≡ n + 0 = omega (arith, same) in e), λ t. Some (places t, kinds t))
    )
    (
    λ q.
    let later = node_sound (n + 1) xs p k i (sym (pick_false (Some n) (node_from (n + 1) xs p k) q) ∙ h) in
    (suc later.0, (let e : i ≡ n + suc later.0 = omega (arith, later.1) in e), later.2)
    )

pub seat_sound : (n : ℕ) (seats : List (List Step)) (p : Place) (i : ℕ) → seat_from n seats p ≡ Some i → (m : ℕ) × (i ≡ n + m) × (slice_get (map place_of seats) m ≡ Some p)
seat_sound n [] p i h = cc h
seat_sound n (x ∷ xs) p i h =
    by_test (is_seat p (Some x))
    (
    λ q.
    let own : Some n ≡ Some i = sym (pick_true (Some n) (seat_from (n + 1) xs p) q) ∙ h in
    let same : n ≡ i = cc own in
    (0, (let e : i ≡ n + 0 = omega (arith, same) in e), ap Some (same_place-true (place_of x) p q))
    )
    (
    λ q.
    let later = seat_sound (n + 1) xs p i (sym (pick_false (Some n) (seat_from (n + 1) xs p) q) ∙ h) in
    (suc later.0, (let e : i ≡ n + suc later.0 = omega (arith, later.1) in e), later.2)
    )

-- and what stands somewhere is found there, where nothing stands twice

apart_tail : {A : Type 0} (x : A) (xs : List A) → Apart (x ∷ xs) → Apart xs
apart_tail x xs apart i j y here there = let e : suc i ≡ suc j = apart (suc i) (suc j) y here there in cc e

at_node : (nodes : List NodeAt) (m : ℕ) (p : Place) (k : model.Kind) → slice_get (map node_of nodes) m ≡ Some (p, k) → (y : NodeAt) × (slice_get nodes m ≡ Some y) × (node_of y ≡ (p, k))
at_node [] m p k h = cc h
at_node (x ∷ xs) zero p k h = (x, refl, cc h)
at_node (x ∷ xs) (suc m) p k h = at_node xs m p k h

node-back : (x y : NodeAt) → node_of x ≡ node_of y → x ≡ y
node-back x y h =
    let place : x.place ≡ y.place = place-apart x.place y.place (ap (λ (q : Place × model.Kind). q.0) h) in
    let kind : x.kind ≡ y.kind = kind-apart x.kind y.kind (ap (λ (q : Place × model.Kind). q.1) h) in
    λ t. record { place = place t; kind = kind t }

pub node_whole : (n : ℕ) (nodes : List NodeAt) (p : Place) (k : model.Kind) (m : ℕ) → Apart nodes → slice_get (map node_of nodes) m ≡ Some (p, k) → node_from n nodes p k ≡ Some (n + m)
node_whole n [] p k m apart h = cc h
node_whole n (x ∷ xs) p k zero apart h =
    let both : node_of x ≡ (p, k) = cc h in
    pick_true (Some n) (node_from (n + 1) xs p k) ((λ t. same_kind ((both t).1) k && same_place ((both t).0) p) ∙ (λ t. kind_same k t && place_same p t)) ∙ ap Some (let e : n ≡ n + 0 = omega arith in e)
node_whole n (x ∷ xs) p k (suc m) apart h =
    by_test (is_node p k (Some x))
    (
    λ q.
    let places : (node_of x).0 ≡ p = same_place-true (node_of x).0 p (and-right (same_kind (node_of x).1 k) (same_place (node_of x).0 p) q) in
    let kinds : (node_of x).1 ≡ k = same_kind-true (node_of x).1 k (and-left (same_kind (node_of x).1 k) (same_place (node_of x).0 p) q) in
    let later = at_node xs m p k h in
    let own : node_of x ≡ node_of later.0 = (λ t. (places t, kinds t)) ∙ sym later.2 in
    let again : 0 ≡ suc m = apart 0 (suc m) x refl (later.1 ∙ ap Some (sym (node-back x later.0 own))) in
    cc again
    )
    (
    λ q.
    pick_false (Some n) (node_from (n + 1) xs p k) q ∙ node_whole (n + 1) xs p k m (apart_tail x xs apart) h ∙ ap Some (let e : n + 1 + m ≡ n + suc m = omega arith in e)
    )

at_seat : (seats : List (List Step)) (m : ℕ) (p : Place) → slice_get (map place_of seats) m ≡ Some p → (y : List Step) × (slice_get seats m ≡ Some y) × (place_of y ≡ p)
at_seat [] m p h = cc h
at_seat (x ∷ xs) zero p h = (x, refl, cc h)
at_seat (x ∷ xs) (suc m) p h = at_seat xs m p h

pub seat_whole : (n : ℕ) (seats : List (List Step)) (p : Place) (m : ℕ) → Apart seats → slice_get (map place_of seats) m ≡ Some p → seat_from n seats p ≡ Some (n + m)
seat_whole n [] p m apart h = cc h
seat_whole n (x ∷ xs) p zero apart h =
    let own : place_of x ≡ p = cc h in
    pick_true (Some n) (seat_from (n + 1) xs p) (ap (λ z. same_place z p) own ∙ place_same p) ∙ ap Some (let e : n ≡ n + 0 = omega arith in e)
seat_whole n (x ∷ xs) p (suc m) apart h =
    by_test (is_seat p (Some x))
    (
    λ q.
    let later = at_seat xs m p h in
    let own : place_of x ≡ place_of later.0 = same_place-true (place_of x) p q ∙ sym later.2 in
    let again : 0 ≡ suc m = apart 0 (suc m) x refl (later.1 ∙ ap Some (sym (place-apart x later.0 own))) in
    cc again
    )
    (
    λ q.
    pick_false (Some n) (seat_from (n + 1) xs p) q ∙ seat_whole (n + 1) xs p m (apart_tail x xs apart) h ∙ ap Some (let e : n + 1 + m ≡ n + suc m = omega arith in e)
    )

-- where each is the first one at its place nothing stands twice

pub firsts_apart : (nodes : List NodeAt) → ((i : ℕ) → IsFirstNodes nodes i) → Apart nodes
firsts_apart nodes first i j x here there =
    let both : Some i ≡ Some j = sym (first i x here) ∙ first j x there in
    cc both

pub first_seats_apart : (seats : List (List Step)) → ((i : ℕ) → IsFirstSeats seats i) → Apart seats
first_seats_apart seats first i j x here there =
    let both : Some i ≡ Some j = sym (first i x here) ∙ first j x there in
    cc both
