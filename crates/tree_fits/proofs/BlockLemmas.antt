-- A walk that ends with all slots seen has met them in order, and nothing that does not fit.
use Rattle.std.proofs.Common.{◌≡◌, ◌≢◌, ℕ, ◌+◌, ◌<◌, ◌≤◌, List, [], ◌∷◌, length, get_or, drop, true, false, refl, inl, inr, sym, ◌∙◌, ap, add-one, drop-cons, arith}
use Rattle.std.proofs.Math.ListN.{drop_of_length-le}
use Rattle.std.proofs.lemmas.Bool.Decides.{leb_tells}
use Rattle.std.proofs.lemmas.Bool.{eq-eqb, ne_eqb, le-ltb, lt-ltb}
use Rattle.std.specs.Prelude.{Bool, ◌&&◌, ◌==◌, nat_le, Some, None, if◌then◌else◌, option_and_then}
use Rattle.std.specs.Option.{option_map}
use Rattle.std.specs.List.{enumerate_from, list_all}
use Rattle.std.specs.Str.{bytes_eq}
use Rattle.std.specs.Cmp.Lexicographic.{pointwise}
use Rattle.rt_lemmas.proofs.Bools.{and_false, and_true}
use Rattle.tree_nodes.specs.Met.{Met, AtElement, AtAttribute, AtText, AtSlot}
use Rattle.tree_nodes.specs.Names.{distinct, names_in}
use Rattle.tree_nodes.specs.BlockTest.{Sought, met_fits, met_as}
use Rattle.tree_nodes.specs.Slots.{Slot, node_slots, attr_slots, same_slot}
use Rattle.tree_fits.specs.Walk.{walked, ends}
use Rattle.tree_fits.specs.declared.walk.Seen.{Seen}

-- whether the slots are the ones at the paths from the k-th on
abbrev rest_is : List Slot → List (List ℕ) → ℕ → Bool
rest_is slots paths k = pointwise same_slot slots (enumerate_from k (drop k paths))

rest_is-end : (slot : Slot) (slots : List Slot) (paths : List (List ℕ)) (k : ℕ) → length paths ≤ k → rest_is (slot ∷ slots) paths k ≡ false
rest_is-end slot slots paths k end = ap (λ ps. pointwise same_slot (slot ∷ slots) (enumerate_from k ps)) (drop_of_length-le paths end)

rest_is-next : (id : ℕ) (path : List ℕ) (slots : List Slot) (paths : List (List ℕ)) (k : ℕ) → k < length paths
    → rest_is ((id, path) ∷ slots) paths k ≡ ((id == k && bytes_eq (get_or paths k []) path) && rest_is slots paths (k + 1))
rest_is-next id path slots paths k within =
    let e : drop k paths ≡ get_or paths k [] ∷ drop (k + 1) paths = rw (add-one, drop-cons paths k []) refl in
    ap (λ ps. pointwise same_slot ((id, path) ∷ slots) (enumerate_from k ps)) e

-- no slot is left exactly where all paths were passed
rest_is-none : (paths : List (List ℕ)) (k : ℕ) → k ≤ length paths → rest_is [] paths k ≡ (k == length paths)
rest_is-none paths k within = elim (leb_tells (length paths) k) [
  | inl w ↦
      let same : k ≡ length paths = omega (arith, w.1) in
      ap (λ ps. pointwise same_slot [] (enumerate_from k ps)) (drop_of_length-le paths w.1) ∙ sym (eq-eqb k (length paths) same)
  | inr w ↦
      let lt : k < length paths = w.1 in
      let e : drop k paths ≡ get_or paths k [] ∷ drop (k + 1) paths = rw (add-one, drop-cons paths k []) refl in
      let ne : k ≢ length paths = omega arith in
      ap (λ ps. pointwise same_slot [] (enumerate_from k ps)) e ∙ sym (ne_eqb k (length paths) ne)
]

-- what is met and fits by itself, or does not
kept : (s : Sought) (ms : List Met) (n m : ℕ) (seen : Seen) (t N A R : Bool) → ends n m (walked s ms seen) ≡ (N && (A && R))
    → ends n m (option_and_then (walked s ms) (if t then Some seen else None)) ≡ (N && (A && (t && R)))
kept s ms n m seen true N A R h = h
kept s ms n m seen false N A R h = sym (ap (λ b. N && b) (and_false A) ∙ and_false N)

-- a node slot past the listed paths
refused : (t : Bool) (s : Sought) (ms : List Met) (n m : ℕ) (f : ℕ → Seen) → ends n m (option_and_then (walked s ms) (if t then option_map f None else None)) ≡ false
refused true s ms n m f = refl
refused false s ms n m f = refl

-- an attribute slot that is the next one, or is not
noted : (s : Sought) (ms : List Met) (n m : ℕ) (f : ℕ → Seen) (k : ℕ) (b N A R : Bool) → ends n m (walked s ms (f k)) ≡ (N && (A && R))
    → ends n m (option_and_then (walked s ms) (option_map f (if b then Some k else None))) ≡ (N && ((b && A) && R))
noted s ms n m f k true N A R h = h
noted s ms n m f k false N A R h = sym (and_false N)

-- a node slot that is the next one and stands within the levels, or does not
filled : (s : Sought) (ms : List Met) (n m : ℕ) (f : ℕ → Seen) (k : ℕ) (t b N A R : Bool) → ends n m (walked s ms (f k)) ≡ (N && (A && R))
    → ends n m (option_and_then (walked s ms) (if t then option_map f (if b then Some k else None) else None)) ≡ ((b && N) && (A && (t && R)))
filled s ms n m f k true true N A R h = h
filled s ms n m f k true false N A R h = refl
filled s ms n m f k false true N A R h = sym (ap (λ b. N && b) (and_false A) ∙ and_false N)
filled s ms n m f k false false N A R h = refl

abbrev seen_at : ℕ → ℕ → Seen
seen_at k a = record { nodes = k; attrs = a }

-- a walk from the k-th node slot and the a-th attribute slot on
ended : (s : Sought) (ms : List Met) (k a : ℕ) → k ≤ length s.node_paths → a ≤ length s.attr_paths
    → ends (length s.node_paths) (length s.attr_paths) (walked s ms (seen_at k a)) ≡
    (rest_is (node_slots ms) s.node_paths k && (rest_is (attr_slots ms) s.attr_paths a && list_all (met_fits s.levels s.names) ms))
ended s [] k a kin ain =
    ap (λ b. b && (a == length s.attr_paths)) (sym (rest_is-none s.node_paths k kin)) ∙
    ap (λ b. rest_is [] s.node_paths k && b) (sym (rest_is-none s.attr_paths a ain) ∙ sym (and_true _))
ended s (AtElement path attrs children ∷ ms) k a kin ain =
    kept s ms _ _ (seen_at k a) (nat_le (length path) s.levels && (nat_le children 256 && distinct (names_in s.names attrs))) _ _ _ (ended s ms k a kin ain)
ended s (AtText path ∷ ms) k a kin ain =
    kept s ms _ _ (seen_at k a) (nat_le (length path) s.levels) _ _ _ (ended s ms k a kin ain)
ended s (AtAttribute path id ∷ ms) k a kin ain = elim (leb_tells (length s.attr_paths) a) [
  | inl w ↦
      ap (λ (t : Bool). ends (length s.node_paths) (length s.attr_paths) (option_and_then (walked s ms) (option_map (λ n. seen_at k n) (if t && (id == a && bytes_eq (get_or s.attr_paths a []) path) then Some (a + 1) else None)))) (le-ltb a (length s.attr_paths) w.1) ∙
      sym (ap (λ r. rest_is (node_slots ms) s.node_paths k && (r && list_all (met_fits s.levels s.names) ms)) (rest_is-end (id, path) (attr_slots ms) s.attr_paths a w.1) ∙ and_false _)
  | inr w ↦
      let more : a + 1 ≤ length s.attr_paths = omega (arith, w.1) in
      ap (λ (t : Bool). ends (length s.node_paths) (length s.attr_paths) (option_and_then (walked s ms) (option_map (λ n. seen_at k n) (if t && (id == a && bytes_eq (get_or s.attr_paths a []) path) then Some (a + 1) else None)))) (lt-ltb a (length s.attr_paths) w.1) ∙
      noted s ms _ _ (λ n. seen_at k n) (a + 1) (id == a && bytes_eq (get_or s.attr_paths a []) path) _ _ _ (ended s ms k (a + 1) kin more) ∙
      sym (ap (λ r. rest_is (node_slots ms) s.node_paths k && (r && list_all (met_fits s.levels s.names) ms)) (rest_is-next id path (attr_slots ms) s.attr_paths a w.1))
]
ended s (AtSlot path id ∷ ms) k a kin ain = elim (leb_tells (length s.node_paths) k) [
  | inl w ↦
      ap (λ (t : Bool). ends (length s.node_paths) (length s.attr_paths) (option_and_then (walked s ms) (if nat_le (length path) s.levels then option_map (λ n. seen_at n a) (if t && (id == k && bytes_eq (get_or s.node_paths k []) path) then Some (k + 1) else None) else None))) (le-ltb k (length s.node_paths) w.1) ∙
      refused (nat_le (length path) s.levels) s ms _ _ (λ n. seen_at n a) ∙
      sym (ap (λ r. r && (rest_is (attr_slots ms) s.attr_paths a && list_all (met_fits s.levels s.names) (AtSlot path id ∷ ms))) (rest_is-end (id, path) (node_slots ms) s.node_paths k w.1))
  | inr w ↦
      let more : k + 1 ≤ length s.node_paths = omega (arith, w.1) in
      ap (λ (t : Bool). ends (length s.node_paths) (length s.attr_paths) (option_and_then (walked s ms) (if nat_le (length path) s.levels then option_map (λ n. seen_at n a) (if t && (id == k && bytes_eq (get_or s.node_paths k []) path) then Some (k + 1) else None) else None))) (lt-ltb k (length s.node_paths) w.1) ∙
      filled s ms _ _ (λ n. seen_at n a) (k + 1) (nat_le (length path) s.levels) (id == k && bytes_eq (get_or s.node_paths k []) path) _ _ _ (ended s ms (k + 1) a more ain) ∙
      sym (ap (λ r. r && (rest_is (attr_slots ms) s.attr_paths a && list_all (met_fits s.levels s.names) (AtSlot path id ∷ ms))) (rest_is-next id path (node_slots ms) s.node_paths k w.1))
]

-- a whole walk ends with all slots seen exactly where they are met in order and all that is met fits
pub ended-met_as : (s : Sought) (ms : List Met) → ends (length s.node_paths) (length s.attr_paths) (walked s ms (seen_at 0 0)) ≡ met_as s ms
ended-met_as s ms = ended s ms 0 0 (omega arith) (omega arith)
