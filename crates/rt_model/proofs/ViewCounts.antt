-- How often a number stands in what a tree shows: as often as its spots show it, so once at most where no two show it.
use Rattle.std.proofs.Common.{ℕ, zero, suc, ◌+◌, ◌≤◌, ◌<◌, Bool, true, false, List, [], ◌∷◌, ◌++◌, ◌≡◌, refl, nat_eq, arith}
use Rattle.std.specs.Prelude.{Contains, if◌then◌else◌}
use Rattle.std.proofs.lemmas.List.Elements.{All-contains}
use Rattle.rt_model.specs.Tree.{Types, TemplateNodes, no_nodes, element_node, text_node, slot_node, Template, Attribute, Tree, block, Slots, no_slots, more_slots, Slot, text_slot, placeholder_slot, component_slot, fragment_slot, Trees, no_trees, more_trees, item, Place, Spot, node_at, component_at, place_in, node_spots, spots, slots_spots, slot_spots, item_spots}
use Rattle.rt_model.specs.State.{Side}
use Rattle.rt_model.specs.Run.{child_at}
use Rattle.rt_model.specs.Document.{Forest, Empty, Node, join_rows, count_of}
use Rattle.rt_model.specs.Heard.{number_at}
use Rattle.rt_model.specs.View.{child_view, nodes_view, tree_view, slots_view, slot_view, items_view}
use Rattle.rt_model.proofs.SamePlaces.{contains_here, contains_later}
use Rattle.rt_model.proofs.Places.{place_of, Apart, Distinct}

pub count_join : (i : ℕ) (f g : Forest) → count_of i (join_rows f g) ≡ count_of i f + count_of i g
count_join i Empty g = omega arith
count_join i (Node n content children rest) g = let after : count_of i (join_rows rest g) ≡ count_of i rest + count_of i g = count_join i rest g in omega arith

-- a test counts as 1 where it holds
abbrev pub once : Bool → ℕ
once b = if b then 1 else 0

-- a test counts once at most
pub one_if : (b : Bool) → once b ≤ 1
one_if true = omega arith
one_if false = omega arith

-- a test that counts holds
pub passes : (b : Bool) → 0 < once b → b ≡ true
passes true h = refl
passes false h = absurd (omega arith)

module _ {K : Types} (side : Side K) (inner : ℕ → Forest) (i : ℕ) where
  -- how often the number stands in what a spot shows
  abbrev pub shown : Spot K → ℕ
  shown (node_at p k) = once (nat_eq (number_at side.numbers p k) i)
  shown (component_at p c) = count_of i (child_view inner (child_at side.children p))

  -- how often it stands in what all of these spots show
  abbrev pub total : List (Spot K) → ℕ
  total [] = 0
  total (e ∷ es) = shown e + total es

  total_join : (xs ys : List (Spot K)) → total (xs ++ ys) ≡ total xs + total ys
  total_join [] ys = omega arith
  total_join (x ∷ xs) ys = let after : total (xs ++ ys) ≡ total xs + total ys = total_join xs ys in omega arith

  row_count : (whole : Template) (above : Place) (given : List (List (Attribute K))) (under : ℕ → Place → Forest) (slot : ℕ → Place → List (Spot K))
      → ((k : ℕ) (place : Place) → count_of i (under k place) ≡ total (slot k place))
      → (nodes : TemplateNodes) (up : List ℕ) (n : ℕ)
      → count_of i (nodes_view side.numbers whole above given under up n nodes) ≡ total (node_spots whole above slot up n nodes)
  row_count whole above given under slot same no_nodes up n = refl
  row_count whole above given under slot same (element_node tag namespace attributes children rest) up n =
      let xs : List (Spot K) = node_spots whole above slot (up ++ n ∷ []) 0 children in
      let ys : List (Spot K) = node_spots whole above slot up (n + 1) rest in
      let a : count_of i (nodes_view side.numbers whole above given under (up ++ n ∷ []) 0 children) ≡ total xs = row_count whole above given under slot same children (up ++ n ∷ []) 0 in
      let b : count_of i (nodes_view side.numbers whole above given under up (n + 1) rest) ≡ total ys = row_count whole above given under slot same rest up (n + 1) in
      let both : total (xs ++ ys) ≡ total xs + total ys = total_join xs ys in
      omega arith
  row_count whole above given under slot same (text_node text rest) up n =
      let b : count_of i (nodes_view side.numbers whole above given under up (n + 1) rest) ≡ total (node_spots whole above slot up (n + 1) rest) =
      row_count whole above given under slot same rest up (n + 1) in
      omega arith
  row_count whole above given under slot same (slot_node k rest) up n =
      let place : Place = place_in whole above up n in
      let after : Forest = nodes_view side.numbers whole above given under up (n + 1) rest in
      let ys : List (Spot K) = node_spots whole above slot up (n + 1) rest in
      let a : count_of i (under k place) ≡ total (slot k place) = same k place in
      let b : count_of i after ≡ total ys = row_count whole above given under slot same rest up (n + 1) in
      let views : count_of i (join_rows (under k place) after) ≡ count_of i (under k place) + count_of i after = count_join i (under k place) after in
      let both : total (slot k place ++ ys) ≡ total (slot k place) + total ys = total_join (slot k place) ys in
      omega arith

  mutual
    -- what a tree shows is what its spots show
    pub tree_count : (above : Place) (x : Tree K) → count_of i (tree_view side inner above x) ≡ total (spots above x)
    tree_count above (block template given slots) =
        row_count template above given (λ k place. slots_view side inner slots k place) (λ k place. slots_spots slots k place) (λ k place. slots_count slots k place) template.roots [] 0

    slots_count : (slots : Slots K) (k : ℕ) (place : Place) → count_of i (slots_view side inner slots k place) ≡ total (slots_spots slots k place)
    slots_count no_slots k place = refl
    slots_count (more_slots v rest) zero place = slot_count v place
    slots_count (more_slots v rest) (suc k) place = slots_count rest k place

    slot_count : (v : Slot K) (place : Place) → count_of i (slot_view side inner v place) ≡ total (slot_spots v place)
    slot_count (text_slot text) place = omega arith
    slot_count placeholder_slot place = omega arith
    slot_count (component_slot c) place = omega arith
    slot_count (fragment_slot no_trees) place = omega arith
    slot_count (fragment_slot (more_trees t ts)) place = items_count 0 place (more_trees t ts)

    items_count : (n : ℕ) (place : Place) (ts : Trees K) → count_of i (items_view side inner n place ts) ≡ total (item_spots n place ts)
    items_count n place no_trees = refl
    items_count n place (more_trees t ts) =
        let first : Forest = tree_view side inner (place ++ item n ∷ []) t in
        let after : Forest = items_view side inner (n + 1) place ts in
        let xs : List (Spot K) = spots (place ++ item n ∷ []) t in
        let ys : List (Spot K) = item_spots (n + 1) place ts in
        let a : count_of i first ≡ total xs = tree_count (place ++ item n ∷ []) t in
        let b : count_of i after ≡ total ys = items_count (n + 1) place ts in
        let views : count_of i (join_rows first after) ≡ count_of i first + count_of i after = count_join i first after in
        let both : total (xs ++ ys) ≡ total xs + total ys = total_join xs ys in
        omega arith

  -- a spot that shows the number
  pub record Shows (es : List (Spot K)) : Type 0 where
    pub spot : Spot K
    pub stands : Contains es spot
    pub more : 0 < shown spot

  -- a number that is shown is shown by one of the spots
  pub some : (es : List (Spot K)) → 0 < total es → Shows es
  some [] h = absurd (omega arith)
  some (e ∷ es) h = first (shown e) refl (λ l. some es l)
    where
      first : (n : ℕ) → shown e ≡ n → (0 < total es → Shows es) → Shows (e ∷ es)
      first zero q go =
          let later : Shows es = go (omega arith) in
          record { spot = later.spot; stands = contains_later e es later.spot later.stands; more = later.more }
      first (suc n) q go = record { spot = e; stands = contains_here e es; more = omega arith }

  -- one spot at most shows the number, and that one once
  pub few : (es : List (Spot K)) → Distinct es → ((e : Spot K) → shown e ≤ 1) → ((e f : Spot K) → Contains es e → Contains es f → 0 < shown e → 0 < shown f → place_of e ≡ place_of f) → total es ≤ 1
  few [] d one same = omega arith
  few (e ∷ es) d one same = later (total es) refl (few es d.1 one (λ f g c b. same f g (contains_later e es f c) (contains_later e es g b)))
    where
      alone : (n : ℕ) → shown e ≡ n → 0 < total es → shown e ≡ 0
      alone zero q h = q
      alone (suc n) q h =
          let other : Shows es = some es h in
          absurd (All-contains (λ f. Apart e f) es other.spot d.0 other.stands (same e other.spot (contains_here e es) (contains_later e es other.spot other.stands) (omega arith) other.more))

      later : (n : ℕ) → total es ≡ n → total es ≤ 1 → shown e + total es ≤ 1
      later zero q h = let o : shown e ≤ 1 = one e in omega arith
      later (suc n) q h = let none : shown e ≡ 0 = alone (shown e) refl (omega arith) in omega arith
