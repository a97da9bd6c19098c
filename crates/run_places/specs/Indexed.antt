-- Where a node or a component stands among those of a tree.
use Rattle.std.specs.Prelude.{ℕ, ◌+◌, Bool, false, ◌&&◌, List, [], ◌∷◌, slice_get, Option, Some, None, if◌then◌else◌, option_map, ◌≡◌}
use Rattle.rt_model.specs.Tree as model
use Rattle.rt_model.specs.Tree.{same_kind, same_place}
use Rattle.run_places.specs.declared.place.Step.{Step}
use Rattle.run_places.specs.declared.nodes.NodeAt.{NodeAt}
use Rattle.run_places.specs.Places.{node_of, place_of}

-- whether a node stands at a place, if there is one
abbrev pub is_node : model.Place → model.Kind → Option NodeAt → Bool
is_node p k None = false
is_node p k (Some x) = same_kind (node_of x).1 k && same_place (node_of x).0 p

-- the node at an index stands at a place
abbrev pub is_node_at : List NodeAt → model.Place → model.Kind → ℕ → Bool
is_node_at nodes p k i = is_node p k (slice_get nodes i)

-- the index of the first node at a place, where the first of them has this one
abbrev pub node_from : ℕ → List NodeAt → model.Place → model.Kind → Option ℕ
node_from n [] p k = None
node_from n (x ∷ xs) p k = if is_node p k (Some x) then Some n else node_from (n + 1) xs p k

-- the index of the first node at a place
abbrev pub node_index : List NodeAt → model.Place → model.Kind → Option ℕ
node_index nodes p k = node_from 0 nodes p k

-- the first of these indices beside keys at which it stands
abbrev pub first_of_nodes : List NodeAt → model.Place → model.Kind → List (ℕ × ℕ) → Option ℕ
first_of_nodes nodes p k [] = None
first_of_nodes nodes p k (e ∷ es) = if is_node_at nodes p k e.1 then Some e.1 else first_of_nodes nodes p k es

-- the place of the node at an index
abbrev pub place_in : List NodeAt → ℕ → Option (List Step)
place_in nodes i = option_map (λ x. x.place) (slice_get nodes i)

-- whether a component stands at a place, if there is one
abbrev pub is_seat : model.Place → Option (List Step) → Bool
is_seat p None = false
is_seat p (Some x) = same_place (place_of x) p

-- the component at an index stands at a place
abbrev pub is_seat_at : List (List Step) → model.Place → ℕ → Bool
is_seat_at seats p i = is_seat p (slice_get seats i)

-- the index of the first component at a place, where the first of them has this one
abbrev pub seat_from : ℕ → List (List Step) → model.Place → Option ℕ
seat_from n [] p = None
seat_from n (x ∷ xs) p = if is_seat p (Some x) then Some n else seat_from (n + 1) xs p

-- the index of the first component at a place
abbrev pub seat_index : List (List Step) → model.Place → Option ℕ
seat_index seats p = seat_from 0 seats p

-- the first of these indices beside keys at which it stands
abbrev pub first_of_seats : List (List Step) → model.Place → List (ℕ × ℕ) → Option ℕ
first_of_seats seats p [] = None
first_of_seats seats p (e ∷ es) = if is_seat_at seats p e.1 then Some e.1 else first_of_seats seats p es

-- what stands at an index is the first one at its place
abbrev pub IsFirstNodes : List NodeAt → ℕ → Type 0
IsFirstNodes nodes i = (x : NodeAt) → slice_get nodes i ≡ Some x → node_index nodes (node_of x).0 (node_of x).1 ≡ Some i

-- the same of a component
abbrev pub IsFirstSeats : List (List Step) → ℕ → Type 0
IsFirstSeats seats i = (x : List Step) → slice_get seats i ≡ Some x → seat_index seats (place_of x) ≡ Some i
