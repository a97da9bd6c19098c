-- What was drawn for the nodes and components of a tree, and what it is in the definitions.
use Rattle.std.specs.Prelude.{ℕ, zero, suc, ◌+◌, Bool, true, false, List, [], ◌∷◌, Option, None, Some, get_or, slice_get, slice_set, ◌≡◌}
use Rattle.rt_model.specs.Lists.{at}
use Rattle.rt_model.specs.Tree.{Types, Place, Kind, Spot, VComponent, node_at, component_at}
use Rattle.rt_model.specs.Run.{has_node, component_in}

-- at each index stands the first number under it
abbrev pub Agrees : List (Option ℕ) → List (ℕ × ℕ) → Type 0
Agrees firsts pairs = (s : ℕ) → get_or firsts s None ≡ at pairs s

-- a number at an index where none stood
abbrev pub filled : List (Option ℕ) → ℕ → ℕ → List (Option ℕ)
filled firsts i n = elim (get_or firsts i None) [ None ↦ slice_set firsts i (Some n) | Some m ↦ firsts ]

-- each number under another index; those without one are left out
abbrev pub moved : List (Option ℕ) → List (ℕ × ℕ) → List (ℕ × ℕ)
moved to [] = []
moved to (e ∷ es) = elim (get_or to e.0 None) [ None ↦ moved to es | Some s ↦ (s, e.1) ∷ moved to es ]

-- the first number under each of so many indices, from one on
abbrev pub under : List (ℕ × ℕ) → ℕ → ℕ → List (Option ℕ)
under pairs i zero = []
under pairs i (suc n) = at pairs i ∷ under pairs (i + 1) n

module _ {K : Types} where
  -- the nodes among spots, in their order
  abbrev pub nodes_in : List (Spot K) → List (Place × Kind)
  nodes_in [] = []
  nodes_in (node_at p k ∷ es) = (p, k) ∷ nodes_in es
  nodes_in (component_at p c ∷ es) = nodes_in es

  -- the places of the components among spots, in their order
  abbrev pub seats_in : List (Spot K) → List Place
  seats_in [] = []
  seats_in (node_at p k ∷ es) = seats_in es
  seats_in (component_at p c ∷ es) = p ∷ seats_in es

module _ {K : Types} where
  -- where each of these nodes stands among the new ones, none where it went
  pub record NodesFollow (olds : List (Place × Kind)) (new : List (Spot K)) (to : List (Option ℕ)) : Type 0 where
    pub goes : (i j : ℕ) (q : Place × Kind) → slice_get olds i ≡ Some q → get_or to i None ≡ Some j
        → (slice_get (nodes_in new) j ≡ Some q) × (has_node new q.0 q.1 ≡ true)
    pub went : (i : ℕ) (q : Place × Kind) → slice_get olds i ≡ Some q → get_or to i None ≡ None → has_node new q.0 q.1 ≡ false
    pub ends : (i : ℕ) → slice_get olds i ≡ None → get_or to i None ≡ None

  -- where each of these components stands among the new ones, none where its child scope isn't kept
  pub record SeatsFollow (fed : Option (VComponent K) → Option (VComponent K) → Bool) (olds : List Place)
      (old new : List (Spot K)) (to : List (Option ℕ)) : Type 0 where
    pub goes : (i j : ℕ) (p : Place) → slice_get olds i ≡ Some p → get_or to i None ≡ Some j
        → (slice_get (seats_in new) j ≡ Some p) × (fed (component_in old p) (component_in new p) ≡ true)
    pub went : (i : ℕ) (p : Place) → slice_get olds i ≡ Some p → get_or to i None ≡ None
        → fed (component_in old p) (component_in new p) ≡ false
    pub ends : (i : ℕ) → slice_get olds i ≡ None → get_or to i None ≡ None
