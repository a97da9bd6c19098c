-- A place in a program's words.
use Rattle.std.specs.Prelude.{ℕ, suc, Bool, List, [], ◌∷◌, map, if◌then◌else◌}
use Rattle.rt_model.specs.Lists.{same_numbers}
use Rattle.rt_model.specs.Tree as model
use Rattle.rt_model.specs.Tree.{inside, item}
use Rattle.rt_model.specs.State.{FallbackSide, same_side}
use Rattle.rt_model.specs.Queries.{Standing}
use Rattle.tree_nodes.specs.declared.place.Place.{Place}
use Rattle.tree_nodes.specs.declared.place.Step.{Step}

-- the scope, whether it stands in the block of a fallback, the steps (a fragment's slot with the position of the item in it), the path in the innermost template
pub record Named : Type 0 where
  pub scope : ℕ
  pub fallback : Bool
  pub steps : List (ℕ × ℕ)
  pub path : List ℕ

-- the number of the slot with a path: how many paths come before it
abbrev pub slot_at : List (List ℕ) → List ℕ → ℕ
slot_at [] path = 0
slot_at (p ∷ ps) path = if same_numbers p path then 0 else suc (slot_at ps path)

-- the slot that a step leads to, where another one was before
abbrev pub slot_after : ℕ → model.Step → ℕ
slot_after k (inside t p) = slot_at t.node_paths p
slot_after k (item i) = k

-- the step that is told of one of a place, below a slot
abbrev pub steps_at : ℕ → model.Step → List (ℕ × ℕ)
steps_at k (inside t p) = []
steps_at k (item i) = (k, i) ∷ []

-- the slot that a place leads to, from another one on
abbrev pub slot_from : ℕ → model.Place → ℕ
slot_from k [] = k
slot_from k (s ∷ rest) = slot_from (slot_after k s) rest

-- the steps that are told of a place, below a slot
abbrev pub steps_from : ℕ → model.Place → List (ℕ × ℕ)
steps_from k [] = []
steps_from k (inside t p ∷ rest) = steps_from (slot_at t.node_paths p) rest
steps_from k (item i ∷ rest) = (k, i) ∷ steps_from k rest

-- the path that a step leads to, where another one was before
abbrev pub path_after : List ℕ → model.Step → List ℕ
path_after q (inside t p) = p
path_after q (item i) = q

-- the path in the innermost template
abbrev pub path_from : List ℕ → model.Place → List ℕ
path_from q [] = q
path_from q (s ∷ rest) = path_from (path_after q s) rest

-- where a node stands, in a program's words
abbrev pub named_of : Standing → Named
named_of at = record { scope = at.0; fallback = same_side at.1 FallbackSide; steps = steps_from 0 at.2; path = path_from [] at.2 }

-- a step of code
abbrev pub step_in : Step → ℕ × ℕ
step_in s = (s.slot, s.position)

-- a place of code
abbrev pub named_in : Place → Named
named_in p = record { scope = (p.scope).0; fallback = p.fallback; steps = map step_in p.steps; path = p.path }
