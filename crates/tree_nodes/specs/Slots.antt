-- The slots of a template, as they are met.
use Rattle.std.specs.Prelude.{ℕ, Bool, ◌&&◌, ◌==◌, List, [], ◌∷◌}
use Rattle.std.specs.List.{enumerate_from}
use Rattle.std.specs.Str.{bytes_eq}
use Rattle.std.specs.Cmp.Lexicographic.{pointwise}
use Rattle.tree_nodes.specs.Met.{Met, AtElement, AtAttribute, AtText, AtSlot}

-- a slot: its number, and the path of the node that it is, or of the element that it belongs to
abbrev pub Slot : Type 0
Slot = ℕ × List ℕ

-- the node slots among what was met, in order
abbrev pub node_slots : List Met → List Slot
node_slots [] = []
node_slots (AtElement path attrs children ∷ ms) = node_slots ms
node_slots (AtAttribute path id ∷ ms) = node_slots ms
node_slots (AtText path ∷ ms) = node_slots ms
node_slots (AtSlot path id ∷ ms) = (id, path) ∷ node_slots ms

-- the attribute slots among what was met, in order
abbrev pub attr_slots : List Met → List Slot
attr_slots [] = []
attr_slots (AtElement path attrs children ∷ ms) = attr_slots ms
attr_slots (AtAttribute path id ∷ ms) = (id, path) ∷ attr_slots ms
attr_slots (AtText path ∷ ms) = attr_slots ms
attr_slots (AtSlot path id ∷ ms) = attr_slots ms

-- whether two slots have the same number and the same path
abbrev pub same_slot : Slot → Slot → Bool
same_slot s t = s.0 == t.0 && bytes_eq t.1 s.1

-- whether these are the slots at these paths, numbered from 0
abbrev pub are_numbered : List Slot → List (List ℕ) → Bool
are_numbered slots paths = pointwise same_slot slots (enumerate_from 0 paths)
