-- A rerun that leaves the state as it was writes nothing.
use Rattle.std.specs.Prelude.{ℕ, Bool, true, false, ◌&&◌, ◌||◌, not, List, [], ◌∷◌, Option, Some, None, ◌≡◌}
use Rattle.rt_model.specs.Lists.{at}
use Rattle.rt_model.specs.Tree.{Types, Attribute, Tree, block, Slots, no_slots, more_slots, Slot, text_slot, placeholder_slot, component_slot, fragment_slot, Trees, no_trees, more_trees, attributes_in}
use Rattle.rt_model.specs.World.{Application}
use Rattle.rt_model.specs.Laws.{Tests, IsLawful}
use Rattle.rt_model.specs.State.{SideName, Scope, State, side_of}
use Rattle.rt_model.specs.Replay.{Entry, Rerun, Input, Machine, replay}
use Rattle.rt_model.specs.Caused.{is_key, caused}

module _ {K : Types} where
  -- an attribute with this name and namespace is among them
  abbrev pub is_keyed : Attribute K → List (Attribute K) → Bool
  is_keyed a [] = false
  is_keyed a (b ∷ rest) = is_key a b || is_keyed a rest

  -- no name stands twice in a slot
  abbrev pub once_each : List (Attribute K) → Bool
  once_each [] = true
  once_each (a ∷ rest) = not (is_keyed a rest) && once_each rest

  abbrev mutual
    -- no attribute slot of a tree has a name twice
    pub Single : Tree K → Type 0
    Single (block template given slots) = ((k : ℕ) → once_each (attributes_in given k) ≡ true) × SingleSlots slots

    -- nor one of what its node slots hold
    pub SingleSlots : Slots K → Type 0
    SingleSlots no_slots = Unit {0}
    SingleSlots (more_slots v rest) = SingleSlot v × SingleSlots rest

    -- nor one of what stands in a slot
    pub SingleSlot : Slot K → Type 0
    SingleSlot (text_slot text) = Unit {0}
    SingleSlot placeholder_slot = Unit {0}
    SingleSlot (component_slot c) = Unit {0}
    SingleSlot (fragment_slot items) = SingleTrees items

    -- nor one of a fragment's items
    pub SingleTrees : Trees K → Type 0
    SingleTrees no_trees = Unit {0}
    SingleTrees (more_trees t ts) = Single t × SingleTrees ts

  -- nor one of an output, if there is one
  abbrev pub SingleOutput : Option (Tree K) → Type 0
  SingleOutput None = Unit {0}
  SingleOutput (Some tree) = Single tree

  -- of every kept output
  abbrev pub AllSingle : State K → Type 0
  AllSingle w = (s : ℕ) (x : Scope K) → at w.scopes s ≡ Some x → (side : SideName) → SingleOutput (side_of x side).output

-- the edits caused between a state and itself are none
abbrev pub SameCausesNothing : {K : Types} → Application K → Type 0
SameCausesNothing {K = K} app = Tests K.Component app.same_component → (w : State K) → AllSingle w → (s : ℕ) → caused app w w (Rerun s) ≡ []

-- between a state that an accepted log of a lawful application reaches and itself no edit is caused
abbrev pub RestCausesNothing : {K : Types} → Application K → Type 0
RestCausesNothing {K = K} app =
    IsLawful K app
    → (props : K.Props) (inputs : List (Input K)) (log : List Entry) (m : Machine K)
    → replay app props inputs log ≡ Some m
    → (s : ℕ)
    → caused app m.state m.state (Rerun s) ≡ []
