-- What lets no number stand twice in the view: each number stands at one place, each node of an output has one, each child stands in one slot.
use Rattle.std.specs.Prelude.{ℕ, ◌+◌, ◌<◌, true, [], Some, Contains, ◌≡◌}
use Rattle.rt_model.specs.Lists.{at}
use Rattle.rt_model.specs.Tree.{Types, Tree, Place, Kind, node_at, spots}
use Rattle.rt_model.specs.Fits.{fits_at}
use Rattle.rt_model.specs.State.{SideName, Scope, State, side_of}
use Rattle.rt_model.specs.Heard.{number_at}
use Rattle.rt_model.specs.Run.{child_at}

module _ {K : Types} where
  -- a tree meets the node test, at this level
  pub record FitsBelow (tree : Tree K) : Type 0 where
    pub level : ℕ
    pub fits : fits_at tree level ≡ true

  pub record WellNumbered (w : State K) : Type 0 where
    -- numbers begin at 1
    pub positive : (s n : ℕ) (x : Scope K) (a : SideName) (p : Place) (k : Kind) → at w.scopes s ≡ Some x → Contains (side_of x a).numbers (p, k, n) → 0 < n
    -- a number stands at one place of one side of one scope
    pub once : (s t n : ℕ) (x y : Scope K) (a b : SideName) (p q : Place) (k l : Kind) → at w.scopes s ≡ Some x → at w.scopes t ≡ Some y → Contains (side_of x a).numbers (p, k, n) → Contains (side_of y b).numbers (q, l, n) → (s ≡ t) × (a ≡ b) × (p ≡ q) × (k ≡ l)
    -- each node of an output has a number
    pub whole : (s : ℕ) (x : Scope K) (a : SideName) (tree : Tree K) (p : Place) (k : Kind) → at w.scopes s ≡ Some x → (side_of x a).output ≡ Some tree → Contains (spots [] tree) (node_at p k) → 0 < number_at (side_of x a).numbers p k
    -- each output meets the node test, at some level
    pub fit : (s : ℕ) (x : Scope K) (a : SideName) (tree : Tree K) → at w.scopes s ≡ Some x → (side_of x a).output ≡ Some tree → FitsBelow tree
    -- a live child knows its parent, its side and its height
    pub child : (s t : ℕ) (x y : Scope K) (a : SideName) (p : Place) → at w.scopes s ≡ Some x → child_at (side_of x a).children p ≡ Some t → at w.scopes t ≡ Some y → (y.parent ≡ Some s) × (y.below ≡ a) × (y.height ≡ x.height + 1)
    -- a child stands in one slot of a side
    pub slot : (s t : ℕ) (x : Scope K) (a : SideName) (p q : Place) → at w.scopes s ≡ Some x → child_at (side_of x a).children p ≡ Some t → child_at (side_of x a).children q ≡ Some t → p ≡ q
