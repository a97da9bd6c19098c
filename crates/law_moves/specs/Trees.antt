-- The tree of scopes: each live scope one level above its children, where it stands, and what it shows with them.
use Rattle.std.specs.Prelude.{ℕ, ◌+◌, false, nat_eq, List, [], ◌∷◌, Some, None, Contains, ◌≡◌}
use Rattle.rt_model.specs.Lists.{at}
use Rattle.rt_model.specs.Tree.{Types, Tree, Place, VComponent, spots, component_at}
use Rattle.rt_model.specs.State.{SideName, Scope, State, side_of, parent_of}
use Rattle.rt_model.specs.Run.{child_at}
use Rattle.rt_model.specs.View.{scope_view, nodes_of}

-- the nodes of each scope are what its side shows with the nodes of its child scopes
abbrev pub IsUnfolded : {K : Types} → State K → Type 0
IsUnfolded w = (s : ℕ) → nodes_of w s ≡ scope_view (λ t. nodes_of w t) (at w.scopes s)

-- the scopes are a tree by their heights: 0 without a parent, the live parent's plus one else, and so for each live child
pub record IsTree {K : Types} (w : State K) : Type 0 where
  pub top : (s : ℕ) (x : Scope K) → at w.scopes s ≡ Some x → x.parent ≡ None → x.height ≡ 0
  pub parent : (s p : ℕ) (x : Scope K) → at w.scopes s ≡ Some x → x.parent ≡ Some p → (y : Scope K) × (at w.scopes p ≡ Some y)
      × (x.height ≡ y.height + 1)
  pub child :
      (s t : ℕ) (x y : Scope K) (a : SideName) (p : Place)
      → at w.scopes s ≡ Some x
      → child_at (side_of x a).children p ≡ Some t
      → at w.scopes t ≡ Some y
      → y.height ≡ x.height + 1

module _ {K : Types} (w : State K) where
  -- a live child scope at a place of a scope's side, which knows where it stands, one level below
  pub record HasChild (s : ℕ) (x : Scope K) (a : SideName) (p : Place) : Type 0 where
    pub child : ℕ
    pub record_of : Scope K
    pub kid : child_at (side_of x a).children p ≡ Some child
    pub live : at w.scopes child ≡ Some record_of
    pub height : record_of.height ≡ x.height + 1
    pub parent : record_of.parent ≡ Some s
    pub below : record_of.below ≡ a

  -- a scope stands at a place of another one's side at which its output has a component, and at no other place of any scope
  pub record StandsOnce (s : ℕ) (x : Scope K) (a : SideName) (t : ℕ) : Type 0 where
    pub tree : Tree K
    pub place : Place
    pub component : VComponent K
    pub output : (side_of x a).output ≡ Some tree
    pub slot : Contains (spots [] tree) (component_at place component)
    pub kid : child_at (side_of x a).children place ≡ Some t
    pub once :
        (r : ℕ) (z : Scope K) (b : SideName) (q : Place)
        → at w.scopes r ≡ Some z
        → child_at (side_of z b).children q ≡ Some t
        → (r ≡ s) × (b ≡ a) × (q ≡ place)

-- along this path of parents up from a scope, to one without a parent, there isn't another scope
abbrev pub Outside : {K : Types} → State K → ℕ → List ℕ → ℕ → Type 0
Outside w root [] t = (nat_eq t root ≡ false) × (parent_of w.scopes t ≡ None)
Outside w root (p ∷ path) t = (nat_eq t root ≡ false) × (parent_of w.scopes t ≡ Some p) × Outside w root path p
