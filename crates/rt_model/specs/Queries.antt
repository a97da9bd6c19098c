-- What a program asks of a state: where a node stands, who provides a kind, what is below a scope.
use Rattle.std.specs.Prelude.{ℕ, zero, suc, Bool, false, ◌||◌, nat_eq, List, [], ◌∷◌, Option, Some, None, if◌then◌else◌, is_some}
use Rattle.rt_model.specs.Lists.{at, first_of}
use Rattle.rt_model.specs.Tree.{Types, Place, Kind}
use Rattle.rt_model.specs.State.{SideName, MainSide, ChildrenSide, FallbackSide, Scope, State, side_of, parent_of, height_of, upwards}

-- the place that has a number
abbrev pub numbered_place : List (Place × Kind × ℕ) → ℕ → Option Place
numbered_place [] n = None
numbered_place (e ∷ es) n = if nat_eq e.2 n then Some e.0 else numbered_place es n

-- where a node stands: its scope, the side of it, and its place there
abbrev pub Standing : Type 0
Standing = ℕ × SideName × Place

module _ {K : Types} where
  -- a node of this number on one side of a scope
  abbrev pub on_side : ℕ → Scope K → SideName → ℕ → Option Standing
  on_side s x side n = elim (numbered_place (side_of x side).numbers n) [ None ↦ None | Some p ↦ Some (s, side, p) ]

  -- a node of this number in a scope, hidden ones included
  abbrev pub in_scope : ℕ → Scope K → ℕ → Option Standing
  in_scope s x n = first_of (on_side s x MainSide n) (first_of (on_side s x ChildrenSide n) (on_side s x FallbackSide n))

  -- a node of this number in one of these scopes
  abbrev pub in_scopes : List (ℕ × Scope K) → ℕ → Option Standing
  in_scopes [] n = None
  in_scopes (e ∷ es) n = first_of (in_scope e.0 e.1 n) (in_scopes es n)

  -- where the node with this number stands, none where no live scope has it
  abbrev pub node_place : State K → ℕ → Option Standing
  node_place w n = in_scopes w.scopes n

  -- what a scope itself provides of a kind
  abbrev pub provided_here : State K → ℕ → ℕ → Option K.Value
  provided_here w s kind = elim (at w.scopes s) [ None ↦ None | Some x ↦ at x.contexts kind ]

  -- the nearest scope from s upwards that provides a kind
  abbrev pub provider : State K → ℕ → ℕ → Option ℕ
  provider w s kind = upwards (λ x. is_some (at x.contexts kind)) w s

  -- what that scope provides
  abbrev pub provided_above : State K → ℕ → ℕ → Option K.Value
  provided_above w s kind = elim (provider w s kind) [ None ↦ None | Some p ↦ provided_here w p kind ]

  -- a is one of the scopes above s, at most n steps up
  abbrev pub is_above : List (ℕ × Scope K) → ℕ → ℕ → ℕ → Bool
  is_above scopes zero s a = false
  is_above scopes (suc n) s a = elim (parent_of scopes s) [ None ↦ false | Some p ↦ nat_eq p a || is_above scopes n p a ]

  -- s stands below a; no scope stands below itself
  abbrev pub is_descendant : State K → ℕ → ℕ → Bool
  is_descendant w s a = is_above w.scopes (height_of w.scopes s) s a
