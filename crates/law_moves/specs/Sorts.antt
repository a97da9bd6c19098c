-- What a component is, whatever its props: one of the application's, or a built-in one; and that a child is of the sort of its slot.
use Rattle.std.specs.Prelude.{◌≡◌, ℕ, Bool, true, false, List, [], ◌∷◌, Some, None}
use Rattle.rt_model.specs.Causes.{Limits}
use Rattle.rt_model.specs.Laws.{IsLawful}
use Rattle.rt_model.specs.Lists.{at}
use Rattle.rt_model.specs.Replay.{Input, Machine, fed_child}
use Rattle.rt_model.specs.Run.{child_at, component_in}
use Rattle.rt_model.specs.State.{SideName, Scope, Item, Feed, side_of}
use Rattle.rt_model.specs.Tree.{Types, Tree, Place, VComponent, Own, Root, Fragment, ErrorBoundary, SuspenseBoundary, spots}
use Rattle.rt_model.specs.World.{Application}
use Rattle.law_moves.specs.Reached.{Reached}

-- a sort of components
pub data ComponentSort (K : Types) : Type 0 where
  -- a component of the application
  own_sort : (component : K.Component) → ComponentSort K
  root_sort : ComponentSort K
  fragment_sort : ComponentSort K
  error_sort : ComponentSort K
  suspense_sort : ComponentSort K

module _ {K : Types} where
  -- the sort of a component
  abbrev pub sort_of : VComponent K → ComponentSort K
  sort_of (Own component props) = own_sort component
  sort_of (Root component props) = root_sort
  sort_of (Fragment children) = fragment_sort
  sort_of (ErrorBoundary children handler) = error_sort
  sort_of (SuspenseBoundary children fallback) = suspense_sort

  -- whether it is that of suspense boundaries
  abbrev pub is_boundary_sort : ComponentSort K → Bool
  is_boundary_sort suspense_sort = true
  is_boundary_sort (own_sort component) = false
  is_boundary_sort root_sort = false
  is_boundary_sort fragment_sort = false
  is_boundary_sort error_sort = false

-- of a lawful application, wherever moves lead once the build has begun, until a fault ends the run: a child scope is of the sort of
-- the component at its place
abbrev pub ChildrenFitSlots : {K : Types} → Application K → Type 0
ChildrenFitSlots {K = K} app =
    IsLawful K app
    → (limits : Limits) (props : K.Props) (inputs : List (Input K)) (m : Machine K)
    → Reached app limits props inputs m
    → m.built ≡ true
    → m.dead ≡ None
    → (s t : ℕ) (x y : Scope K) (side : SideName) (tree : Tree K) (p : Place) (c : VComponent K)
    → at m.state.scopes s ≡ Some x
    → (side_of x side).output ≡ Some tree
    → component_in (spots [] tree) p ≡ Some c
    → child_at (side_of x side).children p ≡ Some t
    → at m.state.scopes t ≡ Some y
    → sort_of y.component ≡ sort_of c

-- there a child that open work hands a component is of that component's sort
abbrev pub FedFit : {K : Types} → Application K → Type 0
FedFit {K = K} app =
    IsLawful K app
    → (limits : Limits) (props : K.Props) (inputs : List (Input K)) (m : Machine K)
    → Reached app limits props inputs m
    → m.built ≡ true
    → m.dead ≡ None
    → (s t : ℕ) (y : Scope K) (side : SideName) (p : Place) (c : VComponent K) (later : List (Item K))
    → m.work ≡ Feed s side p c ∷ later
    → fed_child m.state s side p ≡ Some t
    → at m.state.scopes t ≡ Some y
    → sort_of y.component ≡ sort_of c
