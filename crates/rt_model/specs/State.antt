-- The state of a runtime: scopes, cells, reactive contexts, tasks, and what is owed.
use Rattle.std.specs.Prelude.{ℕ, zero, suc, Bool, true, false, ◌&&◌, nat_eq, List, [], ◌∷◌, Option, Some, None, if◌then◌else◌, is_some}
use Rattle.std.specs.List.{list_any}
use Rattle.rt_model.specs.Lists.{at, put}
use Rattle.rt_model.specs.Tree.{Types, CapturedError, VComponent, is_suspense_boundary, is_error_boundary, Tree, Element, Place, Kind}
use Rattle.rt_model.specs.World.{Source, Target, Counter, Firsts, Hook, Values, World}

-- a suspense boundary has the sides of its children and of its fallback, any other scope has one side
pub data SideName : Type 0 where
  MainSide : SideName
  ChildrenSide : SideName
  FallbackSide : SideName

-- equal names of sides
abbrev pub same_side : SideName → SideName → Bool
same_side MainSide MainSide = true
same_side ChildrenSide ChildrenSide = true
same_side FallbackSide FallbackSide = true
same_side _ _ = false

-- what is posted: a mark of a scope, a wake of a task
pub data Posted : Type 0 where
  Mark : (scope : ℕ) → Posted
  Woken : (task : ℕ) → Posted

-- who may poll a task in a suspended render
pub data TaskKind : Type 0 where
  ClientOnly : TaskKind
  Isomorphic : TaskKind
  SuspendedTask : TaskKind

-- why a run ended early
pub data Fault : Type 0 where
  OutOfTurns : (units : ℕ) → Fault
  TooDeep : (height : ℕ) → Fault
  IdsExhausted : (what : Counter) → Fault
  HookChanged : (scope index kept asked : ℕ) → Fault
  NoSuchTask : (scope task : ℕ) → Fault
  BadNode : (scope : ℕ) → Fault

-- a step in the work of a suspense boundary's run
pub data RowStep : Type 0 where
  PatchChildren : RowStep
  MadeChildren : RowStep
  RunFallback : RowStep
  ShowFallback : RowStep
  ShowChildren : RowStep
  DropFallback : RowStep
  Resolve : RowStep

module _ (K : Types) where
  -- what a scope keeps of one side
  pub record Side : Type 0 where
    -- the kept output
    pub output : Option (Tree K)
    -- the number of each place of a node
    pub numbers : List (Place × Kind × ℕ)
    -- the child scope of each component slot
    pub children : List (Place × ℕ)

  -- one live component
  pub record Scope : Type 0 where
    -- with the props that it was handed last
    pub component : VComponent K
    -- the root alone has none
    pub parent : Option ℕ
    -- the number of scopes above it
    pub height : ℕ
    -- the side of the parent that it was made on
    pub below : SideName
    pub main_side : Side
    pub children_side : Side
    pub fallback_side : Side
    -- how often its body has answered a tree
    pub renders : ℕ
    -- by index
    pub hooks : List (Hook K)
    -- what it provides, by kind
    pub contexts : List (ℕ × K.Value)
    -- what its body or its fallback's body read last
    pub reads : List Source
    -- it was shown at the end of the build or of a unit, so its effects may be done
    pub mounted : Bool
    -- that it has queued, in order
    pub effects : List K.Effect
    -- of an error boundary: the error that it caught
    pub error : Option CapturedError
    -- of a suspense boundary: the side that shows, none while it is being made
    pub shows : Option SideName
    -- its holders in order of joining: each a task with its origin
    pub holders : List (ℕ × ℕ)
    -- of a suspense boundary: a suspended render passes over what is below it
    pub frozen : Bool
    -- what is called when it turns to its children, with the scope of each
    pub callbacks : List (ℕ × K.Effect)

  -- the last call of a scope's body, or of its fallback's: what only the law of current outputs speaks of
  pub record LastCall : Type 0 where
    -- the world that it was given
    pub given : World K
    -- what was read in it, but not recorded
    pub aside : List Source
    pub answer : Element K
    -- the output that its scope had before it
    pub before : Option (Tree K)

  -- a cell and the scope that it goes with
  pub record CellRow : Type 0 where
    pub owner : ℕ
    pub value : K.Value

  -- a reactive context: what it marks, and what was read in it
  pub record ContextRow : Type 0 where
    pub scope : ℕ
    pub target : Target
    pub sources : List Source

  -- a task that hasn't ended
  pub record TaskRow : Type 0 where
    -- it ends with this scope
    pub scope : ℕ
    -- the task that was polled when it was spawned
    pub parent : Option ℕ
    pub state : K.TaskState
    -- a paused task isn't polled
    pub active : Bool
    -- who may poll it in a suspended render
    pub kind : TaskKind

  -- each part by number, ascending but for the last calls, which stand as they first came; next numbers of all counters
  pub record State : Type 0 where
    pub scopes : List (ℕ × Scope)
    -- by the scope
    pub last_calls : List (ℕ × LastCall)
    pub cells : List (ℕ × CellRow)
    pub contexts : List (ℕ × ContextRow)
    pub tasks : List (ℕ × TaskRow)
    -- marks and wakes in order, not yet looked at
    pub posted : List Posted
    -- the marked scopes, as the last look left them
    pub seen : List ℕ
    -- the woken tasks in order, as the last look left them
    pub queued : List ℕ
    -- the boundaries that turned to their children, and the scopes that a suspended render passed over
    pub resolved : List ℕ
    pub skipped : List ℕ
    pub next_scope : ℕ
    pub next : Firsts
    -- how often the application was called: bodies, polls, effects of each kind, listeners
    pub calls : ℕ

  -- open work: a number to draw, a step of a boundary, a child to feed, to make or to drop
  pub data Item : Type 0 where
    Draw : (scope : ℕ) → (side : SideName) → (place : Place) → (kind : Kind) → Item
    Row : (boundary : ℕ) → (step : RowStep) → Item
    Feed : (scope : ℕ) → (side : SideName) → (place : Place) → (component : VComponent K) → Item
    Make : (scope : ℕ) → (side : SideName) → (place : Place) → (component : VComponent K) → Item
    Drop : (child : ℕ) → (scope : ℕ) → (side : SideName) → Item

-- whether this side is the one
abbrev pub is_side : Option SideName → SideName → Bool
is_side None b = false
is_side (Some a) b = same_side a b

module _ (K : Types) where
  -- a change ends with a state and the work that it leads to, or is cut by a fault: what it did before stands
  pub data Outcome : Type 0 where
    Done : (state : State K) → (work : List (Item K)) → Outcome
    Cut : (state : State K) → (fault : Fault) → Outcome

module _ {K : Types} where
  -- a change without work, and then another one
  abbrev pub onward : Outcome K → (State K → Outcome K) → Outcome K
  onward (Done w work) f = f w
  onward (Cut w fault) f = Cut w fault

  -- a side on which nothing was ever rendered
  abbrev pub empty_side : Side K
  empty_side = record { output = None; numbers = []; children = [] }

  -- a side of a scope
  abbrev pub side_of : Scope K → SideName → Side K
  side_of s MainSide = s.main_side
  side_of s ChildrenSide = s.children_side
  side_of s FallbackSide = s.fallback_side

  -- the scope with another side
  abbrev pub with_side : Scope K → SideName → Side K → Scope K
  with_side s MainSide a = record s { main_side = a }
  with_side s ChildrenSide a = record s { children_side = a }
  with_side s FallbackSide a = record s { fallback_side = a }

  -- a scope at its making, not yet run
  abbrev pub new_scope : VComponent K → Option ℕ → ℕ → SideName → Scope K
  new_scope c parent height below =
      record {
        component = c;
        parent = parent;
        height = height;
        below = below;
        main_side = empty_side;
        children_side = empty_side;
        fallback_side = empty_side;
        renders = 0;
        hooks = [];
        contexts = [];
        reads = [];
        mounted = false;
        effects = [];
        error = None;
        shows = if is_suspense_boundary c then None else Some MainSide;
        holders = [];
        frozen = false;
        callbacks = [];
      }

  -- a scope stands
  abbrev pub is_live : State K → ℕ → Bool
  is_live w s = is_some (at w.scopes s)

  -- the state with a scope changed that was found, or as it was
  abbrev pub changed_scope : State K → ℕ → (Scope K → Scope K) → Option (Scope K) → State K
  changed_scope w s f None = w
  changed_scope w s f (Some x) = record w { scopes = put w.scopes s (f x) }

  -- a change of one scope's record, where it is live
  abbrev pub change : State K → ℕ → (Scope K → Scope K) → State K
  change w s f = changed_scope w s f (at w.scopes s)

  -- the parent of a live scope
  abbrev pub parent_of : List (ℕ × Scope K) → ℕ → Option ℕ
  parent_of scopes s = elim (at scopes s) [ None ↦ None | Some x ↦ x.parent ]

  -- the height of a live scope
  abbrev pub height_of : List (ℕ × Scope K) → ℕ → ℕ
  height_of scopes s = elim (at scopes s) [ None ↦ 0 | Some x ↦ x.height ]

  -- the first scope from s upwards of which the test holds; a climb takes at most as many steps as the height
  abbrev pub climb_at : (Scope K → Bool) → (ℕ → Option ℕ) → ℕ → Option (Scope K) → Option ℕ
  climb_at test go s None = None
  climb_at test go s (Some x) = if test x then Some s else elim x.parent [ None ↦ None | Some p ↦ go p ]

  -- the climb from s upwards, at most n steps
  abbrev pub climb : (Scope K → Bool) → List (ℕ × Scope K) → ℕ → ℕ → Option ℕ
  climb test scopes zero s = climb_at test (λ p. None) s (at scopes s)
  climb test scopes (suc n) s = climb_at test (λ p. climb test scopes n p) s (at scopes s)

  -- the nearest scope from s upwards of which the test holds
  abbrev pub upwards : (Scope K → Bool) → State K → ℕ → Option ℕ
  upwards test w s = climb test w.scopes (height_of w.scopes s) s

  -- the nearest error boundary from s upwards
  abbrev pub error_context : State K → ℕ → Option ℕ
  error_context w s = upwards (λ x. is_error_boundary x.component) w s

  -- the nearest suspense boundary from s upwards
  abbrev pub suspense_context : State K → ℕ → Option ℕ
  suspense_context w s = upwards (λ x. is_suspense_boundary x.component) w s

  -- a live scope is a suspense boundary
  abbrev pub is_boundary : List (ℕ × Scope K) → ℕ → Bool
  is_boundary scopes s = elim (at scopes s) [ None ↦ false | Some x ↦ is_suspense_boundary x.component ]

  -- the suspense boundary above a scope, with the side that the scope is below
  abbrev pub location_at : List (ℕ × Scope K) → (ℕ → Option (ℕ × SideName)) → SideName → Option ℕ → Option (ℕ × SideName)
  location_at scopes go below None = None
  location_at scopes go below (Some p) = if is_boundary scopes p then Some (p, below) else go p

  -- the way up to that boundary, at most n steps
  abbrev pub location_from : List (ℕ × Scope K) → ℕ → ℕ → Option (ℕ × SideName)
  location_from scopes zero s = None
  location_from scopes (suc n) s =
      elim (at scopes s) [ None ↦ None | Some x ↦ location_at scopes (λ p. location_from scopes n p) x.below x.parent ]

  -- where a scope stands: the nearest suspense boundary above it, itself not counted, with that boundary's side on the way
  abbrev pub location : State K → ℕ → Option (ℕ × SideName)
  location w s = location_from w.scopes (height_of w.scopes s) s

  -- the side that the way is below shows, and so do those further up
  abbrev pub shown_at : List (ℕ × Scope K) → (ℕ → Bool) → SideName → Option ℕ → Bool
  shown_at scopes go below None = true
  shown_at scopes go below (Some p) = elim (at scopes p) [ None ↦ false | Some y ↦ is_side y.shows below && go p ]

  -- each scope above shows the side that the way is below, at most n steps up
  abbrev pub shown_from : List (ℕ × Scope K) → ℕ → ℕ → Bool
  shown_from scopes zero s = true
  shown_from scopes (suc n) s =
      elim (at scopes s) [ None ↦ false | Some x ↦ shown_at scopes (λ p. shown_from scopes n p) x.below x.parent ]

  -- each scope above shows the side that the way to s is below
  abbrev pub is_shown : State K → ℕ → Bool
  is_shown w s = is_live w s && shown_from w.scopes (height_of w.scopes s) s

  -- some task holds the boundary
  abbrev pub is_held : Scope K → Bool
  is_held x = elim x.holders [ [] ↦ false | h ∷ hs ↦ true ]

  -- this task holds the boundary
  abbrev pub holds : Scope K → ℕ → Bool
  holds x t = list_any (λ h. nat_eq h.0 t) x.holders

  -- what a scope keeps, by index
  abbrev pub hooks_of : State K → ℕ → List (Hook K)
  hooks_of w s = elim (at w.scopes s) [ None ↦ [] | Some x ↦ x.hooks ]

  -- the effects that a scope has queued, in order
  abbrev pub effects_of : State K → ℕ → List K.Effect
  effects_of w s = elim (at w.scopes s) [ None ↦ [] | Some x ↦ x.effects ]

  -- how often a scope's body has answered a tree
  abbrev pub renders_of : State K → ℕ → ℕ
  renders_of w s = elim (at w.scopes s) [ None ↦ 0 | Some x ↦ x.renders ]

  -- the present value of each source, none where it is gone
  abbrev pub values_of : State K → Values K
  values_of w =
      record {
        cell = λ n. elim (at w.cells n) [ None ↦ None | Some c ↦ Some c.value ];
        error = λ s. elim (at w.scopes s) [ None ↦ None | Some x ↦ x.error ];
        context = λ k s. elim (at w.scopes s) [ None ↦ None | Some x ↦ at x.contexts k ];
      }

  -- each live scope with its parent
  abbrev pub parents_of : List (ℕ × Scope K) → List (ℕ × Option ℕ)
  parents_of [] = []
  parents_of (e ∷ es) = (e.0, (e.1).parent) ∷ parents_of es

  -- the live error boundaries
  abbrev pub boundaries_of : List (ℕ × Scope K) → List ℕ
  boundaries_of [] = []
  boundaries_of (e ∷ es) = if is_error_boundary (e.1).component then e.0 ∷ boundaries_of es else boundaries_of es

  -- what a call in scope s may see
  abbrev pub world_of : State K → ℕ → Option ℕ → Bool → World K
  world_of w s task rendering =
      record {
        given =
            record {
              scope = s;
              parents = parents_of w.scopes;
              boundaries = boundaries_of w.scopes;
              renders = renders_of w s;
              hooks = hooks_of w s;
              next = w.next;
              task = task;
              rendering = rendering;
            };
        values = values_of w;
      }
