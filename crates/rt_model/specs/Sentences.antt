-- Sentences beside the headline: between units and entries, of the numbers that edits carry, of the ends of single calls.
use Rattle.std.specs.Prelude.{ℕ, ◌≤◌, Bool, true, false, ◌&&◌, ◌||◌, not, nat_eq, List, [], ◌∷◌, ◌++◌, Option, Some, None, ◌≡◌, ◌⊎◌, if◌then◌else◌, is_some, Contains}
use Rattle.std.specs.List.{AllByRecursion, list_any}
use Rattle.rt_model.specs.Lists.{at, has, join, first_of}
use Rattle.rt_model.specs.Tree.{Types, Place, Kind}
use Rattle.rt_model.specs.World.{Application}
use Rattle.rt_model.specs.State.{SideName, Mark, Fault, OutOfTurns, Scope, State, Item, Draw, Row, Feed, Make, Drop, side_of, is_live}
use Rattle.rt_model.specs.Commands.{same_posted}
use Rattle.rt_model.specs.Next.{look, found, drops, owes}
use Rattle.rt_model.specs.Replay.{Entry, Made, Fed, Rerun, Machine, fed_child, accepts, is_quiet}
use Rattle.rt_model.specs.Document.{Forest, Empty, Node, Edit, AppendChildren, ReplaceNodeWith, InsertNodesAfter, RemoveNode, SetNodeText, SetAttribute, CreateEventListener, RemoveEventListener, is_in}
use Rattle.rt_model.specs.View.{view}
use Rattle.rt_model.specs.Told.{opens, count_entries}
use Rattle.rt_model.specs.Current.{IsCurrent}
use Rattle.rt_model.specs.Causes.{Limits, depth_refused, next_height}

-- the numbers of nodes, each before those of its children
abbrev pub numbers_in : Forest → List ℕ
numbers_in Empty = []
numbers_in (Node id content children rest) = id ∷ (numbers_in children ++ numbers_in rest)

-- the numbers that an edit carries
abbrev pub carried : Edit → List ℕ
carried (AppendChildren id nodes) = numbers_in nodes
carried (ReplaceNodeWith id nodes) = numbers_in nodes
carried (InsertNodesAfter id nodes) = numbers_in nodes
carried (RemoveNode id) = []
carried (SetNodeText id text) = []
carried (SetAttribute id name namespace value) = []
carried (CreateEventListener id name) = []
carried (RemoveEventListener id name) = []

-- the numbers that edits carry
abbrev pub all_carried : List Edit → List ℕ
all_carried [] = []
all_carried (e ∷ es) = carried e ++ all_carried es

-- the first list is a front of the second one
abbrev pub IsFrontOf : {A : Type 0} → List A → List A → Type 0
IsFrontOf {A = A} front whole = (rest : List A) × (front ++ rest ≡ whole)

-- the sink refused one of these edits and took those before it
abbrev pub TookBefore : List Edit → List Edit → Type 0
TookBefore taken edits = (refused : Edit) × (rest : List Edit) × (taken ++ refused ∷ rest ≡ edits)

-- this scope's body ran by this entry of a patch or a rerun
abbrev pub runs : ℕ → Entry → Bool
runs s (Made t) = nat_eq t s
runs s (Fed t) = nat_eq t s
runs s (Rerun t) = nat_eq t s
runs s _ = false

-- each scope's body ran at most once
abbrev pub NoBodyTwice : List Entry → Type 0
NoBodyTwice log = (s : ℕ) → count_entries (λ e. runs s e) log ≤ 1

module _ {K : Types} where
  -- a scope has a mark, seen or posted
  abbrev pub is_marked : State K → ℕ → Bool
  is_marked w s = has w.seen s || list_any (λ p. same_posted p (Mark s)) w.posted

  -- a scope is on the open work: it is fed or dropped next, or it is a boundary whose row is at work
  abbrev pub is_open : State K → ℕ → List (Item K) → Bool
  is_open w s [] = false
  is_open w s (Draw t side p k ∷ rest) = is_open w s rest
  is_open w s (Row b step ∷ rest) = nat_eq b s || is_open w s rest
  is_open w s (Feed t side p c ∷ rest) = elim (fed_child w t side p) [ None ↦ is_open w s rest | Some u ↦ nat_eq u s || is_open w s rest ]
  is_open w s (Make t side p c ∷ rest) = is_open w s rest
  is_open w s (Drop t u side ∷ rest) = nat_eq t s || is_open w s rest

  -- a node that some live scope keeps has this number
  pub record KeepsNumber (w : State K) (number : ℕ) : Type 0 where
    pub scope : ℕ
    pub row : Scope K
    pub side : SideName
    pub place : Place
    pub kind : Kind
    pub live : at w.scopes scope ≡ Some row
    pub kept : Contains (side_of row side).numbers (place, kind, number)

  -- a number is that of a hidden node that is shown again, or one never carried before
  abbrev pub MayCome : List ℕ → State K → ℕ → Type 0
  MayCome earlier w number = (has earlier number ≡ false) ⊎ ((is_in number (view w) ≡ false) × KeepsNumber w number)

  -- of each number that the edits of a unit carry; w is the state before it, and earlier edits carried these numbers
  abbrev pub AllMayCome : List ℕ → State K → List Edit → Type 0
  AllMayCome earlier w edits = AllByRecursion (λ (number : ℕ). MayCome earlier w number) (all_carried edits)

  -- a mark that is seen at once
  abbrev pub marked_now : State K → ℕ → State K
  marked_now w s = if is_live w s then record w { seen = join w.seen s } else w

  -- every live scope is marked at once
  abbrev pub all_marked_now : List (ℕ × Scope K) → State K → State K
  all_marked_now [] w = w
  all_marked_now (e ∷ es) w = all_marked_now es (marked_now w e.0)

  -- where calls that take unit after unit end

  -- events are processed, and a poll's messages taken in, up to the first state in which a scope is seen or nothing is owed
  abbrev pub events_end : State K → Bool
  events_end w = elim w.seen [ [] ↦ not (owes w) | s ∷ ss ↦ true ]

  -- a render goes on up to the first state in which nothing is seen or queued; a paused task doesn't count
  abbrev pub render_ends : State K → Bool
  render_ends w = not (is_some (found (drops w.queued w)))

  -- to settle is to come to the first state that owes nothing
  abbrev pub settle_ends : State K → Bool
  settle_ends w = not (owes w)

  -- such a call begins with a look, and counts its own units
  abbrev pub call_begun : Machine K → Machine K
  call_begun m = record m { state = look m.state; units = 0 }

  -- the call has to go on and its units are spent
  abbrev pub call_spent : Limits → (State K → Bool) → Machine K → Option Fault
  call_spent limits test m =
      if is_quiet m && nat_eq m.units limits.units && not (test m.state) then Some (OutOfTurns limits.units) else None

  -- the fault with which a call stops here
  abbrev pub call_refusal : Limits → (State K → Bool) → Machine K → Option Fault
  call_refusal limits test m = first_of m.dead (first_of (depth_refused limits (next_height m)) (call_spent limits test m))

module _ {K : Types} (app : Application K) where
  -- a scope is current, or has a mark, or was passed over by a suspended render
  abbrev pub CurrentOrOwed : State K → ℕ → Scope K → Type 0
  CurrentOrOwed w s x = IsCurrent app w s x ⊎ ((is_marked w s ≡ true) ⊎ (has w.skipped s ≡ true))

  -- every live scope, as after the build and after each unit and call
  abbrev pub AllCurrentOrOwed : State K → Type 0
  AllCurrentOrOwed w = AllByRecursion (λ (e : ℕ × Scope K). CurrentOrOwed w e.0 e.1) w.scopes

  -- every live scope that isn't on the open work, as between two entries
  abbrev pub OthersCurrentOrOwed : Machine K → Type 0
  OthersCurrentOrOwed m =
      AllByRecursion (λ (e : ℕ × Scope K). is_open m.state e.0 m.work ≡ false → CurrentOrOwed m.state e.0 e.1) m.state.scopes

  -- a call's log leads from one replay to another: a unit begins only where the test fails, and at the end it holds
  abbrev pub EndsAt : (State K → Bool) → Machine K → List Entry → Machine K → Type 0
  EndsAt test m [] v = (m ≡ v) × (is_quiet m ≡ true) × (test m.state ≡ true)
  EndsAt test m (e ∷ log) v =
      (opens e ≡ true → test m.state ≡ false) × ((u : Machine K) × (accepts app m e ≡ Some u) × EndsAt test u log v)

  -- a call's log comes to this fault
  abbrev pub CallComesTo : Limits → (State K → Bool) → Machine K → List Entry → Fault → Type 0
  CallComesTo limits test m [] fault = call_refusal limits test m ≡ Some fault
  CallComesTo limits test m (e ∷ log) fault =
      (call_refusal limits test m ≡ None)
      ×
      (opens e ≡ true → test m.state ≡ false)
      ×
      ((u : Machine K) × (accepts app m e ≡ Some u) × CallComesTo limits test u log fault)
