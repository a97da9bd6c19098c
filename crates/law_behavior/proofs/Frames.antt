-- What is asked of a fact of a state that each change keeps, each change told apart.
use Rattle.std.proofs.Common.{ℕ, Bool, true, [], ◌∷◌, ◌++◌, ◌≡◌, ◌≤◌, ◌+◌}
use Rattle.std.specs.Prelude.{Some, None}
use Rattle.rt_model.specs.Lists.{at, put, without, drop_number}
use Rattle.rt_model.specs.Tree.{Types, CapturedError, Tree, VComponent, Place, Kind, spots}
use Rattle.rt_model.specs.World.{Source, Cell, Error, Context, Firsts, Hook, Application}
use Rattle.rt_model.specs.State.{SideName, ChildrenSide, Mark, Woken, SuspendedTask, Side, Scope, CellRow, ContextRow, TaskRow, State, empty_side, side_of, with_side, is_live, world_of}
use Rattle.rt_model.specs.Commands.{unqueued, drop_posted, holding, released, post, tell, activated, provided_at}
use Rattle.rt_model.specs.Next.{look, found, paused}
use Rattle.rt_model.specs.Removal.{gone}
use Rattle.rt_model.specs.Run.{with_next, called_where, is_own, kept_call, kept_numbers, kept_children, spots_of, unmarked, body_of}
use Rattle.rt_model.specs.Replay.{numbered, with_new_scope, mounted_state}
use Rattle.law_behavior.specs.Wakes.{differs}
use Rattle.law_behavior.proofs.Calling.{Follows}

-- nothing is asked of a number
abbrev pub Free : ℕ → Type 0
Free n = Unit {0}

-- what may wake a task: a wake of it, a change to active or paused, a source whose readers are told, and a scope that goes
pub data Cause : Type 0 where
  WakesTask : (task : ℕ) → Cause
  SetsActive : (task : ℕ) → (active : Bool) → Cause
  Tells : (source : Source) → Cause
  GoesAway : (scope : ℕ) → Cause

-- what may be done, by number: the error of a boundary cleared, a cell made, written or dropped, a reactive context made, or read
-- into, a task polled or ended by a command, a scope handed a component or removed; which task may be spawned, in which scope
-- and with which state; and what may wake tasks in a state
pub record Permits (K : Types) : Type 1 where
  pub clearable : ℕ → Type 0
  pub makeable : ℕ → Type 0
  pub writable : ℕ → Type 0
  pub droppable : ℕ → Type 0
  pub openable : ℕ → Type 0
  pub readable : ℕ → Type 0
  pub pollable : ℕ → Type 0
  pub endable : ℕ → Type 0
  pub spawnable : State K → ℕ → ℕ → K.TaskState → Type 0
  pub feedable : ℕ → Type 0
  pub removable : ℕ → Type 0
  pub causable : State K → Cause → Type 0

-- all but clearing, ending, feeding and removing may be done freely
abbrev pub permits : {K : Types} → (clearable endable feedable removable : ℕ → Type 0) → Permits K
permits clearable endable feedable removable =
    record {
      clearable = clearable;
      makeable = Free;
      writable = Free;
      droppable = Free;
      openable = Free;
      readable = Free;
      pollable = Free;
      endable = endable;
      spawnable = λ w t s a. Unit {0};
      feedable = feedable;
      removable = removable;
      causable = λ w c. Unit {0};
    }

module _ {K : Types} where
  -- what no field of a frame speaks of may be another: how often a scope rendered, what it queued, what it shows
  abbrev pub Still : Scope K → Scope K → Type 0
  Still x y = y ≡ record x { renders = y.renders; effects = y.effects; shows = y.shows; frozen = y.frozen; callbacks = y.callbacks }

  -- a side with another tree: what has a place in it keeps its number, what is one component keeps its scope
  abbrev pub with_tree : Application K → Tree K → Side K → Side K
  with_tree app tree was =
      record { output = Some tree; numbers = kept_numbers (spots [] tree) was.numbers; children = kept_children app (spots_of was.output) (spots [] tree) was.children }

  -- a fact of a state that each change keeps, told apart so far that a change and those who are told of it come at once: errors are
  -- cleared, cells written and dropped, tasks polled and ended, scopes handed a component and removed only where that is allowed, and
  -- tasks come from a bound on; a side that is given another tree, or is emptied, leaves what is left of the fact
  pub record Frame (app : Application K) (P Q : State K → Type 0) (bound : ℕ) (may : Permits K) : Type 0 where
    pub low : (w : State K) → P w → bound ≤ w.next.tasks
    pub leaves : (w : State K) → P w → Q w
    -- what is owed
    pub marks : (w : State K) (s : ℕ) → P w → P (post w (Mark s))
    pub wakes : (w : State K) (t : ℕ) → may.causable w (WakesTask t) → P w → P (post w (Woken t))
    pub tells : (w : State K) (i : Source) → may.causable w (Tells i) → P w → P (tell w i)
    pub looks : (w : State K) → P w → P (look w)
    pub pauses : (w : State K) (t : ℕ) → paused w (found w) ≡ Some t → P w → P (record w { queued = drop_number w.queued t })
    pub unqueues : (w : State K) (t : ℕ) → may.pollable t → P w → P (unqueued w t)
    pub unmarks : (w : State K) (s : ℕ) → P w → P (unmarked w s)
    -- what no call reads
    pub asides : (w v : State K) → v ≡ record w { resolved = v.resolved; skipped = v.skipped; calls = v.calls } → P w → P v
    pub nexts : (w : State K) (next : Firsts) → Follows app bound w.next next → P w → P (with_next w next)
    -- cells, each with its readers told
    pub writes : (w : State K) (n : ℕ) (v : K.Value) (old : CellRow K) → at w.cells n ≡ Some old → may.writable n → may.causable w (Tells (Cell n)) → P w → P (tell (record w { cells = put w.cells n (record old { value = v }) }) (Cell n))
    pub drops : (w : State K) (n : ℕ) → may.droppable n → may.causable w (Tells (Cell n)) → P w → P (tell (record w { cells = without w.cells n }) (Cell n))
    pub new_cells : (w : State K) (s n : ℕ) (v : K.Value) → may.makeable n → P w → P (record w { cells = w.cells ++ (n, record { owner = s; value = v }) ∷ [] })
    -- reactive contexts
    pub new_contexts : (w : State K) (n : ℕ) (x : ContextRow K) → may.openable n → P w → P (record w { contexts = w.contexts ++ (n, x) ∷ [] })
    pub sources : (w : State K) (n : ℕ) (x y : ContextRow K) → at w.contexts n ≡ Some x → may.readable n → P w → P (record w { contexts = put w.contexts n y })
    -- what a scope keeps
    pub rows : (w : State K) (s : ℕ) (x y : Scope K) → at w.scopes s ≡ Some x → Still x y → P w → P (record w { scopes = put w.scopes s y })
    pub hooks : (w : State K) (s : ℕ) (x : Scope K) (h : Hook K) → at w.scopes s ≡ Some x → P w → P (record w { scopes = put w.scopes s (record x { hooks = x.hooks ++ h ∷ [] }) })
    pub joins : (w : State K) (b t origin : ℕ) (x : Scope K) → at w.scopes b ≡ Some x → P w → P (record w { scopes = put w.scopes b (record x { holders = x.holders ++ (t, origin) ∷ [] }) })
    pub throws : (w : State K) (b : ℕ) (x : Scope K) (e : CapturedError) → at w.scopes b ≡ Some x → x.error ≡ None → may.causable w (Tells (Error b)) → P w → P (tell (record w { scopes = put w.scopes b (record x { error = Some e }) }) (Error b))
    pub clears : (w : State K) (b : ℕ) (x : Scope K) → at w.scopes b ≡ Some x → may.clearable b → may.causable w (Tells (Error b)) → P w → P (tell (record w { scopes = put w.scopes b (record x { error = None }) }) (Error b))
    pub provides : (w : State K) (s k : ℕ) (v : K.Value) (x : Scope K) → at w.scopes s ≡ Some x → (differs app v (at x.contexts k) ≡ true → may.causable w (Tells (Context k s))) → P w → P (provided_at app w s k v (at x.contexts k))
    pub feeds : (w : State K) (t : ℕ) (c : VComponent K) (x : Scope K) → at w.scopes t ≡ Some x → may.feedable t → P w → P (record w { scopes = put w.scopes t (record x { component = c }) })
    -- the sides of a scope: another tree, a number, and a fallback that goes
    pub patches : (w : State K) (s : ℕ) (side : SideName) (tree : Tree K) (x : Scope K) → at w.scopes s ≡ Some x → P w → Q (record w { scopes = put w.scopes s (with_side x side (with_tree app tree (side_of x side))) })
    pub draws : (w : State K) (s : ℕ) (side : SideName) (p : Place) (k : Kind) → P w → P (numbered w s side p k)
    pub empties : (w : State K) (b : ℕ) (x : Scope K) → at w.scopes b ≡ Some x → P w → Q (record w { scopes = put w.scopes b (record x { fallback_side = empty_side }) })
    -- scopes that come and go
    pub makes : (w : State K) (s : ℕ) (side : SideName) (p : Place) (c : VComponent K) (x : Scope K) → at w.scopes s ≡ Some x → P w → P (with_new_scope w s side p c x)
    pub goes : (w : State K) (s : ℕ) → may.removable s → may.causable w (GoesAway s) → P w → P (gone w s)
    pub mounts : (w : State K) → P w → P (mounted_state w)
    -- tasks
    pub ends : (w : State K) (t : ℕ) → may.endable t → P w → P (record w { tasks = without w.tasks t; posted = drop_posted w.posted (Woken t) ++ holding w.scopes t; queued = drop_number w.queued t; scopes = released w.scopes t })
    pub spawns : (w : State K) (t : ℕ) (x : TaskRow K) → is_live w x.scope ≡ true → bound ≤ t → may.spawnable w t x.scope x.state → P w → P (post (record w { tasks = w.tasks ++ (t, x) ∷ [] }) (Woken t))
    pub goes_on : (w : State K) (t : ℕ) (x : TaskRow K) (a : K.TaskState) → at w.tasks t ≡ Some x → may.pollable t → P w → P (record w { tasks = put w.tasks t (record x { state = a }) })
    pub suspends : (w : State K) (t : ℕ) (x : TaskRow K) → at w.tasks t ≡ Some x → P w → P (record w { tasks = put w.tasks t (record x { kind = SuspendedTask }) })
    pub activates : (w : State K) (t : ℕ) (active : Bool) (x : TaskRow K) → at w.tasks t ≡ Some x → may.causable w (SetsActive t active) → P w → P (activated w t active (Some x))

  -- such a fact of what bodies read and of the last calls: a body's call keeps it, whatever the scope had read before, and so does a
  -- boundary that turns to its children
  pub record Called (app : Application K) (P : State K → Type 0) (bound : ℕ) : Type 0 where
    pub bodies :
        (w : State K) (s : ℕ) (c : VComponent K)
        → Follows app bound w.next (body_of app c (world_of w s None true)).next
        → P w
        → P (kept_call (called_where (is_own c (world_of w s None true)) w) s (world_of w s None true) (body_of app c (world_of w s None true)))
    pub turns :
        (w : State K) (b : ℕ) (x : Scope K)
        → at w.scopes b ≡ Some x
        → P w
        → P (record w { last_calls = without w.last_calls b; scopes = put w.scopes b (record x { shows = Some ChildrenSide; reads = [] }) })
    pub turns_nowhere : (w : State K) (b : ℕ) → at w.scopes b ≡ None → P w → P (record w { last_calls = without w.last_calls b })
