-- What one call of an application may see, and what it answers.
use Rattle.std.specs.Prelude.{ℕ, Bool, false, ◌&&◌, nat_eq, List, Option}
use Rattle.rt_model.specs.Tree.{Types, CapturedError, Element}

-- what a reader reads: a cell, the error slot of a scope, what a scope itself provides of a kind
pub data Source : Type 0 where
  Cell : (cell : ℕ) → Source
  Error : (scope : ℕ) → Source
  Context : (kind scope : ℕ) → Source

-- equal sources
abbrev pub same_source : Source → Source → Bool
same_source (Cell a) (Cell b) = nat_eq a b
same_source (Error a) (Error b) = nat_eq a b
same_source (Context k a) (Context j b) = nat_eq k j && nat_eq a b
same_source _ _ = false

-- what a reactive context marks
pub data Target : Type 0 where
  ScopeTarget : (scope : ℕ) → Target
  TaskTarget : (task : ℕ) → Target

-- what is counted, and may come to its end
pub data Counter : Type 0 where
  Scopes : Counter
  Tasks : Counter
  Cells : Counter
  Contexts : Counter
  Elements : Counter
  Errors : Counter
  Renders : Counter

-- the next numbers of the counters that calls draw from, and of the elements
pub record Firsts : Type 0 where
  -- the next task
  pub tasks : ℕ
  -- the next cell
  pub cells : ℕ
  -- the next reactive context
  pub contexts : ℕ
  -- the next node of the document
  pub elements : ℕ
  -- the next serial number of an error
  pub errors : ℕ

-- the greatest 64-bit number marks the end of a counter and is never drawn
abbrev pub last_number : ℕ
last_number = 18446744073709551615

-- a counter has no number left
abbrev pub at_end : ℕ → Bool
at_end n = nat_eq n last_number

-- the kind of clean-ups: effects that are done when their scope is removed
abbrev pub clean_up_kind : ℕ
clean_up_kind = 4294967293

-- of effects that are done before each run of their scope
abbrev pub before_render_kind : ℕ
before_render_kind = 4294967294

-- of effects that are done after each run's commands
abbrev pub after_render_kind : ℕ
after_render_kind = 4294967295

-- why a call on what an application is handed was refused
pub data CallFault : Type 0 where
  CounterAtEnd : (what : Counter) → CallFault
  OtherHook : (scope index kept asked : ℕ) → CallFault

module _ (K : Types) where
  -- what is kept at an index of a scope
  pub data Hook : Type 0 where
    HookValue : (kind : ℕ) → K.Value → Hook
    HookEffect : (kind : ℕ) → K.Effect → Hook

  -- an event on its way through the listeners
  pub record Event : Type 0 where
    pub payload : K.Payload
    -- whether it goes on to the listeners further out
    pub propagates : Bool
    -- whether a listener prevented the default
    pub prevented : Bool

  -- what a call wants done after it has returned
  pub data Command : Type 0 where
    KeepHook : Hook → Command
    NewCell : (cell : ℕ) → K.Value → Command
    Write : (cell : ℕ) → K.Value → Command
    DropCell : (cell : ℕ) → Command
    NewContext : (context : ℕ) → Target → Command
    Reset : (context : ℕ) → Command
    ReadInto : (context : ℕ) → Source → Command
    Spawn : (task : ℕ) → K.TaskState → (forever isomorphic : Bool) → Command
    RemoveFuture : (task : ℕ) → Command
    Wake : (task : ℕ) → Command
    SetActive : (task : ℕ) → Bool → Command
    QueueEffect : K.Effect → Command
    Provide : (root : Bool) (kind : ℕ) → K.Value → Command
    Update : (scope : ℕ) → Command
    Throw : CapturedError → Command
    ClearErrors : Command
    Resolved : K.Effect → Command
    Freeze : Command

  -- what a call is given, but for the values that it reads
  pub record Given : Type 0 where
    -- the scope that calls
    pub scope : ℕ
    -- of every live scope
    pub parents : List (ℕ × Option ℕ)
    -- the live scopes that are error boundaries
    pub boundaries : List ℕ
    -- how often the scope has answered a tree
    pub renders : ℕ
    -- what the scope keeps, by index
    pub hooks : List Hook
    -- the numbers that are drawn next
    pub next : Firsts
    -- the task that is polled
    pub task : Option ℕ
    -- whether a patch is running
    pub rendering : Bool

  -- the present values of the sources
  pub record Values : Type 0 where
    -- by the cell's number
    pub cell : ℕ → Option K.Value
    -- by the scope of the error slot
    pub error : ℕ → Option CapturedError
    -- by kind and providing scope
    pub context : ℕ → ℕ → Option K.Value

  -- what a call may see
  pub record World : Type 0 where
    pub given : Given
    pub values : Values

  -- what a call means in a world: its answer, the sources that it read, those that it read aside,
  -- its commands, the next numbers that it leaves, and the first fault that a call of it met
  pub record Meaning (A : Type 0) : Type 0 where
    pub answer : A
    -- what a body read: a change of these reruns it
    pub reads : List Source
    -- what was read for a reactive context, or by a call that is no body
    pub aside : List Source
    pub commands : List Command
    pub next : Firsts
    pub fault : Option CallFault

  -- what a poll answers
  pub data TaskStep : Type 0 where
    pending : K.TaskState → TaskStep
    ready : TaskStep

-- what an effect answers
pub data Nothing : Type 0 where
  nothing : Nothing

-- an application: what its calls mean, and its tests of equal values
pub record Application (K : Types) : Type 0 where
  -- the component at the top
  pub root : K.Component
  pub same_component : K.Component → K.Component → Bool
  pub same_props : K.Props → K.Props → Bool
  pub same_value : K.Value → K.Value → Bool
  pub same_handler : K.Handler → K.Handler → Bool
  -- whether a component means the same with new props as with old ones
  pub memoize : K.Component → K.Props → K.Props → Bool
  -- what a component answers
  pub body : K.Component → K.Props → World K → Meaning K (Element K)
  -- what a task does at a poll
  pub poll : K.TaskState → World K → Meaning K (TaskStep K)
  -- what an effect does
  pub effect : K.Effect → World K → Meaning K Nothing
  -- what a listener makes of an event
  pub handle : K.Handler → Event K → World K → Meaning K (Event K)
