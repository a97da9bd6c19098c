-- The laws of an application: what its calls read decides what they mean, and new numbers are the world's next ones.
use Rattle.std.specs.Prelude.{ℕ, ◌+◌, Bool, true, false, nat_eq, List, [], ◌∷◌, flat_map, Option, Some, None, ◌≡◌, ◌≤◌, ◌<◌}
use Rattle.rt_model.specs.Lists.{nth}
use Rattle.std.specs.List.{AllByRecursion}
use Rattle.rt_model.specs.Tree.{Types}
use Rattle.rt_model.specs.World.{Source, Cell, Error, Context, Counter, Scopes, Tasks, Cells, Contexts, Elements, Errors, Renders, Firsts, last_number, CallFault, CounterAtEnd, OtherHook, Hook, Event, Command, NewCell, NewContext, Spawn, World, Meaning, Application}
use Rattle.rt_model.specs.Program.{kind_of, Programs, application_of, body_means}

-- the numbers count up from the first one, and the last one is the next to be drawn
abbrev pub CountUp : ℕ → List ℕ → ℕ → Type 0
CountUp first [] after = first ≡ after
CountUp first (n ∷ ns) after = (n ≡ first) × CountUp (first + 1) ns after

module _ {K : Types} where
  -- the two worlds give one source the same value; of cells it speaks of those that were numbered before the call
  abbrev pub SameAt : World K → World K → Source → Type 0
  SameAt v w (Cell n) = n < v.given.next.cells → v.values.cell n ≡ w.values.cell n
  SameAt v w (Error s) = v.values.error s ≡ w.values.error s
  SameAt v w (Context k s) = v.values.context k s ≡ w.values.context k s

  -- the two worlds give these sources the same values
  abbrev pub Agree : World K → World K → List Source → Type 0
  Agree v w sources = AllByRecursion (λ x. SameAt v w x) sources

  -- equal givens, the values read aside among them, and equal values of the recorded reads decide what a call means
  abbrev pub ReadsDecide : {A : Type 0} → (World K → Meaning K A) → Type 0
  ReadsDecide {A = A} f =
      (v w : World K) → v.given ≡ w.given → Agree v w (f v).aside → Agree v w (f v).reads → f v ≡ f w

  -- two meanings give the same answer, reads and commands
  abbrev pub MeanAlike : {A : Type 0} → Meaning K A → Meaning K A → Type 0
  MeanAlike m n = (m.answer ≡ n.answer) × (m.reads ≡ n.reads) × (m.commands ≡ n.commands)

  -- the number that a command gives to a new cell, context or task
  abbrev pub new_cell : Command K → List ℕ
  new_cell (NewCell n v) = n ∷ []
  new_cell _ = []

  -- the number that a command gives to a new reactive context
  abbrev pub new_context : Command K → List ℕ
  new_context (NewContext n t) = n ∷ []
  new_context _ = []

  -- the number that a command gives to a new task
  abbrev pub new_task : Command K → List ℕ
  new_task (Spawn n a f i) = n ∷ []
  new_task _ = []

  -- the commands of a call number its new cells, contexts and tasks from the first numbers on, and leave the next ones; it draws no element
  pub record IsNumbered (first : Firsts) (commands : List (Command K)) (next : Firsts) : Type 0 where
    pub cells : CountUp first.cells (flat_map new_cell commands) next.cells
    pub contexts : CountUp first.contexts (flat_map new_context commands) next.contexts
    pub tasks : CountUp first.tasks (flat_map new_task commands) next.tasks
    -- no call draws the number of a node
    pub elements : next.elements ≡ first.elements
    -- serial numbers of errors may be drawn for errors that no command names
    pub errors : first.errors ≤ next.errors

  -- new numbers are the world's next ones, in order
  abbrev pub Numbered : {A : Type 0} → (World K → Meaning K A) → Type 0
  Numbered f = (w : World K) → IsNumbered w.given.next (f w).commands (f w).next

-- the next number of a counter that calls draw from
abbrev pub counter_of : Firsts → Counter → Option ℕ
counter_of next Tasks = Some next.tasks
counter_of next Cells = Some next.cells
counter_of next Contexts = Some next.contexts
counter_of next Errors = Some next.errors
counter_of next Scopes = None
counter_of next Elements = None
counter_of next Renders = None

module _ {K : Types} where
  -- a call was refused: its counter is at its end, or the hook that stood at its index has another kind
  abbrev pub IsRefusal : World K → Firsts → CallFault → Type 0
  IsRefusal w next (CounterAtEnd what) = counter_of next what ≡ Some last_number
  IsRefusal w next (OtherHook scope index kept asked) =
      (scope ≡ w.given.scope)
      ×
      ((h : Hook K) × (nth w.given.hooks index ≡ Some h) × (kind_of h ≡ kept) × (nat_eq kept asked ≡ false))

  -- the fault of a call, where there is one, is a refusal of its world
  abbrev pub IsFault : World K → Firsts → Option CallFault → Type 0
  IsFault w next None = Unit {0}
  IsFault w next (Some f) = IsRefusal w next f

  -- the fault, where there is one, is that of a call in this world
  abbrev pub Refuses : {A : Type 0} → (World K → Meaning K A) → Type 0
  Refuses f = (w : World K) → IsFault w (f w).next (f w).fault

-- a test decides whether two values are equal
abbrev pub Tests : (A : Type 0) → (A → A → Bool) → Type 0
Tests A same = ((a b : A) → same a b ≡ true → a ≡ b) × ((a : A) → same a a ≡ true)

-- the laws, each a sentence
pub record IsLawful (K : Types) (app : Application K) : Type 0 where
  pub bodies_read : (c : K.Component) (p : K.Props) → ReadsDecide (app.body c p)
  pub polls_read : (a : K.TaskState) → ReadsDecide (app.poll a)
  pub effects_read : (e : K.Effect) → ReadsDecide (app.effect e)
  pub handlers_read : (h : K.Handler) (e : Event K) → ReadsDecide (app.handle h e)
  pub bodies_number : (c : K.Component) (p : K.Props) → Numbered (app.body c p)
  pub polls_number : (a : K.TaskState) → Numbered (app.poll a)
  pub effects_number : (e : K.Effect) → Numbered (app.effect e)
  pub handlers_number : (h : K.Handler) (e : Event K) → Numbered (app.handle h e)
  pub bodies_refuse : (c : K.Component) (p : K.Props) → Refuses (app.body c p)
  pub polls_refuse : (a : K.TaskState) → Refuses (app.poll a)
  pub effects_refuse : (e : K.Effect) → Refuses (app.effect e)
  pub handlers_refuse : (h : K.Handler) (e : Event K) → Refuses (app.handle h e)
  -- memoize is true only where old and new props give the same answer, reads and commands in every world
  pub memoized_alike :
      (c : K.Component) (p q : K.Props) → app.memoize c p q ≡ true → (w : World K) → MeanAlike (app.body c p w) (app.body c q w)
  pub tests_components : Tests K.Component app.same_component
  pub tests_props : Tests K.Props app.same_props
  pub tests_values : Tests K.Value app.same_value
  pub tests_handlers : Tests K.Handler app.same_handler

-- an application whose calls are programs is lawful, where its tests decide and it memoizes only what means the same
abbrev pub ProgramsAreLawful : (K : Types) → Type 0
ProgramsAreLawful K =
    (a : Programs K)
    → ((c : K.Component) (p q : K.Props)
    → a.memoize c p q ≡ true
    → (w : World K)
    → MeanAlike (body_means (a.body c p) w) (body_means (a.body c q) w))
    → Tests K.Component a.same_component
    → Tests K.Props a.same_props
    → Tests K.Value a.same_value
    → Tests K.Handler a.same_handler
    → IsLawful K (application_of a)
