-- What statements mean, as a program, and how they end.
use Rattle.std.specs.Prelude.{ℕ, Bool, true, false, pos, negsuc, List, [], ◌∷◌, ◌++◌, Option, Some, None}
use Rattle.rt_model.specs.Tree.{CapturedError, Element, failed, suspended}
use Rattle.rt_model.specs.World.{clean_up_kind, before_render_kind, after_render_kind}
use Rattle.rt_model.specs.Program.{Program, done, current_scope, new_cell, write, drop_cell, spawn, remove_future, wake, set_active, queue_effect, after_suspense_resolved, freeze, provide, needs_update, captured, throw, clear_errors, hook_is_new, use_hook, use_effect}
use Rattle.rt_language.specs.Syntax.{HookTime, AtRemoval, BeforeRender, AfterRender, SpawnKind, Client, Isomorphic, Forever, TaskAct, WakeUp, Cancel, Pause, Resume, Statement, Let, UseCell, UseHook, UseDerived, SpawnTask, CallAt, EffectOf, OnResolved, FreezeBoundary, When, ProvideAs, WriteTo, Forget, ActOn, MarkScopeOf, ThrowText, ClearError, FailWith, SuspendOn, Stop, Prevent, Stay, Statements, NoStatements, MoreStatements}
use Rattle.rt_language.specs.Values.{Value, NoValue, NumberValue, TextValue, CellValue, TaskValue, hook_kind, is_true, text_of}
use Rattle.author_programs.specs.Sequence.{go_on}
use Rattle.rt_language.specs.Expressions.{Doing, Standing, Stepping, SourceTypes, Caller, ABody, AListener, AnotherCall, held_by, Evaluation, evaluate, evaluate_all}
use Rattle.rt_language.specs.Formulas.{derived_cell}

-- a call at work: what its variables hold, and what its statements have asked for
pub record Frame : Type 0 where
  pub held : List Value
  -- the event goes no further
  pub stopped : Bool
  -- the event's default is prevented
  pub prevented : Bool
  -- the step isn't advanced by this poll
  pub stays : Bool

-- how statements end
pub data Outcome : Type 0 where
  -- the next statement follows
  WentOn : (frame : Frame) → Outcome
  -- a body ended early with this answer
  EndedWith : (answer : Element SourceTypes) → Outcome
  -- a call was refused
  WasRefused : Outcome

-- a program that runs statements
abbrev pub Running : Type 0
Running = Program SourceTypes Outcome

-- the next statement follows at once
abbrev pub goes_on : Frame → Running
goes_on f = done (WentOn f)

-- a frame at the start of a call with these arguments
abbrev pub frame_of : List Value → Frame
frame_of held = record { held = held; stopped = false; prevented = false; stays = false }

-- one more variable
abbrev pub binding : Frame → Value → Frame
binding f v = record f { held = f.held ++ v ∷ [] }

-- a hook's kept value is bound
abbrev pub bound_hook : Frame → Option Value → Running
bound_hook f None = done WasRefused
bound_hook f (Some v) = goes_on (binding f v)

-- a hook of a kind, with the value that it is made with
abbrev pub hook_with : Frame → ℕ → Value → Running
hook_with f kind v = use_hook kind v (λ kept. bound_hook f kept)

-- the hook of a cell that was just made
abbrev pub hook_of_cell : Frame → Option ℕ → Running
hook_of_cell f None = done WasRefused
hook_of_cell f (Some n) = hook_with f 3 (CellValue n)

-- a cell that is made on first use and kept
abbrev pub cell_hook : Frame → Evaluation → Bool → Running
cell_hook f first true = go_on first (λ v. new_cell v (λ n. hook_of_cell f n))
cell_hook f first false = hook_with f 3 NoValue

-- the cell of a memo or of a resource is bound
abbrev pub bound_cell : Frame → Option ℕ → Running
bound_cell f None = done WasRefused
bound_cell f (Some c) = goes_on (binding f (CellValue c))

-- the hook of a task that was just spawned
abbrev pub hook_of_task : Frame → Option ℕ → Running
hook_of_task f None = done WasRefused
hook_of_task f (Some t) = hook_with f 4 (TaskValue t)

-- a task that was just spawned is bound
abbrev pub bound_task : Frame → Option ℕ → Running
bound_task f None = done WasRefused
bound_task f (Some t) = goes_on (binding f (TaskValue t))

-- a task outlives its scope
abbrev pub is_forever : SpawnKind → Bool
is_forever Client = false
is_forever Isomorphic = false
is_forever Forever = true

-- a task may be polled by a render while suspended
abbrev pub is_isomorphic : SpawnKind → Bool
is_isomorphic Client = false
is_isomorphic Isomorphic = true
is_isomorphic Forever = false

-- a task at its first step
abbrev pub standing : ℕ → List Value → Standing
standing task arguments = record { task = task; arguments = arguments; step = 0 }

-- a task is spawned with arguments
abbrev pub spawned : ℕ → SpawnKind → Program SourceTypes (List Value) → (Option ℕ → Running) → Running
spawned task kind arguments bound =
    go_on arguments (λ vs. spawn (Stepping (standing task vs)) (is_forever kind) (is_isomorphic kind) (λ t. bound t))

-- a task that is spawned on first use and kept
abbrev pub task_hook : Frame → ℕ → SpawnKind → Program SourceTypes (List Value) → Bool → Running
task_hook f task kind arguments true = spawned task kind arguments (λ t. hook_of_task f t)
task_hook f task kind arguments false = hook_with f 4 NoValue

-- a body keeps the task as a hook, another call spawns each time
abbrev pub spawning : Caller → Frame → ℕ → SpawnKind → Program SourceTypes (List Value) → Running
spawning ABody f task kind arguments = hook_is_new (λ new. task_hook f task kind arguments new)
spawning (AListener payload) f task kind arguments = spawned task kind arguments (λ t. bound_task f t)
spawning AnotherCall f task kind arguments = spawned task kind arguments (λ t. bound_task f t)

-- the kind of hook that calls an action at a time
abbrev pub time_kind : HookTime → ℕ
time_kind AtRemoval = clean_up_kind
time_kind BeforeRender = before_render_kind
time_kind AfterRender = after_render_kind

-- an action with these arguments
abbrev pub doing : ℕ → List Value → Doing
doing action arguments = record { action = action; arguments = arguments }

-- an effect's hook stood with its kind, or was new
abbrev pub if_stands : Frame → Bool → Running
if_stands f true = goes_on f
if_stands f false = done WasRefused

-- the statements where the test is true; names that are bound in them end with them
abbrev pub kept_names : Frame → Outcome → Outcome
kept_names f (WentOn g) = WentOn (record g { held = f.held })
kept_names f (EndedWith answer) = EndedWith answer
kept_names f WasRefused = WasRefused

-- what a cell that a variable holds is written
abbrev pub written : Value → Value → Running → Running
written (CellValue c) v rest = write c v rest
written NoValue v rest = rest
written (NumberValue n) v rest = rest
written (TextValue t) v rest = rest
written (TaskValue t) v rest = rest

-- a cell that a variable holds is dropped
abbrev pub forgotten : Value → Running → Running
forgotten (CellValue c) rest = drop_cell c rest
forgotten NoValue rest = rest
forgotten (NumberValue n) rest = rest
forgotten (TextValue t) rest = rest
forgotten (TaskValue t) rest = rest

-- what is done to a task
abbrev pub acted_on : TaskAct → ℕ → Running → Running
acted_on WakeUp t rest = wake t rest
acted_on Cancel t rest = remove_future t rest
acted_on Pause t rest = set_active t false rest
acted_on Resume t rest = set_active t true rest

-- what is done to a task that a variable holds
abbrev pub acted : TaskAct → Value → Running → Running
acted act (TaskValue t) rest = acted_on act t rest
acted act NoValue rest = rest
acted act (NumberValue n) rest = rest
acted act (TextValue t) rest = rest
acted act (CellValue c) rest = rest

-- the scope with a number of at least 0 is marked
abbrev pub marked : Value → Running → Running
marked (NumberValue (pos n)) rest = needs_update n rest
marked (NumberValue (negsuc n)) rest = rest
marked NoValue rest = rest
marked (TextValue t) rest = rest
marked (CellValue c) rest = rest
marked (TaskValue t) rest = rest

-- an error that was made is thrown
abbrev pub thrown : Frame → Option CapturedError → Running
thrown f None = done WasRefused
thrown f (Some e) = throw e (goes_on f)

-- a body ends with an error that was made
abbrev pub failed_with : Option CapturedError → Running
failed_with None = done WasRefused
failed_with (Some e) = done (EndedWith (failed e))

-- a body suspends on a task that a variable holds
abbrev pub suspends_on : Frame → Value → Running
suspends_on f (TaskValue t) = current_scope (λ s. done (EndedWith (suspended s t)))
suspends_on f NoValue = goes_on f
suspends_on f (NumberValue n) = goes_on f
suspends_on f (TextValue t) = goes_on f
suspends_on f (CellValue c) = goes_on f

-- the statements that follow, where the last one went on
abbrev pub then_run : (Frame → Running) → Outcome → Running
then_run rest (WentOn f) = rest f
then_run rest (EndedWith answer) = done (EndedWith answer)
then_run rest WasRefused = done WasRefused

unfoldable mutual
  -- what one statement does
  pub perform : Caller → Frame → Statement → Running
  perform by f (Let e) = go_on (evaluate by f.held e) (λ v. goes_on (binding f v))
  perform by f (UseCell first) = hook_is_new (λ new. cell_hook f (evaluate by f.held first) new)
  perform by f (UseHook first) = go_on (evaluate by f.held first) (λ v. hook_with f (hook_kind v) v)
  perform by f (UseDerived derived) = go_on (derived_cell f.held derived) (λ c. bound_cell f c)
  perform by f (SpawnTask task es kind) = spawning by f task kind (evaluate_all by f.held es)
  perform by f (CallAt time action es) =
      go_on (evaluate_all by f.held es) (λ vs. use_effect (time_kind time) (doing action vs) (λ stands. if_stands f stands))
  perform by f (EffectOf action es) = go_on (evaluate_all by f.held es) (λ vs. queue_effect (doing action vs) (goes_on f))
  perform by f (OnResolved action es) = go_on (evaluate_all by f.held es) (λ vs. after_suspense_resolved (doing action vs) (goes_on f))
  perform by f FreezeBoundary = freeze (goes_on f)
  perform by f (When test statements) =
      go_on
      (evaluate by f.held test)
      (λ v. elim (is_true v) [ true ↦ go_on (run_statements by f statements) (λ o. done (kept_names f o)) | false ↦ goes_on f ])
  perform by f (ProvideAs kind e) = go_on (evaluate by f.held e) (λ v. provide false kind v (goes_on f))
  perform by f (WriteTo n e) = go_on (evaluate by f.held e) (λ v. written (held_by f.held n) v (goes_on f))
  perform by f (Forget n) = forgotten (held_by f.held n) (goes_on f)
  perform by f (ActOn act n) = acted act (held_by f.held n) (goes_on f)
  perform by f (MarkScopeOf e) = go_on (evaluate by f.held e) (λ v. marked v (goes_on f))
  perform by f (ThrowText e) = go_on (evaluate by f.held e) (λ v. captured (text_of v) (λ made. thrown f made))
  perform by f ClearError = clear_errors (goes_on f)
  perform by f (FailWith e) = go_on (evaluate by f.held e) (λ v. captured (text_of v) (λ made. failed_with made))
  perform by f (SuspendOn n) = suspends_on f (held_by f.held n)
  perform by f Stop = goes_on (record f { stopped = true })
  perform by f Prevent = goes_on (record f { prevented = true })
  perform by f Stay = goes_on (record f { stays = true })

  -- statements, one after another
  pub run_statements : Caller → Frame → Statements → Running
  run_statements by f NoStatements = goes_on f
  run_statements by f (MoreStatements first rest) = go_on (perform by f first) (λ o. then_run (λ g. run_statements by g rest) o)
