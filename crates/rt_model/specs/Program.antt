-- A call of an application as a program in data, and what it means in a world.
use Rattle.std.specs.Prelude.{ℕ, zero, suc, ◌+◌, Bool, true, false, ◌&&◌, nat_eq, nat_lt, nat_le, List, [], ◌∷◌, ◌++◌, length, Option, Some, None, if◌then◌else◌}
use Rattle.rt_model.specs.Lists.{Text, at, nth, has}
use Rattle.rt_model.specs.Tree.{Types, CapturedError, Element}
use Rattle.rt_model.specs.World.{Source, Cell, Error, Context, Target, Tasks, Cells, Contexts, Errors, Firsts, at_end, CallFault, CounterAtEnd, OtherHook, Hook, HookValue, HookEffect, Event, Command, KeepHook, NewCell, Write, DropCell, NewContext, Reset, ReadInto, Spawn, RemoveFuture, Wake, SetActive, QueueEffect, Provide, Update, Throw, ClearErrors, Resolved, Freeze, Given, World, Meaning, TaskStep, Nothing, Application}

-- done, or a call and what follows its answer; a call that may be refused gives none, or false, and goes on
pub data Program (K : Types) (A : Type 0) : Type 0 where
  done : A → Program K A
  -- what a call is given
  current_scope : (ℕ → Program K A) → Program K A
  parent_scope : (Option ℕ → Program K A) → Program K A
  current_task : (Option ℕ → Program K A) → Program K A
  rendering : (Bool → Program K A) → Program K A
  generation : (ℕ → Program K A) → Program K A
  -- reads
  read : (cell : ℕ) → (Option K.Value → Program K A) → Program K A
  error : (Option CapturedError → Program K A) → Program K A
  consume_context : (from : Option ℕ) (kind : ℕ) → (Option K.Value → Program K A) → Program K A
  has_context : (kind : ℕ) → (Option K.Value → Program K A) → Program K A
  -- reactive contexts
  new_context : Target → (Option ℕ → Program K A) → Program K A
  run_in : (context : ℕ) → Program K A → Program K A
  reset_and_run_in : (context : ℕ) → Program K A → Program K A
  leave : Program K A → Program K A
  -- cells
  new_cell : K.Value → (Option ℕ → Program K A) → Program K A
  write : (cell : ℕ) → K.Value → Program K A → Program K A
  drop_cell : (cell : ℕ) → Program K A → Program K A
  -- tasks and effects
  spawn : K.TaskState → (forever isomorphic : Bool) → (Option ℕ → Program K A) → Program K A
  remove_future : (task : ℕ) → Program K A → Program K A
  wake : (task : ℕ) → Program K A → Program K A
  set_active : (task : ℕ) → Bool → Program K A → Program K A
  queue_effect : K.Effect → Program K A → Program K A
  after_suspense_resolved : K.Effect → Program K A → Program K A
  freeze : Program K A → Program K A
  -- contexts, marks and errors
  provide : (root : Bool) (kind : ℕ) → K.Value → Program K A → Program K A
  needs_update : (scope : ℕ) → Program K A → Program K A
  captured : Text → (Option CapturedError → Program K A) → Program K A
  throw : CapturedError → Program K A → Program K A
  clear_errors : Program K A → Program K A
  -- hooks, of a body alone
  hook_is_new : (Bool → Program K A) → Program K A
  use_hook : (kind : ℕ) → K.Value → (Option K.Value → Program K A) → Program K A
  use_effect : (kind : ℕ) → K.Effect → (Bool → Program K A) → Program K A

-- a call at work
pub record Call (K : Types) : Type 0 where
  -- whether it is a body, whose reads are recorded
  pub in_body : Bool
  -- the index of the next hook
  pub index : ℕ
  -- the cells that the call made
  pub cells : List (ℕ × K.Value)
  -- what it provided, of a kind at a scope
  pub provided : List (ℕ × ℕ × K.Value)
  -- the reactive contexts that reads go to, the last one first
  pub into : List ℕ
  pub next : Firsts
  pub reads : List Source
  pub aside : List Source
  pub commands : List (Command K)
  pub fault : Option CallFault

-- the first fault stays
abbrev pub first_fault : Option CallFault → CallFault → Option CallFault
first_fault None f = Some f
first_fault (Some old) f = Some old

-- the parent of a scope, where it is live
abbrev pub parent_in : List (ℕ × Option ℕ) → ℕ → Option ℕ
parent_in parents s = elim (at parents s) [ None ↦ None | Some p ↦ p ]

-- what the call itself provided of a kind at a scope
abbrev pub own_context : {V : Type 0} → List (ℕ × ℕ × V) → ℕ → ℕ → Option V
own_context [] k s = None
own_context (e ∷ es) k s = if nat_eq e.0 k && nat_eq e.1 s then Some e.2 else own_context es k s

-- the reactive contexts that stay entered once the last one is left
abbrev pub left_behind : List ℕ → List ℕ
left_behind [] = []
left_behind (n ∷ ns) = ns

-- what a look-up found, and the call that notes its reads
pub record Found (K : Types) : Type 0 where
  pub value : Option K.Value
  pub call : Call K

module _ {K : Types} where
  -- one more command
  abbrev pub says : Call K → Command K → Call K
  says c m = record c { commands = c.commands ++ m ∷ [] }

  -- a call that was refused goes on with its fault noted
  abbrev pub faults : Call K → CallFault → Call K
  faults c f = record c { fault = first_fault c.fault f }

  -- a read of a body is recorded; one for a reactive context, or of another call, is aside
  abbrev pub noted_at : Call K → Source → List ℕ → Bool → Call K
  noted_at c x [] true = record c { reads = x ∷ c.reads }
  noted_at c x [] false = record c { aside = x ∷ c.aside }
  noted_at c x (n ∷ ns) body = record c { aside = x ∷ c.aside; commands = c.commands ++ ReadInto n x ∷ [] }

  -- a read is noted where the call stands
  abbrev pub noted : Call K → Source → Call K
  noted c x = noted_at c x c.into c.in_body

  -- a cell that the call made has its first value
  abbrev pub value_in : World K → Option K.Value → ℕ → Option K.Value
  value_in w (Some v) n = Some v
  value_in w None n = w.values.cell n

  -- the nearest error boundary from a scope upwards, at most n steps up
  abbrev pub boundary_above : Given K → ℕ → ℕ → Option ℕ
  boundary_above g zero s = None
  boundary_above g (suc n) s = if has g.boundaries s then Some s
      else elim (parent_in g.parents s) [ None ↦ None | Some p ↦ boundary_above g n p ]

  -- the nearest error boundary of the calling scope
  abbrev pub nearest_boundary : Given K → Option ℕ
  nearest_boundary g = boundary_above g (length g.parents) g.scope

  -- the error that a boundary's slot holds
  abbrev pub error_in : World K → Option ℕ → Option CapturedError
  error_in w None = None
  error_in w (Some b) = w.values.error b

  -- the read of that slot is noted
  abbrev pub noted_error : Call K → Option ℕ → Call K
  noted_error c None = c
  noted_error c (Some b) = noted c (Error b)

  -- one scope on the way of a look-up: what the call provided there is no read
  abbrev pub found_at : World K → ℕ → ℕ → Call K → (Call K → Found K) → Option K.Value → Option K.Value → Found K
  found_at w k s c further (Some v) present = record { value = Some v; call = c }
  found_at w k s c further None (Some v) = record { value = Some v; call = noted c (Context k s) }
  found_at w k s c further None None = further (noted c (Context k s))

  -- the look-up ends with nothing found
  abbrev pub no_further : Call K → Found K
  no_further c = record { value = None; call = c }

  -- the look-up goes on at the parent, where there is one
  abbrev pub further_up : (ℕ → Call K → Found K) → Option ℕ → Call K → Found K
  further_up go None c = no_further c
  further_up go (Some p) c = go p c

  -- the look-up of a kind from a scope upwards, at most n steps up
  abbrev pub looked_up : World K → ℕ → ℕ → ℕ → Call K → Found K
  looked_up w k zero s c = no_further c
  looked_up w k (suc n) s c =
      found_at
      w
      k
      s
      c
      (λ d. further_up (λ p e. looked_up w k n p e) (parent_in w.given.parents s) d)
      (own_context c.provided k s)
      (w.values.context k s)

  -- the scope that a look-up begins at: the one that is named, else the caller's
  abbrev pub own_scope_or : World K → Option ℕ → ℕ
  own_scope_or w None = w.given.scope
  own_scope_or w (Some s) = s

  -- the look-up of a kind through the scopes above
  abbrev pub look_up : World K → Option ℕ → ℕ → Call K → Found K
  look_up w from k c = looked_up w k (length w.given.parents + 1) (own_scope_or w from) c

  -- the look-up of a kind in the calling scope alone
  abbrev pub look_here : World K → ℕ → Call K → Found K
  look_here w k c = found_at w k w.given.scope c no_further (own_context c.provided k w.given.scope) (w.values.context k w.given.scope)

  -- a context is provided, by the calling scope or by the root
  abbrev pub provides : World K → Call K → Bool → ℕ → K.Value → Call K
  provides w c root k v =
      record c {
        provided = (k, (if root then 0 else w.given.scope), v) ∷ c.provided;
        commands = c.commands ++ Provide root k v ∷ [];
      }

  -- the next hook has the next index
  abbrev pub past_hook : Call K → Call K
  past_hook c = record c { index = c.index + 1 }

  -- the kind under which a hook is kept
  abbrev pub kind_of : Hook K → ℕ
  kind_of (HookValue k v) = k
  kind_of (HookEffect k e) = k

  -- the value that a hook keeps
  abbrev pub held_in : Hook K → Option K.Value
  held_in (HookValue k v) = Some v
  held_in (HookEffect k e) = None

  -- the call after a hook at its index: kept where it is new, refused where another kind stands
  abbrev pub hooked : World K → Call K → ℕ → Hook K → Option (Hook K) → Call K
  hooked w c k new None = past_hook (says c (KeepHook new))
  hooked w c k new (Some h) =
      if nat_eq (kind_of h) k then past_hook c else past_hook (faults c (OtherHook w.given.scope c.index (kind_of h) k))

  -- what a body is given for the hook at its index: nothing where another kind stands
  abbrev pub hook_value : ℕ → K.Value → Option (Hook K) → Option K.Value
  hook_value k v None = Some v
  hook_value k v (Some h) = if nat_eq (kind_of h) k then held_in h else None

  -- whether an effect was new or stood there with its kind
  abbrev pub hook_stands : ℕ → Option (Hook K) → Bool
  hook_stands k None = true
  hook_stands k (Some h) = nat_eq (kind_of h) k

  -- a cell is made with its first value
  abbrev pub drew_cell : Call K → K.Value → Call K
  drew_cell c v =
      record c {
        next = record (c.next) { cells = c.next.cells + 1 };
        cells = (c.next.cells, v) ∷ c.cells;
        commands = c.commands ++ NewCell c.next.cells v ∷ [];
      }

  -- a reactive context is made
  abbrev pub drew_context : Call K → Target → Call K
  drew_context c t =
      record c { next = record (c.next) { contexts = c.next.contexts + 1 }; commands = c.commands ++ NewContext c.next.contexts t ∷ [] }

  -- a task is spawned
  abbrev pub drew_task : Call K → K.TaskState → Bool → Bool → Call K
  drew_task c a forever isomorphic =
      record c {
        next = record (c.next) { tasks = c.next.tasks + 1 };
        commands = c.commands
            ++ Spawn c.next.tasks a forever isomorphic ∷ [];
      }

  -- an error's serial number is drawn
  abbrev pub drew_error : Call K → Call K
  drew_error c = record c { next = record (c.next) { errors = c.next.errors + 1 } }

  -- the meaning of a call that is done
  abbrev pub ended : {A : Type 0} → Call K → A → Meaning K A
  ended c a =
      record { answer = a; reads = c.reads; aside = c.aside; commands = c.commands; next = c.next; fault = c.fault }

  -- what the rest of a program means, with the call as far as it came
  abbrev pub exec : {A : Type 0} → World K → Program K A → Call K → Meaning K A
  exec w (done a) c = ended c a
  exec w (current_scope f) c = exec w (f w.given.scope) c
  exec w (parent_scope f) c = exec w (f (parent_in w.given.parents w.given.scope)) c
  exec w (current_task f) c = exec w (f w.given.task) c
  exec w (rendering f) c = exec w (f w.given.rendering) c
  exec w (generation f) c = exec w (f w.given.renders) c
  exec w (read n f) c = if nat_lt n c.next.cells then exec w (f (value_in w (at c.cells n) n)) (noted c (Cell n)) else exec w (f None) c
  exec w (error f) c = exec w (f (error_in w (nearest_boundary w.given))) (noted_error c (nearest_boundary w.given))
  exec w (consume_context from k f) c = exec w (f (look_up w from k c).value) (look_up w from k c).call
  exec w (has_context k f) c = exec w (f (look_here w k c).value) (look_here w k c).call
  exec w (new_context t f) c =
      if at_end c.next.contexts then exec w (f None) (faults c (CounterAtEnd Contexts))
      else exec w (f (Some c.next.contexts)) (drew_context c t)
  exec w (run_in n p) c = exec w p (record c { into = n ∷ c.into })
  exec w (reset_and_run_in n p) c = exec w p (record c { into = n ∷ c.into; commands = c.commands ++ Reset n ∷ [] })
  exec w (leave p) c = exec w p (record c { into = left_behind c.into })
  exec w (new_cell v f) c =
      if at_end c.next.cells then exec w (f None) (faults c (CounterAtEnd Cells)) else exec w (f (Some c.next.cells)) (drew_cell c v)
  exec w (write n v p) c = exec w p (says c (Write n v))
  exec w (drop_cell n p) c = exec w p (says c (DropCell n))
  exec w (spawn a forever isomorphic f) c =
      if at_end c.next.tasks
      then exec w (f None) (faults c (CounterAtEnd Tasks))
      else exec w (f (Some c.next.tasks)) (drew_task c a forever isomorphic)
  exec w (remove_future t p) c = exec w p (says c (RemoveFuture t))
  exec w (wake t p) c = exec w p (says c (Wake t))
  exec w (set_active t b p) c = exec w p (says c (SetActive t b))
  exec w (queue_effect e p) c = exec w p (says c (QueueEffect e))
  exec w (after_suspense_resolved e p) c = exec w p (says c (Resolved e))
  exec w (freeze p) c = exec w p (says c Freeze)
  exec w (provide root k v p) c = exec w p (provides w c root k v)
  exec w (needs_update s p) c = exec w p (says c (Update s))
  exec w (captured text f) c =
      if at_end c.next.errors
      then exec w (f None) (faults c (CounterAtEnd Errors))
      else exec w (f (Some (record { serial = c.next.errors; text = text }))) (drew_error c)
  exec w (throw e p) c = exec w p (says c (Throw e))
  exec w (clear_errors p) c = exec w p (says c ClearErrors)
  exec w (hook_is_new f) c = exec w (f (nat_le (length w.given.hooks) c.index)) c
  exec w (use_hook k v f) c =
      exec w (f (hook_value k v (nth w.given.hooks c.index))) (hooked w c k (HookValue k v) (nth w.given.hooks c.index))
  exec w (use_effect k e f) c =
      exec w (f (hook_stands k (nth w.given.hooks c.index))) (hooked w c k (HookEffect k e) (nth w.given.hooks c.index))

  -- a call at its start
  abbrev pub begun : Bool → Firsts → Call K
  begun in_body next =
      record {
        in_body = in_body;
        index = 0;
        cells = [];
        provided = [];
        into = [];
        next = next;
        reads = [];
        aside = [];
        commands = [];
        fault = None;
      }

  -- what a program means as a body, and as another call
  abbrev pub body_means : {A : Type 0} → Program K A → World K → Meaning K A
  body_means p w = exec w p (begun true w.given.next)

  -- what a program means as a call that is no body
  abbrev pub call_means : {A : Type 0} → Program K A → World K → Meaning K A
  call_means p w = exec w p (begun false w.given.next)

-- an application whose calls are programs
pub record Programs (K : Types) : Type 0 where
  pub root : K.Component
  pub same_component : K.Component → K.Component → Bool
  pub same_props : K.Props → K.Props → Bool
  pub same_value : K.Value → K.Value → Bool
  pub same_handler : K.Handler → K.Handler → Bool
  pub memoize : K.Component → K.Props → K.Props → Bool
  pub body : K.Component → K.Props → Program K (Element K)
  pub poll : K.TaskState → Program K (TaskStep K)
  pub effect : K.Effect → Program K Nothing
  pub handle : K.Handler → Event K → Program K (Event K)

-- the application whose calls mean what their programs do
abbrev pub application_of : {K : Types} → Programs K → Application K
application_of a =
    record {
      root = a.root;
      same_component = a.same_component;
      same_props = a.same_props;
      same_value = a.same_value;
      same_handler = a.same_handler;
      memoize = a.memoize;
      body = λ c p w. body_means (a.body c p) w;
      poll = λ s w. call_means (a.poll s) w;
      effect = λ e w. call_means (a.effect e) w;
      handle = λ h e w. call_means (a.handle h e) w;
    }
