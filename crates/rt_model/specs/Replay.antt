-- Which entry may come next, what it does, and the state after a log.
use Rattle.std.specs.Prelude.{ℕ, zero, suc, ◌+◌, Bool, true, false, ◌&&◌, ◌||◌, not, nat_eq, List, [], ◌∷◌, ◌++◌, Option, Some, None, if◌then◌else◌, is_some}
use Rattle.rt_model.specs.Lists.{Text, at, put, kept_by}
use Rattle.rt_model.specs.Tree.{Types, VComponent, Root, Place, Kind}
use Rattle.rt_model.specs.World.{Scopes, Elements, at_end, Firsts, Event, Meaning, TaskStep, pending, ready, Application}
use Rattle.rt_model.specs.Values.{keeps_output}
use Rattle.rt_model.specs.State.{SideName, MainSide, Mark, Woken, Fault, IdsExhausted, RowStep, MadeChildren, Scope, TaskRow, State, Item, Draw, Row, Feed, Make, Drop, Outcome, Done, Cut, onward, side_of, with_side, new_scope, is_live, change, is_shown, effects_of, world_of}
use Rattle.rt_model.specs.Commands.{post, write_cell, unqueued, end, provide_context, commands}
use Rattle.rt_model.specs.Next.{Work, RerunScope, PollTask, RunEffects, look, is_active, at_rest, next_at_rest}
use Rattle.rt_model.specs.Run.{child_at, fault_of, with_next, acted, run, called_once}
use Rattle.rt_model.specs.Boundary.{boundary_step}
use Rattle.rt_model.specs.Removal.{next_removed, removed}
use Rattle.rt_model.specs.Heard.{Listener, heard}

-- what a log is made of: the build, what is taken in, units, and what their agendas lead to
pub data Entry : Type 0 where
  Build : Entry
  Taken : (input : ℕ) → Entry
  Heard : (scope : ℕ) → Entry
  Rerun : (scope : ℕ) → Entry
  Poll : (task : ℕ) → Entry
  Effects : (scope : ℕ) → Entry
  Made : (scope : ℕ) → Entry
  Fed : (scope : ℕ) → Entry
  Kept : (scope : ℕ) → Entry
  Removed : (scope : ℕ) → Entry

-- what a message from a thread asks for
pub data Post : Type 0 where
  MarkScope : (scope : ℕ) → Post
  WakeTask : (task : ℕ) → Post
  AllDirty : Post

-- a message: its poster, its number among that poster's posts, and what it asks for
pub record Message : Type 0 where
  pub poster : ℕ
  -- from 0 on
  pub sequence : ℕ
  pub what : Post

-- what comes from outside: an event, a wake, a write, a mark, the posted messages
pub data Input (K : Types) : Type 0 where
  EventAt : (name : Text) (payload : K.Payload) (element : ℕ) (bubbles : Bool) → Input K
  WakeOf : (task : ℕ) → Input K
  WriteOf : (cell : ℕ) (value : K.Value) → Input K
  MarkOf : (scope : ℕ) → Input K
  Drain : (messages : List Message) → Input K

-- the state of a replay: the work that is open, first item first, stands beside the state
pub record Machine (K : Types) : Type 0 where
  -- the scopes, cells, tasks and what is owed
  pub state : State K
  pub work : List (Item K)
  -- the listeners that wait, and the event on its way
  pub listeners : List (Listener K)
  pub event : Option (Event K)
  -- whether that event bubbles
  pub bubbles : Bool
  -- the build has begun
  pub built : Bool
  -- the build or a unit is at work
  pub unit : Bool
  -- units since the build or the last input
  pub units : ℕ
  -- the inputs that are left, and the number of those taken in
  pub inputs : List (Input K)
  pub taken : ℕ
  -- no listener of the last input prevented the default
  pub default_enabled : Bool
  -- the fault after which no entry is accepted, and the item that was refused, none in the unit's own call
  pub dead : Option Fault
  pub refused : Option (Item K)

-- equal entries
abbrev pub same_entry : Entry → Entry → Bool
same_entry Build Build = true
same_entry (Taken a) (Taken b) = nat_eq a b
same_entry (Heard a) (Heard b) = nat_eq a b
same_entry (Rerun a) (Rerun b) = nat_eq a b
same_entry (Poll a) (Poll b) = nat_eq a b
same_entry (Effects a) (Effects b) = nat_eq a b
same_entry (Made a) (Made b) = nat_eq a b
same_entry (Fed a) (Fed b) = nat_eq a b
same_entry (Kept a) (Kept b) = nat_eq a b
same_entry (Removed a) (Removed b) = nat_eq a b
same_entry _ _ = false

-- how many steps of boundaries' runs can still come without an entry
abbrev pub step_weight : RowStep → ℕ
step_weight MadeChildren = 3
step_weight _ = 1

module _ {K : Types} where
  -- a change ends: its work comes before the rest, or the fault ends all
  abbrev pub ended_by : Machine K → Option (Item K) → List (Item K) → Outcome K → Machine K
  ended_by m refused rest (Done w work) = record m { state = w; work = work ++ rest }
  ended_by m refused rest (Cut w fault) = record m { state = w; work = rest; dead = Some fault; refused = refused }

  -- a number for a place
  abbrev pub numbered : State K → ℕ → SideName → Place → Kind → State K
  numbered w s side p k =
      change
      (with_next w (record (w.next) { elements = w.next.elements + 1 }))
      s
      (λ x. with_side x side (record (side_of x side) { numbers = (side_of x side).numbers ++ (p, k, w.next.elements) ∷ [] }))

  -- a number for a place, unless the counter is at its end
  abbrev pub draw_number : State K → ℕ → SideName → Place → Kind → Outcome K
  draw_number w s side p k = if at_end w.next.elements then Cut w (IdsExhausted Elements) else Done (numbered w s side p k) []

  -- after a draw the next ones follow, unless it ended all
  abbrev pub drawn_on : (Machine K → Machine K) → Machine K → Item K → List (Item K) → Outcome K → Machine K
  drawn_on go m item rest (Done w work) = go (ended_by m (Some item) rest (Done w work))
  drawn_on go m item rest (Cut w fault) = ended_by m (Some item) rest (Cut w fault)

  -- numbers are drawn until another item comes
  abbrev pub draws : List (Item K) → Machine K → Machine K
  draws [] m = record m { work = [] }
  draws (Draw s side p k ∷ rest) m = drawn_on (λ u. draws rest u) m (Draw s side p k) rest (draw_number m.state s side p k)
  draws (Row b step ∷ rest) m = record m { work = Row b step ∷ rest }
  draws (Feed s side p c ∷ rest) m = record m { work = Feed s side p c ∷ rest }
  draws (Make s side p c ∷ rest) m = record m { work = Make s side p c ∷ rest }
  draws (Drop t s side ∷ rest) m = record m { work = Drop t s side ∷ rest }

  -- how many such steps the open work can still lead to
  abbrev pub rows_left : List (Item K) → ℕ
  rows_left [] = 0
  rows_left (Row b step ∷ rest) = step_weight step + rows_left rest
  rows_left (Draw s side p k ∷ rest) = rows_left rest
  rows_left (Feed s side p c ∷ rest) = rows_left rest
  rows_left (Make s side p c ∷ rest) = rows_left rest
  rows_left (Drop t s side ∷ rest) = rows_left rest

  -- the scope or task that an entry names is live; a scope that is made isn't yet
  abbrev pub names_live : State K → Entry → Bool
  names_live w Build = true
  names_live w (Taken k) = true
  names_live w (Made s) = true
  names_live w (Heard s) = is_live w s
  names_live w (Rerun s) = is_live w s
  names_live w (Effects s) = is_live w s
  names_live w (Fed s) = is_live w s
  names_live w (Kept s) = is_live w s
  names_live w (Removed s) = is_live w s
  names_live w (Poll t) = is_some (at w.tasks t)

  -- an entry, where what it names is live
  abbrev pub if_live : State K → Option Entry → Option Entry
  if_live w None = None
  if_live w (Some e) = if names_live w e then Some e else None

  -- at the end of the build and of each unit every shown scope becomes mounted
  abbrev pub mounted : State K → List (ℕ × Scope K) → List (ℕ × Scope K)
  mounted w [] = []
  mounted w (e ∷ es) = (e.0, record (e.1) { mounted = (e.1).mounted || is_shown w e.0 }) ∷ mounted w es

  -- every shown scope is mounted
  abbrev pub mounted_state : State K → State K
  mounted_state w = record w { scopes = mounted w w.scopes }

  -- the build or a unit ends where no work is left
  abbrev pub closed_at : Machine K → List (Item K) → Bool → Machine K
  closed_at m [] true = record m { unit = false; state = mounted_state m.state }
  closed_at m [] false = m
  closed_at m (i ∷ rest) unit = m

  -- the build or a unit ends, unless a fault ended the run
  abbrev pub closed : Machine K → Machine K
  closed m = elim m.dead [ None ↦ closed_at m m.work m.unit | Some fault ↦ m ]

  -- the listeners whose origin is live wait
  abbrev pub waiting : Machine K → List (Listener K)
  waiting m = kept_by (λ l. is_live m.state l.origin) m.listeners

  -- all live scopes are posted
  abbrev pub post_all : List (ℕ × Scope K) → State K → State K
  post_all [] w = w
  post_all (e ∷ es) w = post_all es (post w (Mark e.0))

  -- what one message asks for
  abbrev pub post_message : State K → Post → State K
  post_message w (MarkScope s) = post w (Mark s)
  post_message w (WakeTask t) = post w (Woken t)
  post_message w AllDirty = post_all w.scopes w

  -- what messages ask for, in order
  abbrev pub post_messages : State K → List Message → State K
  post_messages w [] = w
  post_messages w (message ∷ rest) = post_messages (post_message w message.what) rest

  -- a look follows once no listener waits
  abbrev pub looked_where_quiet : Machine K → List (Listener K) → Machine K
  looked_where_quiet m [] = record m { state = look m.state }
  looked_where_quiet m (l ∷ ls) = m

  -- a look, unless a listener waits
  abbrev pub then_looked : Machine K → Machine K
  then_looked m = looked_where_quiet m (waiting m)

  -- what an input does
  abbrev pub taken_in : Machine K → Input K → Machine K
  taken_in m (EventAt name payload element bubbles) =
      record m {
        listeners = heard m.state name element bubbles;
        event = Some (record { payload = payload; propagates = bubbles; prevented = false });
        bubbles = bubbles;
      }
  taken_in m (WakeOf t) = record m { state = post m.state (Woken t) }
  taken_in m (WriteOf n v) = record m { state = write_cell m.state n v }
  taken_in m (MarkOf s) = record m { state = post m.state (Mark s) }
  taken_in m (Drain messages) = record m { state = post_messages m.state messages }

  -- the next input is taken in
  abbrev pub take_next : Machine K → List (Input K) → Machine K
  take_next m [] = m
  take_next m (input ∷ rest) =
      then_looked (taken_in (record m { inputs = rest; taken = m.taken + 1; units = 0; default_enabled = true; listeners = [] }) input)

  -- a unit begins
  abbrev pub one_more_unit : Machine K → Machine K
  one_more_unit m = record m { unit = true; units = m.units + 1 }

  -- a scope is made: its number, its record, its parent's slot
  abbrev pub with_child : SideName → Place → ℕ → Scope K → Scope K
  with_child side p t x = with_side x side (record (side_of x side) { children = (side_of x side).children ++ (p, t) ∷ [] })

  -- the new scope joins the others, and its parent knows it at its place
  abbrev pub with_new_scope : State K → ℕ → SideName → Place → VComponent K → Scope K → State K
  with_new_scope w s side p c x =
      record w {
        next_scope = w.next_scope + 1;
        scopes = put w.scopes s (with_child side p w.next_scope x) ++ (w.next_scope, new_scope c (Some s) (x.height + 1) side) ∷ [];
      }

  -- the start: scope 0 alone, not yet run; these numbers come first
  abbrev pub first_state : K.Component → K.Props → Firsts → State K
  first_state root props firsts =
      record {
        scopes = (0, new_scope (Root root props) None 0 MainSide) ∷ [];
        last_calls = [];
        cells = [];
        contexts = [];
        tasks = [];
        posted = [];
        seen = [];
        queued = [];
        resolved = [];
        skipped = [];
        next_scope = 1;
        next = firsts;
        calls = 0;
      }

  -- no listener waits
  abbrev pub no_listener : List (Listener K) → Bool
  no_listener [] = true
  no_listener (l ∷ ls) = false

  -- no item is open
  abbrev pub no_work : List (Item K) → Bool
  no_work [] = true
  no_work (i ∷ rest) = false

  -- nothing is at work, and no fault ended the run
  abbrev pub is_quiet : Machine K → Bool
  is_quiet m = not (is_some m.dead) && no_work m.work && no_listener (waiting m)

  -- a replay, where nothing is at work
  abbrev pub if_quiet : Option (Machine K) → Option (Machine K)
  if_quiet None = None
  if_quiet (Some m) = if is_quiet m then Some m else None

  -- the child scope that a feed goes to
  abbrev pub fed_child : State K → ℕ → SideName → Place → Option ℕ
  fed_child w s side p = elim (at w.scopes s) [ None ↦ None | Some x ↦ child_at (side_of x side).children p ]

-- each counter begins at 1
abbrev pub ones : Firsts
ones = record { tasks = 1; cells = 1; contexts = 1; elements = 1; errors = 1 }

module _ {K : Types} (app : Application K) where
  -- one step of a boundary's run at a time, at most n of them, and the numbers between them
  abbrev pub row_first : (Machine K → Machine K) → Machine K → List (Item K) → Machine K
  row_first go m [] = m
  row_first go m (Row b step ∷ rest) = go (ended_by m (Some (Row b step)) rest (boundary_step app m.state b step))
  row_first go m (Draw s side p k ∷ rest) = m
  row_first go m (Feed s side p c ∷ rest) = m
  row_first go m (Make s side p c ∷ rest) = m
  row_first go m (Drop t s side ∷ rest) = m

  -- one step of a boundary's run, unless a fault ended the run
  abbrev pub row_next : (Machine K → Machine K) → Machine K → Machine K
  row_next go m = elim m.dead [ None ↦ row_first go m m.work | Some fault ↦ m ]

  -- silent items are served until one comes that an entry has to name, at most n steps of boundaries among them
  abbrev pub served : ℕ → Machine K → Machine K
  served zero m = elim m.dead [ None ↦ draws m.work m | Some fault ↦ m ]
  served (suc n) m = elim m.dead [ None ↦ row_next (λ u. served n u) (draws m.work m) | Some fault ↦ m ]

  -- after an entry's change the silent items are served, and a unit whose work is done is closed
  abbrev pub settled : Machine K → Machine K
  settled m = closed (served (rows_left m.work) m)

  -- what is due

  -- a child that is handed a component keeps its output
  abbrev pub keeps : State K → ℕ → VComponent K → Bool
  keeps w t c = elim (at w.scopes t) [ None ↦ false | Some x ↦ keeps_output app x.component c ]

  -- a child is fed, or kept where the component means the same
  abbrev pub due_feed : State K → VComponent K → Option ℕ → Option Entry
  due_feed w c None = None
  due_feed w c (Some t) = Some (if keeps w t c then Kept t else Fed t)

  -- what is owed, else the next input
  abbrev pub due_work : Machine K → Option Work → List (Input K) → Option Entry
  due_work m (Some (RerunScope s)) inputs = Some (Rerun s)
  due_work m (Some (PollTask t)) inputs = Some (Poll t)
  due_work m (Some (RunEffects s)) inputs = Some (Effects s)
  due_work m None [] = None
  due_work m None (input ∷ rest) = Some (Taken (m.taken + 1))

  -- a listener that waits, else what is owed
  abbrev pub due_heard : Machine K → List (Listener K) → Option Entry
  due_heard m [] = due_work m (next_at_rest (at_rest m.state)) m.inputs
  due_heard m (l ∷ ls) = Some (Heard l.origin)

  -- the open work's first item, else a listener
  abbrev pub due_item : Machine K → List (Item K) → Option Entry
  due_item m [] = due_heard m (waiting m)
  due_item m (Draw s side p k ∷ rest) = None
  due_item m (Row b step ∷ rest) = None
  due_item m (Make s side p c ∷ rest) = if is_live m.state s then Some (Made m.state.next_scope) else None
  due_item m (Feed s side p c ∷ rest) = due_feed m.state c (fed_child m.state s side p)
  due_item m (Drop t s side ∷ rest) = Some (Removed (next_removed m.state t))

  -- the build first; after a fault nothing
  abbrev pub due_any : Machine K → Option Entry
  due_any m = elim m.dead [ None ↦ (if m.built then due_item m m.work else Some Build) | Some fault ↦ None ]

  -- the one entry that may come next: the agenda's first item, else the first waiting listener, else what is owed, else the next input
  abbrev pub due : Machine K → Option Entry
  due m = if_live m.state (due_any m)

  -- what an entry does

  -- a scope is made under its parent, and run
  abbrev pub made_in : State K → ℕ → SideName → Place → VComponent K → Scope K → Outcome K
  made_in w s side p c x =
      (if at_end w.next_scope then Cut w (IdsExhausted Scopes) else run app (with_new_scope w s side p c x) w.next_scope)

  -- a scope is made, where its parent is live
  abbrev pub made : State K → ℕ → SideName → Place → VComponent K → Outcome K
  made w s side p c = elim (at w.scopes s) [ None ↦ Done w [] | Some x ↦ made_in w s side p c x ]

  -- a scope is handed a component
  abbrev pub with_props : State K → ℕ → VComponent K → State K
  with_props w t c = change w t (λ x. record x { component = c })

  -- what a poll leaves: its commands, and another state or the end of the task
  abbrev pub left_by_poll : State K → ℕ → TaskRow K → Meaning K (TaskStep K) → TaskStep K → State K
  left_by_poll w t x m (pending a) = commands app (record w { tasks = put w.tasks t (record x { state = a }) }) x.scope (Some t) m.commands
  left_by_poll w t x m ready = end (commands app w x.scope (Some t) m.commands) t

  -- then a look
  abbrev pub polled_to : State K → ℕ → TaskRow K → Meaning K (TaskStep K) → TaskStep K → State K
  polled_to w t x m step = look (left_by_poll w t x m step)

  -- a poll's commands and answer, or its fault
  abbrev pub polled_by : State K → ℕ → TaskRow K → Meaning K (TaskStep K) → Outcome K
  polled_by w t x m =
      elim m.fault [
        | None ↦ Done (polled_to (with_next w m.next) t x m m.answer) []
        | Some f ↦ Cut (with_next w m.next) (fault_of f)
      ]

  -- the poll of a task that was found
  abbrev pub polled_at : State K → ℕ → Option (TaskRow K) → Outcome K
  polled_at w t None = Done w []
  polled_at w t (Some x) = polled_by (called_once w) t x (app.poll x.state (world_of w x.scope (Some t) false))

  -- a task is polled: its wakes are spent
  abbrev pub polled : State K → ℕ → Outcome K
  polled w t = polled_at (unqueued w t) t (at w.tasks t)

  -- the same without the look: a poll that no unit counts
  abbrev pub polled_apart_by : State K → ℕ → TaskRow K → Meaning K (TaskStep K) → Outcome K
  polled_apart_by w t x m =
      elim m.fault [
        | None ↦ Done (left_by_poll (with_next w m.next) t x m m.answer) []
        | Some f ↦ Cut (with_next w m.next) (fault_of f)
      ]

  -- what the state of a task that was found means at a poll
  abbrev pub poll_meant : State K → ℕ → TaskRow K → Meaning K (TaskStep K)
  poll_meant w t x = app.poll x.state (world_of w x.scope (Some t) false)

  -- the poll without the look of a task that was found
  abbrev pub polled_apart_at : State K → ℕ → Option (TaskRow K) → Outcome K
  polled_apart_at w t None = Done w []
  polled_apart_at w t (Some x) = polled_apart_by (called_once w) t x (poll_meant w t x)

  -- a task is polled without the look: its wakes are spent
  abbrev pub polled_apart : State K → ℕ → Outcome K
  polled_apart w t = polled_apart_at (unqueued w t) t (at w.tasks t)

  -- a program polls a task at once: nothing is done where it is paused or isn't live
  abbrev pub polled_now : State K → ℕ → Outcome K
  polled_now w t = if is_active w t then polled_apart w t else Done w []

  -- the task has ended with this step
  abbrev pub is_ready : TaskStep K → Bool
  is_ready ready = true
  is_ready (pending a) = false

  -- what that poll tells of a task: a paused one isn't ready, one that isn't live is
  abbrev pub ready_at : State K → ℕ → Option (TaskRow K) → Bool
  ready_at w t None = true
  ready_at w t (Some x) = x.active && is_ready (poll_meant w t x).answer

  -- what such a poll tells: the task is ready
  abbrev pub ready_now : State K → ℕ → Bool
  ready_now w t = ready_at (unqueued w t) t (at w.tasks t)

  -- the effects of a batch, each one's commands done before the next; then what follows the last one
  abbrev pub batch_then : (State K → State K) → State K → ℕ → List K.Effect → Outcome K
  batch_then last w s [] = Done (last w) []
  batch_then last w s (e ∷ es) = onward (acted app w s e false) (λ v. batch_then last v s es)

  -- a batch, and then a look
  abbrev pub batch : State K → ℕ → List K.Effect → Outcome K
  batch w s es = batch_then look w s es

  -- the effects of a scope are taken, all that stood, and done in order
  abbrev pub effects_run : State K → ℕ → Outcome K
  effects_run w s = batch (change w s (λ x. record x { effects = [] })) s (effects_of w s)

  -- the same without the look
  abbrev pub effects_apart : State K → ℕ → Outcome K
  effects_apart w s = batch_then (λ v. v) (change w s (λ x. record x { effects = [] })) s (effects_of w s)

  -- one listener: the event is as it leaves it; where a bubbling event was stopped no further listener waits
  abbrev pub further : Machine K → Event K → List (Listener K) → List (Listener K)
  further m event ls = if m.bubbles && not event.propagates then [] else ls

  -- what a listener's call leaves: its commands, the event, who hears it further
  abbrev pub heard_by : Machine K → Listener K → List (Listener K) → Meaning K (Event K) → Machine K
  heard_by m l ls meaning =
      elim meaning.fault [
        | None ↦
            then_looked
            (record m {
              state = commands app (with_next m.state meaning.next) l.origin None meaning.commands;
              event = Some meaning.answer;
              default_enabled = not meaning.answer.prevented;
              listeners = further m meaning.answer ls;
            })
        | Some f ↦ record m { state = with_next m.state meaning.next; listeners = ls; dead = Some (fault_of f); refused = None }
      ]

  -- a listener is called with the event on its way
  abbrev pub heard_event : Machine K → Listener K → List (Listener K) → Option (Event K) → Machine K
  heard_event m l ls None = m
  heard_event m l ls (Some event) =
      heard_by (record m { state = called_once m.state }) l ls (app.handle l.handler event (world_of m.state l.origin None false))

  -- the first listener that waits is called
  abbrev pub heard_first : Machine K → List (Listener K) → Machine K
  heard_first m [] = m
  heard_first m (l ∷ ls) = heard_event m l ls m.event

  -- the state as the test for what is next left it
  abbrev pub rested : Machine K → Machine K
  rested m = record m { state = at_rest m.state }

  -- a scope is run as a unit
  abbrev pub rerun : Machine K → ℕ → Machine K
  rerun m s = ended_by (one_more_unit m) None [] (run app m.state s)

  -- one scope of a removal goes; the item stays until its own child went
  abbrev pub dropped : Machine K → ℕ → ℕ → Item K → List (Item K) → Machine K
  dropped m t child this rest =
      (if nat_eq t child then ended_by m (Some this) rest (removed app m.state t)
      else ended_by m (Some this) (this ∷ rest) (removed app m.state t))

  -- a scope is handed a component: it keeps its output where the component means the same, else it runs
  abbrev pub handed : State K → ℕ → VComponent K → Outcome K
  handed w t c = if keeps w t c then Done (with_props w t c) [] else run app (with_props w t c) t

  -- the change that serves an item; a drop is served by as many removals as there are scopes below it, so it has none of its own
  abbrev pub outcome_of : State K → Item K → Outcome K
  outcome_of w (Draw s side p k) = draw_number w s side p k
  outcome_of w (Row b step) = boundary_step app w b step
  outcome_of w (Feed s side p c) = elim (fed_child w s side p) [ None ↦ Done w [] | Some t ↦ handed w t c ]
  outcome_of w (Make s side p c) = made w s side p c
  outcome_of w (Drop t s side) = Done w []

  -- the entry that names this change, none where it comes without one
  abbrev pub entry_of : State K → Item K → List Entry
  entry_of w (Draw s side p k) = []
  entry_of w (Row b step) = []
  entry_of w (Feed s side p c) = elim (fed_child w s side p) [ None ↦ [] | Some t ↦ (if keeps w t c then Kept t else Fed t) ∷ [] ]
  entry_of w (Make s side p c) = Made w.next_scope ∷ []
  entry_of w (Drop t s side) = []

  -- what an entry does, by the item that it serves
  abbrev pub change_by : Machine K → List (Item K) → Entry → Machine K
  change_by m (Make s side p c ∷ rest) (Made t) = ended_by m (Some (Make s side p c)) rest (outcome_of m.state (Make s side p c))
  change_by m (Feed s side p c ∷ rest) (Kept t) = ended_by m (Some (Feed s side p c)) rest (outcome_of m.state (Feed s side p c))
  change_by m (Feed s side p c ∷ rest) (Fed t) = ended_by m (Some (Feed s side p c)) rest (outcome_of m.state (Feed s side p c))
  change_by m (Drop child s side ∷ rest) (Removed t) = dropped m t child (Drop child s side) rest
  change_by m _ Build = ended_by (record m { built = true; unit = true }) None [] (run app m.state 0)
  change_by m _ (Taken k) = let r = rested m in take_next r r.inputs
  change_by m _ (Heard s) = heard_first m (waiting m)
  change_by m _ (Rerun s) = rerun (rested m) s
  change_by m _ (Poll t) = let r = rested m in ended_by (one_more_unit r) None [] (polled r.state t)
  change_by m _ (Effects s) = let r = rested m in ended_by (one_more_unit r) None [] (effects_run r.state s)
  change_by m _ _ = m

  -- the replay after an entry that is due
  abbrev pub step : Machine K → Entry → Machine K
  step m e = settled (change_by m m.work e)

  -- an entry is the one that is due
  abbrev pub is_due : Option Entry → Entry → Bool
  is_due None e = false
  is_due (Some d) e = same_entry d e

  -- an entry is accepted where it is the one that is due
  abbrev pub accepts : Machine K → Entry → Option (Machine K)
  accepts m e = if is_due (due m) e then Some (step m e) else None

  -- a log from a replay on, each entry accepted in turn
  abbrev pub replay_on : Option (Machine K) → List Entry → Option (Machine K)
  replay_on None log = None
  replay_on (Some m) [] = Some m
  replay_on (Some m) (e ∷ log) = replay_on (accepts m e) log

  -- a replay at its start, whose numbers begin at these
  abbrev pub start_from : K.Props → Firsts → List (Input K) → Machine K
  start_from props firsts inputs =
      record {
        state = first_state app.root props firsts;
        work = [];
        listeners = [];
        event = None;
        bubbles = false;
        built = false;
        unit = false;
        units = 0;
        inputs = inputs;
        taken = 0;
        default_enabled = true;
        dead = None;
        refused = None;
      }

  -- a replay at its start
  abbrev pub start : K.Props → List (Input K) → Machine K
  start props inputs = start_from props ones inputs

  -- values that scope 0 provides, by kind, one after another
  abbrev pub provided_all : State K → List (ℕ × K.Value) → State K
  provided_all w [] = w
  provided_all w (e ∷ es) = provided_all (provide_context app w 0 e.0 e.1) es

  -- a replay at its start, whose numbers begin at these, and whose root provides these values
  abbrev pub start_with : K.Props → Firsts → List (ℕ × K.Value) → List (Input K) → Machine K
  start_with props firsts provided inputs =
      let m = start_from props firsts inputs in record m { state = provided_all m.state provided }

  -- the state after a log: each entry accepted in turn, the agenda empty, no listener waiting
  abbrev pub replay : K.Props → List (Input K) → List Entry → Option (Machine K)
  replay props inputs log = if_quiet (replay_on (Some (start props inputs)) log)
