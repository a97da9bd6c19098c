-- One run of a body, and the agenda that its tree leads to.
use Rattle.std.specs.Prelude.{ℕ, ◌+◌, Bool, true, false, ◌&&◌, ◌||◌, nat_eq, List, [], ◌∷◌, ◌++◌, Option, Some, None, if◌then◌else◌, is_some, codes}
use Rattle.rt_model.specs.Lists.{Text, at, put, drop_number}
use Rattle.rt_model.specs.Tree.{Types, fixed, no_nodes, element_node, slot_node, template_with, CapturedError, Tree, block, no_slots, more_slots, text_slot, placeholder_slot, component_slot, fragment_slot, no_trees, more_trees, one_slot, placeholder_tree, VComponent, Own, Root, Fragment, ErrorBoundary, SuspenseBoundary, Element, rendered, failed, suspended, Place, same_place, Kind, same_kind, Spot, node_at, component_at, spots}
use Rattle.rt_model.specs.Fits.{fits}
use Rattle.rt_model.specs.World.{Source, Error, Renders, Firsts, at_end, before_render_kind, after_render_kind, CallFault, CounterAtEnd, OtherHook, Hook, HookValue, HookEffect, World, Meaning, Nothing, Application}
use Rattle.rt_model.specs.Values.{is_same_component}
use Rattle.rt_model.specs.State.{SideName, MainSide, ChildrenSide, FallbackSide, Mark, SuspendedTask, Fault, IdsExhausted, HookChanged, NoSuchTask, BadNode, RowStep, PatchChildren, MadeChildren, RunFallback, ShowFallback, ShowChildren, DropFallback, Resolve, Side, Scope, LastCall, TaskRow, State, Item, Draw, Row, Feed, Make, Drop, Outcome, Done, Cut, onward, side_of, with_side, change, location, is_held, holds, hooks_of, renders_of, world_of}
use Rattle.rt_model.specs.Commands.{drop_posted, post, commands, throw_error}

-- a call's fault as the fault that ends a run
abbrev pub fault_of : CallFault → Fault
fault_of (CounterAtEnd what) = IdsExhausted what
fault_of (OtherHook scope index kept asked) = HookChanged scope index kept asked

-- the child scope at a place
abbrev pub child_at : List (Place × ℕ) → Place → Option ℕ
child_at [] p = None
child_at (e ∷ es) p = if same_place e.0 p then Some e.1 else child_at es p

module _ {K : Types} where
  -- the tree that shows an error where a boundary names no handler
  abbrev pub error_tree : Text → Tree K
  error_tree text =
      block
      (template_with
      (element_node (codes "div") None (fixed (codes "color") (Some (codes "style")) (codes "red") ∷ []) (slot_node 0 no_nodes) no_nodes))
      []
      (more_slots
      (fragment_slot
      (more_trees
      (block (template_with (element_node (codes "pre") None [] (slot_node 0 no_nodes) no_nodes)) [] (more_slots (text_slot text) no_slots))
      no_trees))
      no_slots)

  -- the tree that a root wrapper answers: a suspense boundary round an error boundary round the application's root
  abbrev pub root_tree : K.Component → K.Props → Tree K
  root_tree component props =
      one_slot
      (component_slot
      (SuspenseBoundary
      (rendered (one_slot (component_slot (ErrorBoundary (rendered (one_slot (component_slot (Own component props)))) None))))
      None))

  -- the tree of an error boundary without an error: a fragment of its children
  abbrev pub children_tree : Element K → Tree K
  children_tree (rendered tree) = one_slot (fragment_slot (more_trees tree no_trees))
  children_tree (failed error) = one_slot placeholder_slot
  children_tree (suspended origin task) = one_slot placeholder_slot

  -- a meaning that calls nothing
  abbrev pub plain : World K → List Source → Element K → Meaning K (Element K)
  plain w reads answer = record { answer = answer; reads = reads; aside = []; commands = []; next = w.given.next; fault = None }

  -- the body read one more source
  abbrev pub also_read : Source → Meaning K (Element K) → Meaning K (Element K)
  also_read x m = record m { reads = x ∷ m.reads }

  -- the numbers that are drawn next, as a call left them
  abbrev pub with_next : State K → Firsts → State K
  with_next w next = record w { next = next }

  -- the application is called once more
  abbrev pub called_once : State K → State K
  called_once w = record w { calls = w.calls + 1 }

  -- the application is called where the test says so
  abbrev pub called_where : Bool → State K → State K
  called_where true w = called_once w
  called_where false w = w

  -- the body of a component is the application's own: a component, a handler, a fallback
  abbrev pub is_own : VComponent K → World K → Bool
  is_own (Own component props) w = true
  is_own (Root component props) w = false
  is_own (Fragment children) w = false
  is_own (ErrorBoundary children None) w = false
  is_own (ErrorBoundary children (Some h)) w = is_some (w.values.error w.given.scope)
  is_own (SuspenseBoundary children None) w = false
  is_own (SuspenseBoundary children (Some f)) w = true

  -- the answered tree meets the node test
  abbrev pub answer_fits : Element K → Bool
  answer_fits (rendered tree) = fits tree
  answer_fits (failed error) = true
  answer_fits (suspended origin task) = true

  -- the kept output of a scope
  abbrev pub output_of : State K → ℕ → Option (Tree K)
  output_of w s = elim (at w.scopes s) [ None ↦ None | Some x ↦ x.main_side.output ]

  -- a scope's last call is another one
  abbrev pub with_last_call : State K → ℕ → LastCall K → State K
  with_last_call w s call = record w { last_calls = put w.last_calls s call }

  -- the body's call is kept: its reads with the scope, and its world, what it read aside and its answer among the last calls
  abbrev pub kept_call : State K → ℕ → World K → Meaning K (Element K) → State K
  kept_call w s world m =
      with_last_call
      (change (with_next w m.next) s (λ x. record x { reads = m.reads }))
      s
      (record { given = world; aside = m.aside; answer = m.answer; before = output_of w s })

  -- an effect is kept under this kind
  abbrev pub is_kind : ℕ → Hook K → Bool
  is_kind kind (HookValue k v) = false
  is_kind kind (HookEffect k e) = nat_eq k kind

  -- a document node of this kind stands at this place
  abbrev pub has_node : List (Spot K) → Place → Kind → Bool
  has_node [] p k = false
  has_node (node_at q l ∷ ss) p k = (same_kind l k && same_place q p) || has_node ss p k
  has_node (component_at q c ∷ ss) p k = has_node ss p k

  -- the component at a place
  abbrev pub component_in : List (Spot K) → Place → Option (VComponent K)
  component_in [] p = None
  component_in (node_at q l ∷ ss) p = component_in ss p
  component_in (component_at q c ∷ ss) p = if same_place q p then Some c else component_in ss p

  -- the spots of an output, if there is one
  abbrev pub spots_of : Option (Tree K) → List (Spot K)
  spots_of None = []
  spots_of (Some tree) = spots [] tree

  -- the numbers of places that the new tree has too
  abbrev pub kept_numbers : List (Spot K) → List (Place × Kind × ℕ) → List (Place × Kind × ℕ)
  kept_numbers new [] = []
  kept_numbers new (e ∷ es) = if has_node new e.0 e.1 then e ∷ kept_numbers new es else kept_numbers new es

  -- a render count rises by one
  abbrev pub raised : State K → ℕ → Outcome K
  raised w s =
      if at_end (renders_of w s) then Cut w (IdsExhausted Renders) else Done (change w s (λ x. record x { renders = x.renders + 1 })) []

  -- the task holds the boundary whose children the scope stands among, once
  abbrev pub joins : State K → ℕ → ℕ → Option (ℕ × SideName) → State K
  joins w origin t None = w
  joins w origin t (Some (b, MainSide)) = w
  joins w origin t (Some (b, FallbackSide)) = w
  joins w origin t (Some (b, ChildrenSide)) =
      elim (at w.scopes b) [
        | None ↦ w
        | Some x ↦ if holds x t then w else post (change w b (λ y. record y { holders = y.holders ++ (t, origin) ∷ [] })) (Mark b)
      ]

  -- a scope suspends on a task, which has to be live
  abbrev pub suspends_on : State K → ℕ → ℕ → ℕ → Option (TaskRow K) → Outcome K
  suspends_on w s origin t None = Cut w (NoSuchTask s t)
  suspends_on w s origin t (Some x) =
      Done (joins (record w { tasks = put w.tasks t (record x { kind = SuspendedTask }) }) origin t (location w s)) []

  -- the marks of the scope go, and it isn't skipped any more
  abbrev pub unmarked : State K → ℕ → State K
  unmarked w s =
      record w { posted = drop_posted w.posted (Mark s); seen = drop_number w.seen s; skipped = drop_number w.skipped s }

  -- a scope has rendered something
  abbrev pub has_output : State K → ℕ → Bool
  has_output w s = elim (at w.scopes s) [ None ↦ true | Some x ↦ is_some x.main_side.output ]

-- the steps of a suspense boundary's run, by the side that shows and by whether it is held at its start
abbrev pub row_of : Option SideName → Bool → List RowStep
row_of None held = PatchChildren ∷ MadeChildren ∷ []
row_of (Some FallbackSide) true = RunFallback ∷ PatchChildren ∷ []
row_of (Some FallbackSide) false = PatchChildren ∷ ShowChildren ∷ DropFallback ∷ Resolve ∷ []
row_of (Some ChildrenSide) true = RunFallback ∷ ShowFallback ∷ PatchChildren ∷ []
row_of (Some ChildrenSide) false = PatchChildren ∷ []
row_of (Some MainSide) held = []

-- whether a run calls the fallback; a boundary that is made knows it only later
abbrev pub runs_fallback : List RowStep → Bool
runs_fallback [] = false
runs_fallback (RunFallback ∷ steps) = true
runs_fallback (step ∷ steps) = runs_fallback steps

module _ {K : Types} where
  -- the drop of a child, where there is one
  abbrev pub drop_at : ℕ → SideName → Option ℕ → List (Item K)
  drop_at s side None = []
  drop_at s side (Some t) = Drop t s side ∷ []

  -- the steps of a boundary's run as open work
  abbrev pub row_items : ℕ → List RowStep → List (Item K)
  row_items b [] = []
  row_items b (step ∷ steps) = Row b step ∷ row_items b steps

module _ {K : Types} (app : Application K) where
  -- an error boundary's answer, by the error that it caught
  abbrev pub caught : Element K → Option (K.Component × K.Props) → World K → Option CapturedError → Meaning K (Element K)
  caught children handler w None = plain w (Error w.given.scope ∷ []) (rendered (children_tree children))
  caught children None w (Some e) = plain w (Error w.given.scope ∷ []) (rendered (error_tree e.text))
  caught children (Some h) w (Some e) = also_read (Error w.given.scope) (app.body h.0 h.1 w)

  -- the body of each component; a suspense boundary's is that of its fallback
  abbrev pub body_of : VComponent K → World K → Meaning K (Element K)
  body_of (Own component props) w = app.body component props w
  body_of (Root component props) w = plain w [] (rendered (root_tree component props))
  body_of (Fragment children) w = plain w [] children
  body_of (ErrorBoundary children handler) w = caught children handler w (w.values.error w.given.scope)
  body_of (SuspenseBoundary children None) w = plain w [] (rendered placeholder_tree)
  body_of (SuspenseBoundary children (Some f)) w = app.body f.0 f.1 w

  -- an effect, hook or callback, with its commands
  abbrev pub acted_by : State K → ℕ → Meaning K Nothing → Outcome K
  acted_by w s m =
      elim m.fault [ None ↦ Done (commands app (with_next w m.next) s None m.commands) [] | Some f ↦ Cut (with_next w m.next) (fault_of f) ]

  -- an effect is done in a scope
  abbrev pub acted : State K → ℕ → K.Effect → Bool → Outcome K
  acted w s e rendering = acted_by (called_once w) s (app.effect e (world_of w s None rendering))

  -- the hooks of one kind, each one's commands done before the next
  abbrev pub hook_called : State K → ℕ → Hook K → Outcome K
  hook_called w s (HookValue k v) = Done w []
  hook_called w s (HookEffect k e) = acted w s e true

  -- the hooks of one kind among these
  abbrev pub hooks_called : ℕ → State K → ℕ → List (Hook K) → Outcome K
  hooks_called kind w s [] = Done w []
  hooks_called kind w s (h ∷ hs) =
      (if is_kind kind h then onward (hook_called w s h) (λ v. hooks_called kind v s hs) else hooks_called kind w s hs)

  -- the hooks that come after a render
  abbrev pub after_hooks : State K → ℕ → Outcome K
  after_hooks w s = hooks_called after_render_kind w s (hooks_of w s)

  -- the body is called in the present world, its tree is tested, its commands are done; then what follows its answer
  abbrev pub answered_with : State K → ℕ → World K → (State K → Element K → Outcome K) → Meaning K (Element K) → Outcome K
  answered_with w s world then_on m =
      elim m.fault [
        | Some f ↦ Cut (with_next w m.next) (fault_of f)
        | None ↦
            if answer_fits m.answer
            then then_on (commands app (kept_call w s world m) s None m.commands) m.answer
            else Cut (kept_call w s world m) (BadNode s)
      ]

  -- a component's body is called in a world
  abbrev pub call_in : State K → ℕ → VComponent K → (State K → Element K → Outcome K) → World K → Outcome K
  call_in w s c then_on world = answered_with (called_where (is_own c world) w) s world then_on (body_of c world)

  -- a component's body is called in the present world
  abbrev pub call_body : State K → ℕ → VComponent K → (State K → Element K → Outcome K) → Outcome K
  call_body w s c then_on = call_in w s c then_on (world_of w s None true)

  -- a place keeps its child where it held the same component before
  abbrev pub is_fed : Option (VComponent K) → Option (VComponent K) → Bool
  is_fed (Some c) (Some d) = is_same_component app c d
  is_fed _ _ = false

  -- the child scopes that the new tree feeds
  abbrev pub kept_children : List (Spot K) → List (Spot K) → List (Place × ℕ) → List (Place × ℕ)
  kept_children old new [] = []
  kept_children old new (e ∷ es) =
      (if is_fed (component_in old e.0) (component_in new e.0) then e ∷ kept_children old new es else kept_children old new es)

  -- in the new tree's order: a number for each new place, a feed for each kept child, a make for each other component
  abbrev pub serves : ℕ → SideName → List (Spot K) → List (Spot K) → List (Item K)
  serves s side old [] = []
  serves s side old (node_at p k ∷ new) = if has_node old p k then serves s side old new else Draw s side p k ∷ serves s side old new
  serves s side old (component_at p c ∷ new) =
      (if is_fed (component_in old p) (Some c) then Feed s side p c ∷ serves s side old new else Make s side p c ∷ serves s side old new)

  -- in the old tree's order: a drop for each child that the new tree doesn't feed
  abbrev pub drops_of : ℕ → SideName → List (Spot K) → List (Place × ℕ) → List (Spot K) → List (Item K)
  drops_of s side new children [] = []
  drops_of s side new children (node_at p k ∷ old) = drops_of s side new children old
  drops_of s side new children (component_at p c ∷ old) =
      (if is_fed (Some c) (component_in new p)
      then drops_of s side new children old
      else drop_at s side (child_at children p) ++ drops_of s side new children old)

  -- a side has its new output, and keeps the numbers and children that match
  abbrev pub patched : State K → ℕ → SideName → Tree K → List (Spot K) → List (Spot K) → Side K → Scope K → Outcome K
  patched w s side tree old new was x =
      Done
      (record w {
        scopes =
            put
            w.scopes
            s
            (with_side
            x
            side
            (record {
              output = Some tree;
              numbers = kept_numbers new was.numbers;
              children = kept_children old new was.children;
            }));
      })
      (serves s side old new ++ drops_of s side new was.children old)

  -- the tree becomes the kept output of a side; its agenda: numbers, feeds and makes, then drops
  abbrev pub start_agenda : State K → ℕ → SideName → Tree K → Outcome K
  start_agenda w s side tree =
      elim (at w.scopes s) [
        | None ↦ Done w []
        | Some x ↦ patched w s side tree (spots_of (side_of x side).output) (spots [] tree) (side_of x side) x
      ]

  -- a tree raises the render count, an error is thrown, a suspension is held
  abbrev pub settled_answer : State K → ℕ → Element K → Outcome K
  settled_answer w s (rendered tree) = raised w s
  settled_answer w s (failed e) = Done (throw_error w s e) []
  settled_answer w s (suspended origin t) = suspends_on w s origin t (at w.tasks t)

  -- a tree is the new output; else the output stays, or is one placeholder where there was none
  abbrev pub new_output : State K → ℕ → Element K → Outcome K
  new_output w s (rendered tree) = start_agenda w s MainSide tree
  new_output w s (failed e) = if has_output w s then Done w [] else start_agenda w s MainSide placeholder_tree
  new_output w s (suspended origin t) = if has_output w s then Done w [] else start_agenda w s MainSide placeholder_tree

  -- what follows a body's answer: the answer settles, hooks are called, the output changes
  abbrev pub after_answer : State K → ℕ → Element K → Outcome K
  after_answer w s answer = onward (onward (settled_answer w s answer) (λ v. after_hooks v s)) (λ v. new_output v s answer)

  -- the run of a suspense boundary: its steps; where no fallback runs the after-render hooks come at the start
  abbrev pub boundary_run : State K → ℕ → List RowStep → Outcome K
  boundary_run w b steps =
      (if runs_fallback steps then Done w (row_items b steps) else onward (after_hooks w b) (λ v. Done v (row_items b steps)))

  -- a run, by the kind of the component
  abbrev pub run_as : State K → ℕ → Scope K → VComponent K → Outcome K
  run_as w s x (SuspenseBoundary children fallback) = boundary_run w s (row_of x.shows (is_held x))
  run_as w s x (Own component props) = call_body w s (Own component props) (λ v answer. after_answer v s answer)
  run_as w s x (Root component props) = call_body w s (Root component props) (λ v answer. after_answer v s answer)
  run_as w s x (Fragment children) = call_body w s (Fragment children) (λ v answer. after_answer v s answer)
  run_as w s x (ErrorBoundary children handler) = call_body w s (ErrorBoundary children handler) (λ v answer. after_answer v s answer)

  -- one run of a scope up to its agenda; x is its record at the start
  abbrev pub run : State K → ℕ → Outcome K
  run w s =
      elim (at w.scopes s) [
        | None ↦ Done w []
        | Some x ↦ onward (hooks_called before_render_kind (unmarked w s) s x.hooks) (λ v. run_as v s x x.component)
      ]
