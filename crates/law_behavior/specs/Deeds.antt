-- The calls of an application whose commands a move does, each with the state that its commands find; an error that a body answers
-- with is thrown as a command does.
use Rattle.std.specs.Prelude.{ℕ, Bool, true, false, List, [], ◌∷◌, ◌++◌, Option, Some, None, if◌then◌else◌}
use Rattle.rt_model.specs.Lists.{at, put}
use Rattle.rt_model.specs.Tree.{Types, VComponent, Own, Root, Fragment, ErrorBoundary, SuspenseBoundary, Element, rendered, failed, suspended}
use Rattle.rt_model.specs.World.{at_end, before_render_kind, after_render_kind, Event, Hook, HookValue, HookEffect, Command, Throw, World, Meaning, TaskStep, pending, ready, Application}
use Rattle.rt_model.specs.State.{RowStep, PatchChildren, MadeChildren, RunFallback, ShowFallback, ShowChildren, DropFallback, Resolve, Scope, TaskRow, State, Item, Draw, Row, Feed, Make, Drop, Outcome, Done, Cut, is_live, change, is_held, hooks_of, effects_of, world_of}
use Rattle.rt_model.specs.Commands.{unqueued, commands}
use Rattle.rt_model.specs.Next.{at_rest}
use Rattle.rt_model.specs.Run.{with_next, called_once, called_where, is_own, answer_fits, kept_call, is_kind, unmarked, row_of, runs_fallback, body_of, acted, hook_called, hooks_called, settled_answer}
use Rattle.rt_model.specs.Boundary.{counts_render, counted_render}
use Rattle.rt_model.specs.Removal.{clean_ups, gone, stopped}
use Rattle.rt_model.specs.Heard.{Listener}
use Rattle.rt_model.specs.Replay.{Entry, Build, Taken, Heard, Rerun, Poll, Effects, Made, Fed, Kept, Removed, Machine, waiting, fed_child, keeps, with_new_scope, with_props, poll_meant}
use Rattle.law_moves.specs.Moves.{Move, Silent, Closed, Logged}

module _ (K : Types) where
  -- the commands of a call, with the scope in which it was made, the task that was polled, and the state that they find
  pub record Deed : Type 0 where
    pub state : State K
    pub scope : ℕ
    pub polled : Option ℕ
    pub wants : List (Command K)

module _ {K : Types} where
  -- what is done after a change that isn't cut
  abbrev pub deeds_on : Outcome K → (State K → List (Deed K)) → List (Deed K)
  deeds_on (Done w work) then_on = then_on w
  deeds_on (Cut w fault) then_on = []

  -- one call that no fault ended
  abbrev pub deed_of : {A : Type 0} → State K → ℕ → Option ℕ → Meaning K A → List (Deed K)
  deed_of w s polled m =
      elim m.fault [ None ↦ record { state = w; scope = s; polled = polled; wants = m.commands } ∷ [] | Some f ↦ [] ]

  -- the state that the commands of a poll find: the task goes on with another state, or it is about to end
  abbrev pub poll_finds : State K → ℕ → TaskRow K → TaskStep K → State K
  poll_finds w t x (pending a) = record w { tasks = put w.tasks t (record x { state = a }) }
  poll_finds w t x ready = w

module _ {K : Types} (app : Application K) where
  -- an effect
  abbrev pub effect_deeds : State K → ℕ → K.Effect → Bool → List (Deed K)
  effect_deeds w s e rendering =
      let m = app.effect e (world_of w s None rendering) in deed_of (with_next (called_once w) m.next) s None m

  -- a hook
  abbrev pub hook_deeds : State K → ℕ → Hook K → List (Deed K)
  hook_deeds w s (HookValue k v) = []
  hook_deeds w s (HookEffect k e) = effect_deeds w s e true

  -- the hooks of one kind
  abbrev pub hooks_deeds : ℕ → State K → ℕ → List (Hook K) → List (Deed K)
  hooks_deeds kind w s [] = []
  hooks_deeds kind w s (h ∷ hs) =
      (if is_kind kind h
      then hook_deeds w s h ++ deeds_on (hook_called app w s h) (λ v. hooks_deeds kind v s hs)
      else hooks_deeds kind w s hs)

  -- the hooks that come after a render
  abbrev pub after_deeds : State K → ℕ → List (Deed K)
  after_deeds w s = hooks_deeds after_render_kind w s (hooks_of w s)

  -- a body that met no fault and whose tree fits, and what follows its answer
  abbrev pub answered_deeds : State K → ℕ → World K → (State K → Element K → List (Deed K)) → Meaning K (Element K) → List (Deed K)
  answered_deeds w s world then_on m =
      elim m.fault [
        | Some f ↦ []
        | None ↦
            if answer_fits m.answer
            then
            record { state = kept_call w s world m; scope = s; polled = None; wants = m.commands }
            ∷
            then_on (commands app (kept_call w s world m) s None m.commands) m.answer
            else []
      ]

  -- the body of a component, and what follows its answer
  abbrev pub body_deeds : State K → ℕ → VComponent K → (State K → Element K → List (Deed K)) → List (Deed K)
  body_deeds w s c then_on =
      let world = world_of w s None true in answered_deeds (called_where (is_own c world) w) s world then_on (body_of app c world)

  -- a body that failed throws its error as a command does
  abbrev pub failed_deeds : State K → ℕ → Element K → List (Deed K)
  failed_deeds w s (rendered tree) = []
  failed_deeds w s (failed e) = record { state = w; scope = s; polled = None; wants = Throw e ∷ [] } ∷ []
  failed_deeds w s (suspended origin t) = []

  -- what follows a body's answer
  abbrev pub answer_deeds : State K → ℕ → Element K → List (Deed K)
  answer_deeds w s answer = failed_deeds w s answer ++ deeds_on (settled_answer app w s answer) (λ v. after_deeds v s)

  -- a run, by the kind of the component
  abbrev pub run_as_deeds : State K → ℕ → Scope K → VComponent K → List (Deed K)
  run_as_deeds w s x (SuspenseBoundary children fallback) =
      if runs_fallback (row_of x.shows (is_held x)) then [] else after_deeds w s
  run_as_deeds w s x (Own component props) = body_deeds w s (Own component props) (λ v answer. answer_deeds v s answer)
  run_as_deeds w s x (Root component props) = body_deeds w s (Root component props) (λ v answer. answer_deeds v s answer)
  run_as_deeds w s x (Fragment children) = body_deeds w s (Fragment children) (λ v answer. answer_deeds v s answer)
  run_as_deeds w s x (ErrorBoundary children handler) =
      body_deeds w s (ErrorBoundary children handler) (λ v answer. answer_deeds v s answer)

  -- a run of a scope
  abbrev pub run_deeds : State K → ℕ → List (Deed K)
  run_deeds w s =
      elim (at w.scopes s) [
        | None ↦ []
        | Some x ↦
            hooks_deeds before_render_kind (unmarked w s) s x.hooks
            ++
            deeds_on (hooks_called app before_render_kind (unmarked w s) s x.hooks) (λ v. run_as_deeds v s x x.component)
      ]

  -- the callbacks of a boundary
  abbrev pub callback_deeds : State K → List (ℕ × K.Effect) → List (Deed K)
  callback_deeds w [] = []
  callback_deeds w (e ∷ es) =
      (if is_live w e.0
      then effect_deeds w e.0 e.1 false ++ deeds_on (acted app w e.0 e.1 false) (λ v. callback_deeds v es)
      else callback_deeds w es)

  -- a step of a boundary's run
  abbrev pub row_deeds : State K → ℕ → Scope K → RowStep → List (Deed K)
  row_deeds w b x RunFallback =
      body_deeds w b x.component (λ v answer. deeds_on (counted_render app v b (counts_render x.component answer)) (λ u. after_deeds u b))
  row_deeds w b x Resolve =
      callback_deeds (change (record w { resolved = w.resolved ++ b ∷ [] }) b (λ y. record y { callbacks = [] })) x.callbacks
  row_deeds w b x PatchChildren = []
  row_deeds w b x MadeChildren = []
  row_deeds w b x ShowFallback = []
  row_deeds w b x ShowChildren = []
  row_deeds w b x DropFallback = []

  -- the clean-ups of a scope that goes: their commands are done together, once it is gone
  abbrev pub clean_deeds : ℕ → List K.Effect → State K → List (Command K) → List (Deed K)
  clean_deeds s [] w waiting = record { state = gone w s; scope = s; polled = None; wants = waiting } ∷ []
  clean_deeds s (e ∷ es) w waiting =
      let m = app.effect e (world_of w s None true) in
      elim m.fault [ None ↦ clean_deeds s es (with_next (called_once w) m.next) (waiting ++ m.commands) | Some f ↦ [] ]

  -- a removal
  abbrev pub removed_deeds : State K → ℕ → List (Deed K)
  removed_deeds w s = let v = stopped w s in clean_deeds s (clean_ups (hooks_of v s) []) v []

  -- the effects of a batch
  abbrev pub batch_deeds : State K → ℕ → List K.Effect → List (Deed K)
  batch_deeds w s [] = []
  batch_deeds w s (e ∷ es) = effect_deeds w s e false ++ deeds_on (acted app w s e false) (λ v. batch_deeds v s es)

  -- the poll of a task that was found
  abbrev pub poll_deeds : State K → ℕ → Option (TaskRow K) → List (Deed K)
  poll_deeds w t None = []
  poll_deeds w t (Some x) =
      let m = poll_meant app w t x in
      deed_of (poll_finds (with_next (called_once w) m.next) t x m.answer) x.scope (Some t) m

  -- a listener that the event on its way comes to
  abbrev pub heard_deeds : State K → Listener K → Option (Event K) → List (Deed K)
  heard_deeds w l None = []
  heard_deeds w l (Some event) =
      let m = app.handle l.handler event (world_of w l.origin None false) in deed_of (with_next (called_once w) m.next) l.origin None m

  -- the first listener that waits
  abbrev pub first_deeds : Machine K → List (Listener K) → List (Deed K)
  first_deeds m [] = []
  first_deeds m (l ∷ ls) = heard_deeds m.state l m.event

  -- an item that isn't a drop
  abbrev pub item_deeds : State K → Item K → List (Deed K)
  item_deeds w (Draw s side p k) = []
  item_deeds w (Row b step) = elim (at w.scopes b) [ None ↦ [] | Some x ↦ row_deeds w b x step ]
  item_deeds w (Feed s side p c) =
      elim (fed_child w s side p) [ None ↦ [] | Some t ↦ if keeps app w t c then [] else run_deeds (with_props app w t c) t ]
  item_deeds w (Make s side p c) =
      elim (at w.scopes s) [
        | None ↦ []
        | Some x ↦ if at_end w.next_scope then [] else run_deeds (with_new_scope w s side p c x) w.next_scope
      ]
  item_deeds w (Drop t s side) = []

  -- the first item of the open work
  abbrev pub work_deeds : State K → List (Item K) → List (Deed K)
  work_deeds w [] = []
  work_deeds w (item ∷ rest) = item_deeds w item

  -- an entry
  abbrev pub entry_deeds : Machine K → Entry → List (Deed K)
  entry_deeds m Build = run_deeds m.state 0
  entry_deeds m (Taken k) = []
  entry_deeds m (Heard s) = first_deeds m (waiting m)
  entry_deeds m (Rerun s) = run_deeds (at_rest m.state) s
  entry_deeds m (Poll t) = let w = at_rest m.state in poll_deeds (unqueued w t) t (at w.tasks t)
  entry_deeds m (Effects s) =
      let w = at_rest m.state in batch_deeds (change w s (λ x. record x { effects = [] })) s (effects_of w s)
  entry_deeds m (Made s) = work_deeds m.state m.work
  entry_deeds m (Fed s) = work_deeds m.state m.work
  entry_deeds m (Kept s) = work_deeds m.state m.work
  entry_deeds m (Removed s) = removed_deeds m.state s

  -- all of one move, in order
  abbrev pub move_deeds : Machine K → Move → List (Deed K)
  move_deeds m Silent = work_deeds m.state m.work
  move_deeds m Closed = []
  move_deeds m (Logged e) = entry_deeds m e
