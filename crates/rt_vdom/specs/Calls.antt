-- What a dom's calls leave, and how they are refused.
use Rattle.std.specs.Prelude.{◌≡◌, ◌⊎◌, ℕ, ◌+◌, Bool, true, false, Option, Some, None, List}
use Rattle.std.specs.Prelude.{[], ◌∷◌, ◌++◌, Result, Ok, Err, OnOk, OnErr, IfErr, IsTrue, if◌then◌else◌}
use Rattle.run_records.specs.declared.faults.Counter.{Counter}
use Rattle.run_records.specs.declared.faults.Counter.TheVariants as counters
use Rattle.rt_model.specs.Document as document
use Rattle.rt_model.specs.Asides.{left_of}
use Rattle.rt_model.specs.Lists.{Text, at}
use Rattle.rt_model.specs.OneLog.{types}
use Rattle.rt_model.specs.Tree.{Types}
use Rattle.rt_model.specs.View.{view}
use Rattle.rt_model.specs.World.{Application, Firsts, at_end}
use Rattle.rt_model.specs.Replay as replay
use Rattle.rt_model.specs.State as model
use Rattle.rt_model.specs.State.{is_live}
use Rattle.rt_model.specs.Removal.{close}
use Rattle.rt_model.specs.Run.{with_next}
use Rattle.rt_model.specs.Commands.{post_target, provide_context, spawned, throw_error}
use Rattle.run_reports.specs.declared.fault.Fault.{Fault}
use Rattle.run_reports.specs.declared.fault.Fault.TheVariants as faults
use Rattle.run_reports.specs.declared.limits.Limits.{Limits}
use Rattle.run_reports.specs.Seen.{fault_of}
use Rattle.run_outside.specs.Ends.{Causes}
use Rattle.run_outside.specs.Short.{PartOf}
use Rattle.rt_scopes.specs.Counts.{Counts}
use Rattle.run_reports.specs.declared.poll.Poll.{Poll}
use Rattle.run_reports.specs.Polls.{told_by}
use Rattle.run_state.specs.Mirror.{Unkept}
use Rattle.rt_vdom.specs.Doms.{IsStarted, NextIn, Stands, StateIn}
use Rattle.run_answers.specs.declared.stage.Stage.{Stage}
use Rattle.run_answers.specs.declared.stage.Stage.TheVariants as stages
use Rattle.rt_vdom.specs.declared.dom.VirtualDom.{VirtualDom}
use Rattle.run_answers.specs.declared.refusal.DomFault.{DomFault}
use Rattle.run_answers.specs.declared.refusal.DomFault.TheVariants as refusals

-- memory was wanting
abbrev pub WantsMemory : DomFault → Type 0
WantsMemory fault = fault ≡ refusals.Run faults.OutOfMemory

-- nothing else can be: memory wasn't wanting
abbrev pub WantsNothing : DomFault → Type 0
WantsNothing fault = ⊥

-- memory was wanting, or a number of this counter, which stands at its end
abbrev pub WantsNumber : Counter → ℕ → DomFault → Type 0
WantsNumber what next fault =
    (fault ≡ refusals.Run faults.OutOfMemory) ⊎ ((fault ≡ refusals.Run (faults.IdsExhausted what)) × IsTrue (at_end next))

-- what was done came to a fault
abbrev pub Ran : DomFault → Type 0
Ran (refusals.Run fault) = Unit {0}
Ran other = ⊥

-- what was done takes no unit and came to a fault: neither that of spent units nor that of a height
abbrev pub RanNoUnit : DomFault → Type 0
RanNoUnit (refusals.Run (faults.OutOfTurns units)) = ⊥
RanNoUnit (refusals.Run (faults.TooDeep height)) = ⊥
RanNoUnit (refusals.Run fault) = Unit {0}
RanNoUnit other = ⊥

-- what a run answers, as a call of a dom answers it
abbrev pub as_run : {A : Type 0} → Result A Fault → Result A DomFault
as_run (Ok answer) = Ok answer
as_run (Err fault) = Err (refusals.Run fault)

-- the fault of the definitions that it is, if it is one
abbrev pub ran_fault : DomFault → Option model.Fault
ran_fault (refusals.Run fault) = fault_of fault
ran_fault other = None

-- units were spent
abbrev pub spent_in : Option model.Fault → Bool
spent_in (Some (model.OutOfTurns units)) = true
spent_in other = false

-- a fault of a run by its cause: a failure of the sink is counted, spent units are those of the limit, a height is above the limit
abbrev pub CausesAt : Limits → ℕ → ℕ → DomFault → Type 0
CausesAt limits before after (refusals.Run fault) = Causes limits before after fault
CausesAt limits before after other = Unit {0}

-- what a sink took of edits that weren't all taken, by the fault of a run
abbrev pub PartIn : DomFault → List document.Edit → List document.Edit → Type 0
PartIn (refusals.Run fault) taken edits = PartOf fault taken edits
PartIn other taken edits = Unit {0}

module _ {P C Q V H T E L : Type 0} where
  -- by the stage of a dom: a call that wants another one is refused, and nothing changes; at the right one these refusals may come
  abbrev pub Refuses :
      {A : Type 0} → Stage → DomFault → (DomFault → Type 0) → VirtualDom P C Q V H T E L → VirtualDom P C Q V H T E L
      → Result A DomFault → Stage → Type 0
  Refuses wants other may old new result stages.Failed = (result ≡ Err refusals.Failed) × (new ≡ old)
  Refuses stages.Built other may old new result stages.Fresh = (result ≡ Err other) × (new ≡ old)
  Refuses stages.Fresh other may old new result stages.Built = (result ≡ Err other) × (new ≡ old)
  Refuses wants other may old new result stage = IfErr result may

  -- a call that wants a built dom: it is refused before the build, and after a fault
  abbrev pub WantsBuilt :
      {A : Type 0} → (DomFault → Type 0) → VirtualDom P C Q V H T E L → VirtualDom P C Q V H T E L → Result A DomFault → Type 0
  WantsBuilt may old new result = Refuses stages.Built refusals.NotBuilt may old new result old.stage

  -- a call that builds: it is refused after the build, and after a fault
  abbrev pub WantsFresh :
      {A : Type 0} → (DomFault → Type 0) → VirtualDom P C Q V H T E L → VirtualDom P C Q V H T E L → Result A DomFault → Type 0
  WantsFresh may old new result = Refuses stages.Fresh refusals.AlreadyBuilt may old new result old.stage

  -- a call leaves the application and the limits
  abbrev pub Keeps : VirtualDom P C Q V H T E L → VirtualDom P C Q V H T E L → Type 0
  Keeps old new = (new.app ≡ old.app) × (new.limits ≡ old.limits)

  -- a refusal leaves all as it was
  abbrev pub LeavesAll : {A : Type 0} → VirtualDom P C Q V H T E L → VirtualDom P C Q V H T E L → Result A DomFault → Type 0
  LeavesAll old new result = OnErr result (new ≡ old)

  -- a call that any dom answers that hasn't failed
  abbrev pub RefusedFailedAt :
      {A : Type 0} → (DomFault → Type 0) → VirtualDom P C Q V H T E L → VirtualDom P C Q V H T E L → Result A DomFault → Stage → Type 0
  RefusedFailedAt may old new result stages.Failed = (result ≡ Err refusals.Failed) × (new ≡ old)
  RefusedFailedAt may old new result stage = IfErr result may

  abbrev pub RefusedFailed :
      {A : Type 0} → (DomFault → Type 0) → VirtualDom P C Q V H T E L → VirtualDom P C Q V H T E L → Result A DomFault → Type 0
  RefusedFailed may old new result = RefusedFailedAt may old new result old.stage

  -- after a fault the dom has failed, unless units were spent
  abbrev pub FailsAt : VirtualDom P C Q V H T E L → DomFault → Type 0
  FailsAt new (refusals.Run (faults.OutOfTurns units)) = new.stage ≡ stages.Built
  FailsAt new (refusals.Run other) = new.stage ≡ stages.Failed
  FailsAt new other = Unit {0}

  -- after a fault of a build the dom has failed
  abbrev pub FailsAllAt : VirtualDom P C Q V H T E L → DomFault → Type 0
  FailsAllAt new (refusals.Run fault) = new.stage ≡ stages.Failed
  FailsAllAt new other = Unit {0}

  abbrev pub FailsAll : {A : Type 0} → VirtualDom P C Q V H T E L → Result A DomFault → Type 0
  FailsAll new result = IfErr result (λ fault. FailsAllAt new fault)

  abbrev pub FailsOn : {A : Type 0} → VirtualDom P C Q V H T E L → Result A DomFault → Type 0
  FailsOn new result = IfErr result (λ fault. FailsAt new fault)

  -- the scope is live, and memory was wanting, or tasks have no number left
  abbrev pub WantsTask : VirtualDom P C Q V H T E L → ℕ → DomFault → Type 0
  WantsTask old scope fault =
      ((g : Unkept (types C Q V H T E L)) → is_live (StateIn g old) scope ≡ true) × WantsNumber counters.Tasks (NextIn old).tasks fault

module _ {P C Q V H T E L : Type 0} (meaning : P → Application (types C Q V H T E L)) where
  -- a call that logs no entry: a dom that stands for a state stands for another one after it, in which nothing new shows
  abbrev pub Does :
      {A : Type 0} → (model.State (types C Q V H T E L) → model.State (types C Q V H T E L)) → VirtualDom P C Q V H T E L
      → VirtualDom P C Q V H T E L → Result A DomFault → Type 0
  Does change old new result =
      (props : Q) (whole : Bool) (w : model.State (types C Q V H T E L)) → Stands meaning props whole w old
      → OnOk result (Stands meaning props whole (change w) new × (view (change w) ≡ view w))

  -- the root wrapper provides a value of a kind, at whatever stage; a built dom stands for the state after that, in which nothing new
  -- shows
  pub record ProvidesAtRoot (kind : ℕ) (value : V) (old new : VirtualDom P C Q V H T E L) : Type 0 where
    pub state : (g : Unkept (types C Q V H T E L)) → StateIn g new ≡ provide_context (meaning old.app) (StateIn g old) 0 kind value
    pub stage : new.stage ≡ old.stage
    -- before the build it is one more of those that the root provides
    pub started :
        (props : Q) (firsts : Firsts) (provided : List (ℕ × V)) → IsStarted meaning old.app props firsts provided old.limits old
        → IsStarted meaning old.app props firsts (provided ++ (kind, value) ∷ []) old.limits new
    pub stands :
        (props : Q) (whole : Bool) (w : model.State (types C Q V H T E L)) → Stands meaning props whole w old
        → Stands meaning props whole (provide_context (meaning old.app) w 0 kind value) new
        × (view (provide_context (meaning old.app) w 0 kind value) ≡ view w)

  -- a task was polled at once, where it is live and active; no look followed. Ready where it isn't live, pending where it is paused,
  -- else as its state answered
  pub record PolledNow (task : ℕ) (old new : VirtualDom P C Q V H T E L) (answer : Poll (Unit {0})) : Type 0 where
    pub built : new.stage ≡ stages.Built
    pub state :
        (g : Unkept (types C Q V H T E L)) → Counts old.calls g.calls
        → (h : Unkept (types C Q V H T E L))
        × (replay.polled_now (meaning old.app) (StateIn g old) task ≡ model.Done (StateIn h new) [])
        × Counts new.calls h.calls
    pub ready :
        (g : Unkept (types C Q V H T E L)) →
        answer ≡ told_by (replay.ready_now (meaning old.app) (StateIn g old) task)
    -- a dom that stood for a state stands for the one that the poll leaves
    pub stands :
        (props : Q) (whole : Bool) (w : model.State (types C Q V H T E L)) → Stands meaning props whole w old
        → Stands meaning props whole (left_of w (replay.polled_now (meaning old.app) w task)) new
    -- in which nothing new shows
    pub shows :
        (props : Q) (whole : Bool) (w : model.State (types C Q V H T E L)) → Stands meaning props whole w old
        → view (left_of w (replay.polled_now (meaning old.app) w task)) ≡ view w

  -- by what is answered
  abbrev pub PollsNowAs :
      ℕ → VirtualDom P C Q V H T E L → VirtualDom P C Q V H T E L → Result (Poll (Unit {0})) DomFault → Type 0
  PollsNowAs task old new (Ok answer) = PolledNow task old new answer
  PollsNowAs task old new (Err (refusals.Run what)) =
      (fault : model.Fault) → fault_of what ≡ Some fault
      → (g : Unkept (types C Q V H T E L))
      → (h : Unkept (types C Q V H T E L))
      × (replay.polled_now (meaning old.app) (StateIn g old) task ≡ model.Cut (StateIn h new) fault)
  PollsNowAs task old new (Err other) = Unit {0}

  -- a poll at once of a built dom
  abbrev pub PollsNow :
      ℕ → VirtualDom P C Q V H T E L → VirtualDom P C Q V H T E L → Result (Poll (Unit {0})) DomFault → Type 0
  PollsNow task old new result = old.stage ≡ stages.Built → PollsNowAs task old new result

  -- a dom is closed: each scope goes, from the greatest order down, with its clean-ups; or one of these comes to a fault
  abbrev pub ClosesAs : VirtualDom P C Q V H T E L → Result P Fault → Type 0
  ClosesAs d (Ok app) =
      (g : Unkept (types C Q V H T E L))
      → (v : model.State (types C Q V H T E L)) × (close (meaning d.app) (StateIn g d) ≡ model.Done v [])
  ClosesAs d (Err what) =
      (fault : model.Fault) → fault_of what ≡ Some fault
      → (g : Unkept (types C Q V H T E L))
      → (v : model.State (types C Q V H T E L)) × (close (meaning d.app) (StateIn g d) ≡ model.Cut v fault)

  -- so is one that hasn't failed
  abbrev pub Closes : VirtualDom P C Q V H T E L → Result P Fault → Type 0
  Closes d result = (d.stage ≡ stages.Failed → ⊥) → ClosesAs d result

module _ {K : Types} where
  -- what a reactive context targets is marked or woken, where the context is there
  abbrev pub context_posted : model.State K → ℕ → model.State K
  context_posted w c = elim (at w.contexts c) [ None ↦ w | Some x ↦ post_target w x.target ]

  -- a task is spawned in a scope under the next number, where the scope is live
  abbrev pub spawned_by : model.State K → ℕ → K.TaskState → Bool → model.State K
  spawned_by w s state isomorphic =
      (if is_live w s then
      spawned (with_next w (record (w.next) { tasks = w.next.tasks + 1 })) None s w.next.tasks state isomorphic
      else w)

  -- the number of that task
  abbrev pub task_spawned : model.State K → ℕ → Option ℕ
  task_spawned w s = if is_live w s then Some w.next.tasks else None

  -- an error under the next number is thrown from a scope upwards
  abbrev pub thrown_by : model.State K → ℕ → Text → model.State K
  thrown_by w s text =
      throw_error (with_next w (record (w.next) { errors = w.next.errors + 1 })) s (record { serial = w.next.errors; text = text })
