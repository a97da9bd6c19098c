-- Faults of a dom's calls, by what these say of them.
use Rattle.std.proofs.Common.{◌≡◌, ℕ, ◌<◌, Bool, [], Some, None, Err, refl, sym, ◌∙◌, subst, arith}
use Rattle.law_moves.proofs.Begun.{ones_above}
use Rattle.rt_model.specs.OneLog.{types}
use Rattle.rt_model.specs.Replay.{ones}
use Rattle.rt_model.specs.State as model
use Rattle.rt_model.specs.World.{Application}
use Rattle.run_answers.specs.declared.refusal.DomFault.{DomFault}
use Rattle.run_answers.specs.declared.refusal.DomFault.TheVariants as doms
use Rattle.run_answers.specs.declared.stage.Stage.{Stage}
use Rattle.run_answers.specs.declared.stage.Stage.TheVariants as stages
use Rattle.run_outside.specs.Ends.{Causes}
use Rattle.run_records.specs.Records.{counter_of}
use Rattle.run_reports.specs.Seen.{fault_of, limits_of}
use Rattle.run_reports.specs.declared.fault.Fault.{Fault}
use Rattle.run_reports.specs.declared.fault.Fault.TheVariants as runs
use Rattle.run_reports.specs.declared.limits.Limits.{Limits}
use Rattle.rt_vdom.specs.Calls.{CausesAt, Keeps, Refuses, WantsBuilt, WantsNothing}
use Rattle.rt_vdom.specs.Doms.{IsStarted}
use Rattle.rt_vdom.specs.Handles.{RenderCut, RendersSuspended, RendersSuspendedAs}
use Rattle.rt_vdom.specs.Runs.{Builds}
use Rattle.rt_vdom.specs.declared.dom.VirtualDom.{VirtualDom}
use Rattle.rt_served.specs.Faults.{CausedBy, PartBy, dom_fault, run_fault}
use Rattle.rt_served.specs.Serving.{BuildStops, RenderStops}
use Rattle.rt_served.specs.Stood.{Keeping}
use Rattle.rt_served.specs.declared.refusal.ServeFault.{ServeFault}
use Rattle.rt_served.specs.declared.refusal.ServeFault.TheVariants as faults

module _ (limits : Limits) (Comes : model.Fault → Type 0) (Unspelt : Type 0) (before after : ℕ) where
  -- a fault of a run that comes by its cause
  pub run_fails : (what : Fault) → ((fault : model.Fault) → fault_of what ≡ Some fault → Comes fault) → Causes limits 0 0 what
      → CausedBy limits Comes Unspelt before after (run_fault what)
  run_fails runs.OutOfMemory comes cause = tt
  run_fails runs.SinkFault comes cause = absurd (omega (arith, cause))
  run_fails (runs.OutOfTurns units) comes cause =
      record { fault = model.OutOfTurns units; known = refl; comes = comes (model.OutOfTurns units) refl; cause = cause }
  run_fails (runs.TooDeep height) comes cause =
      record { fault = model.TooDeep height; known = refl; comes = comes (model.TooDeep height) refl; cause = cause }
  run_fails (runs.IdsExhausted what) comes cause =
      record { fault = model.IdsExhausted (counter_of what); known = refl; comes = comes (model.IdsExhausted (counter_of what)) refl; cause = cause }
  run_fails (runs.HookChanged scope index kept asked) comes cause =
      record {
        fault = model.HookChanged scope.0 index kept asked;
        known = refl;
        comes = comes (model.HookChanged scope.0 index kept asked) refl;
        cause = cause;
      }
  run_fails (runs.NoSuchTask scope task) comes cause =
      record { fault = model.NoSuchTask scope.0 task.0; known = refl; comes = comes (model.NoSuchTask scope.0 task.0) refl; cause = cause }
  run_fails (runs.BadNode scope) comes cause =
      record { fault = model.BadNode scope.0; known = refl; comes = comes (model.BadNode scope.0) refl; cause = cause }

-- a built dom refuses no wake
pub unrefused : {P C Q V H T E L : Type 0} (old new : VirtualDom P C Q V H T E L) (fault : DomFault)
    → old.stage ≡ stages.Built
    → WantsBuilt {A = Unit {0}} WantsNothing old new (Err fault)
    → ⊥
unrefused old new fault built h =
    subst (λ (s : Stage). Refuses {A = Unit {0}} stages.Built doms.NotBuilt WantsNothing old new (Err fault) s) built h

-- a fault that comes for another reason, too
pub caused_on : (limits : Limits) (Comes Others : model.Fault → Type 0) (Unspelt Other : Type 0) (low before after high : ℕ)
    (fault : ServeFault)
    → ((f : model.Fault) → Comes f → Others f) → (Unspelt → Other) → (before < after → low < high)
    → CausedBy limits Comes Unspelt before after fault → CausedBy limits Others Other low high fault
caused_on limits Comes Others Unspelt Other low before after high (faults.Run what) stops bad out h =
    record { fault = h.fault; known = h.known; comes = stops h.fault h.comes; cause = h.cause }
caused_on limits Comes Others Unspelt Other low before after high faults.BadName stops bad out h = bad h
caused_on limits Comes Others Unspelt Other low before after high faults.OutFault stops bad out h = out h
caused_on limits Comes Others Unspelt Other low before after high faults.OutOfMemory stops bad out h = tt

-- what was put before a fault, where that is known of each
pub part_of : (fault : ServeFault) (Whole Front : Type 0) → Whole → Front → PartBy fault Whole Front
part_of (faults.Run what) Whole Front whole front = whole
part_of faults.BadName Whole Front whole front = front
part_of faults.OutFault Whole Front whole front = front
part_of faults.OutOfMemory Whole Front whole front = front

-- and where it goes on
pub part_on : (fault : ServeFault) (Whole Front All Any : Type 0) → (Whole → All) → (Front → Any) → PartBy fault Whole Front
    → PartBy fault All Any
part_on (faults.Run what) Whole Front All Any whole front h = whole h
part_on faults.BadName Whole Front All Any whole front h = front h
part_on faults.OutFault Whole Front All Any whole front h = front h
part_on faults.OutOfMemory Whole Front All Any whole front h = front h

-- where no fault of a run comes, no name is unspelt and no failure is counted, memory was wanting
pub wanting_alone : (limits : Limits) (Comes : model.Fault → Type 0) (Unspelt : Type 0) (before after : ℕ) (fault : ServeFault)
    → CausedBy limits Comes Unspelt before after fault
    → ((f : model.Fault) → Comes f → ⊥) → (Unspelt → ⊥) → (before < after → ⊥)
    → fault ≡ faults.OutOfMemory
wanting_alone limits Comes Unspelt before after (faults.Run what) h safe spelt calm = absurd (safe h.fault h.comes)
wanting_alone limits Comes Unspelt before after faults.BadName h safe spelt calm = absurd (spelt h)
wanting_alone limits Comes Unspelt before after faults.OutFault h safe spelt calm = absurd (calm h)
wanting_alone limits Comes Unspelt before after faults.OutOfMemory h safe spelt calm = refl

module _ {P C Q V H T E L : Type 0} (meaning : P → Application (types C Q V H T E L)) (app : P) (limits : Limits) (props : Q) where
  -- a render that was cut is one that comes to the fault
  stops_in : (x : model.State (types C Q V H T E L)) (new : VirtualDom P C Q V H T E L) (fault : model.Fault)
      → new.app ≡ app → new.limits ≡ limits
      → RenderCut meaning props x None None new fault
      → RenderStops (meaning app) (limits_of limits) x fault
  stops_in x new fault owned limited h =
      subst (λ (a : P). RenderStops (meaning a) (limits_of limits) x fault) owned
      (subst (λ (l : Limits). RenderStops (meaning new.app) (limits_of l) x fault) limited
      (record { log = (h.cut).log; last = (h.cut).last; goes = (h.cut).goes; cause = (h.cut).cause }))

  fails_by : (x : model.State (types C Q V H T E L)) (new : VirtualDom P C Q V H T E L) (fault : DomFault) (Unspelt : Type 0)
      (before after : ℕ)
      → new.app ≡ app → new.limits ≡ limits
      → RendersSuspendedAs meaning props x None None new (Err fault)
      → CausesAt limits 0 0 fault
      → CausedBy limits (λ (f : model.Fault). RenderStops (meaning app) (limits_of limits) x f) Unspelt before after (dom_fault fault)
  fails_by x new (doms.Run what) Unspelt before after owned limited cuts cause =
      run_fails limits (λ (f : model.Fault). RenderStops (meaning app) (limits_of limits) x f) Unspelt before after what
      (λ f is. stops_in x new f owned limited (cuts.0 f is)) cause
  fails_by x new doms.NotBuilt Unspelt before after owned limited cuts cause = tt
  fails_by x new doms.AlreadyBuilt Unspelt before after owned limited cuts cause = tt
  fails_by x new doms.Failed Unspelt before after owned limited cuts cause = tt

  -- a fault of a render while suspended
  pub render_fails : (whole : Bool) (x : model.State (types C Q V H T E L)) (old new : VirtualDom P C Q V H T E L) (fault : DomFault)
      (Unspelt : Type 0) (before after : ℕ)
      → Keeping meaning app limits props whole x old
      → RendersSuspended meaning None None old new (Err fault)
      → Keeps old new
      → CausesAt old.limits 0 0 fault
      → CausedBy limits (λ (f : model.Fault). RenderStops (meaning app) (limits_of limits) x f) Unspelt before after (dom_fault fault)
  render_fails whole x old new fault Unspelt before after keeps renders kept cause =
      fails_by x new fault Unspelt before after (kept.0 ∙ keeps.owned) (kept.1 ∙ keeps.limited) (renders props whole x keeps.stands)
      (subst (λ (l : Limits). CausesAt l 0 0 fault) keeps.limited cause)

  -- a fault of the build
  pub build_fails : (old new : VirtualDom P C Q V H T E L) (fault : DomFault) (Unspelt : Type 0) (before after : ℕ)
      → IsStarted meaning app props ones [] limits old
      → Builds meaning None None old new (Err fault)
      → CausesAt old.limits 0 0 fault
      → CausedBy limits (λ (f : model.Fault). BuildStops (meaning app) (limits_of limits) props f) Unspelt before after (dom_fault fault)
  build_fails old new (doms.Run what) Unspelt before after started cuts cause =
      run_fails limits (λ (f : model.Fault). BuildStops (meaning app) (limits_of limits) props f) Unspelt before after what
      (λ f is. stops f is)
      (subst (λ (l : Limits). Causes l 0 0 what) started.limited cause)
    where
      own : IsStarted meaning old.app props ones [] old.limits old
      own = subst (λ (a : P). IsStarted meaning a props ones [] old.limits old) (sym started.owned)
          (subst (λ (l : Limits). IsStarted meaning app props ones [] l old) (sym started.limited) started)

      stops : (f : model.Fault) → fault_of what ≡ Some f → BuildStops (meaning app) (limits_of limits) props f
      stops f is =
          let cut = ((cuts props ones [] ones_above own).0 f is).0 in
          subst (λ (a : P). BuildStops (meaning a) (limits_of limits) props f) started.owned
          (subst (λ (l : Limits). BuildStops (meaning old.app) (limits_of l) props f) started.limited
          (record { log = cut.log; last = cut.last; so = cut.so; cause = cut.cause }))
  build_fails old new doms.NotBuilt Unspelt before after started cuts cause = tt
  build_fails old new doms.AlreadyBuilt Unspelt before after started cuts cause = tt
  build_fails old new doms.Failed Unspelt before after started cuts cause = tt
