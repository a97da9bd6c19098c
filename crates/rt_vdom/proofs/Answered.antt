-- What is said of a dom's calls, by what is answered.
use Rattle.std.proofs.Common.{ℕ, ◌<◌, Bool, true, false, ◌&&◌, List, [], ◌≡◌, refl, sym, ap, ◌∙◌, subst, map}
use Rattle.std.specs.Prelude.{Option, Some, None, Result, Ok, Err}
use Rattle.rt_edits.specs.declared.edit.Edit.{Edit}
use Rattle.rt_inbox.specs.declared.message.Drained.{Drained}
use Rattle.rt_model.specs.Lists.{Text}
use Rattle.tree_edits.specs.Documents.{edit_of}
use Rattle.rt_model.specs.OneLog.{types}
use Rattle.rt_model.specs.View.{view}
use Rattle.rt_model.specs.World.{Application, Firsts}
use Rattle.rt_model.specs.Rendering.{suspended_remains}
use Rattle.rt_model.specs.Replay as replay
use Rattle.rt_model.specs.State as model
use Rattle.law_behavior.specs.Doms.{CallRan, Until, Events, Renders}
use Rattle.tree_nodes.specs.declared.event.Event.{Event}
use Rattle.run_reports.specs.Seen.{entry_of, limits_of}
use Rattle.run_reports.specs.declared.fault.Fault.{Fault}
use Rattle.run_reports.specs.declared.fault.Fault.TheVariants as faults
use Rattle.run_reports.specs.declared.limits.Limits.{Limits}
use Rattle.run_reports.specs.declared.report.Report.{Report}
use Rattle.run_state.specs.Mirror.{Unkept}
use Rattle.run_outside.specs.Short.{PartOf}
use Rattle.law_moves.proofs.Begun.{ones_above}
use Rattle.run_rounds.specs.Handled.{HeardUpTo}
use Rattle.run_rounds.specs.Rounds.{CallBroke}
use Rattle.run_rounds.specs.Suspended.{RenderBroke}
use Rattle.rt_vdom.specs.Calls.{WantsMemory, ran_fault}
use Rattle.rt_vdom.specs.Doms.{IsStarted, StateIn}
use Rattle.rt_vdom.specs.Handles.{HandlesAs, PollCut, RenderCut, PolledFrom, PolledSuspended, PollsOnAs, PollsSuspendedAs, RendersSuspendedAs, Worked, WorksAs, taken_in}
use Rattle.run_answers.specs.Polls.{answers, sees_none}
use Rattle.rt_vdom.specs.Runs.{Builds, BuildsToList, BuildStopped, HoldsBy, PrebuiltStopped, RendersToList, Runs, RunsAs, RunsOnce, Stopped, Went}
use Rattle.rt_vdom.specs.declared.dom.VirtualDom.{VirtualDom}
use Rattle.run_reports.specs.declared.poll.Poll.{Poll}
use Rattle.run_answers.specs.declared.refusal.DomFault.{DomFault}
use Rattle.run_answers.specs.declared.refusal.DomFault.TheVariants as refusals

module _ {P C Q V H T E L : Type 0} (meaning : P → Application (types C Q V H T E L)) where
  -- what is said of a call that came to a fault, by what is answered
  pub runs_err : (until : Until) (props : Q) (whole : Bool) (w : model.State (types C Q V H T E L)) (before after : Option (List Edit))
      (new : VirtualDom P C Q V H T E L) (fault : DomFault)
      → ((f : model.Fault) → ran_fault fault ≡ Some f → Stopped meaning until props whole w before after new f)
      → ((what : Fault) → fault ≡ refusals.Run what → ran_fault fault ≡ None
      → CallBroke (meaning new.app) (limits_of new.limits) w until before after (PartOf what))
      → RunsAs meaning until props whole w before after new (Err fault)
  runs_err until props whole w before after new (refusals.Run what) h k = (h, k what refl)
  runs_err until props whole w before after new refusals.NotBuilt h k = tt
  runs_err until props whole w before after new refusals.AlreadyBuilt h k = tt
  runs_err until props whole w before after new refusals.Failed h k = tt

  pub handles_err : (props : Q) (whole : Bool) (w : model.State (types C Q V H T E L)) (name : Text) (event : Event L) (element : ℕ)
      (new : VirtualDom P C Q V H T E L) (fault : DomFault)
      → ((f : model.Fault) → ran_fault fault ≡ Some f
      → HeardUpTo (meaning new.app) w name event.payload element event.propagates event.prevented f)
      → HandlesAs meaning props whole w name event element new (Err fault)
  handles_err props whole w name event element new (refusals.Run what) h = h
  handles_err props whole w name event element new refusals.NotBuilt h = tt
  handles_err props whole w name event element new refusals.AlreadyBuilt h = tt
  handles_err props whole w name event element new refusals.Failed h = tt

  pub renders_err : (props : Q) (w : model.State (types C Q V H T E L)) (before after : Option (List Edit))
      (new : VirtualDom P C Q V H T E L) (fault : DomFault)
      → ((f : model.Fault) → ran_fault fault ≡ Some f
      → RenderCut meaning props w before after new f)
      → ((what : Fault) → fault ≡ refusals.Run what → ran_fault fault ≡ None
      → RenderBroke (meaning new.app) (limits_of new.limits) w before after (PartOf what))
      → RendersSuspendedAs meaning props w before after new (Err fault)
  renders_err props w before after new (refusals.Run what) h k = (h, k what refl)
  renders_err props w before after new refusals.NotBuilt h k = tt
  renders_err props w before after new refusals.AlreadyBuilt h k = tt
  renders_err props w before after new refusals.Failed h k = tt

  -- of messages that were taken in before a call came to a fault
  pub works_err : (props : Q) (whole : Bool) (w : model.State (types C Q V H T E L)) (drained : Drained)
      (new : VirtualDom P C Q V H T E L) (fault : DomFault)
      → RunsAs meaning Events props whole (taken_in w drained) None None new (Err fault)
      → WorksAs meaning props whole w drained new (Err fault)
  works_err props whole w drained new (refusals.Run what) h = h.0
  works_err props whole w drained new refusals.NotBuilt h = tt
  works_err props whole w drained new refusals.AlreadyBuilt h = tt
  works_err props whole w drained new refusals.Failed h = tt

  pub works_wanting : (props : Q) (whole : Bool) (w : model.State (types C Q V H T E L)) (drained : Drained)
      (new : VirtualDom P C Q V H T E L) (fault : DomFault) → WantsMemory fault
      → WorksAs meaning props whole w drained new (Err fault)
  works_wanting props whole w drained new fault wants =
      subst (λ (f : DomFault). WorksAs meaning props whole w drained new (Err f)) (sym wants) (λ f why. cc)

  -- messages were taken in, and events processed
  pub worked : (props : Q) (whole : Bool) (w : model.State (types C Q V H T E L)) (drained : Drained)
      (new : VirtualDom P C Q V H T E L) (report : Report) (answer : Poll (Unit {0}))
      → view (taken_in w drained) ≡ view w
      → Went meaning Events props whole (taken_in w drained) None None new report
      → ((g : Unkept (types C Q V H T E L)) → answer ≡ answers (sees_none (StateIn g new).seen && drained.emptied))
      → Worked meaning props whole w drained answer new
  worked props whole w drained new report answer same went waits =
      record {
        log = map entry_of report.log;
        last = went.last;
        ran =
            subst
            (λ (es : List Edit). CallRan (meaning new.app) (limits_of new.limits) Events (taken_in w drained) (map entry_of report.log)
            (map edit_of es) went.last) went.silent went.ran;
        holds =
            subst
            (λ (es : List Edit). HoldsBy meaning new.app new.limits props whole (taken_in w drained) Events (map entry_of report.log)
            (map edit_of es) went.last) went.silent went.holds;
        shows = went.still ∙ same;
        answers_as =
            waits went.stands.kept
            ∙ ap (λ (x : model.State (types C Q V H T E L)). answers (sees_none x.seen && drained.emptied)) went.stands.is;
        stands = went.stands;
      }

  -- a whole render over a list of what is written
  pub list_ok : {M : Type 0} (taken : M → Option (List Edit)) (old new : VirtualDom P C Q V H T E L) (list : M) (report : Report)
      (before : Option (List Edit)) → before ≡ Some []
      → Runs meaning Renders before (taken list) old new (Ok report)
      → RunsOnce meaning old new (Ok report)
      → RendersToList meaning taken old new (Ok list)
  list_ok taken old new list report before start runs once =
      (report, subst (λ (b : Option (List Edit)). Runs meaning Renders b (taken list) old new (Ok report)) start runs, once)

  pub list_err : {M : Type 0} (taken : M → Option (List Edit)) (old new : VirtualDom P C Q V H T E L) (before after : Option (List Edit))
      (fault : DomFault) → before ≡ Some []
      → Runs meaning Renders before after old new (Err fault)
      → RendersToList meaning taken old new (Err fault)
  list_err taken old new before after fault start runs =
      (after, subst (λ (b : Option (List Edit)). Runs meaning Renders b after old new (Err fault)) start runs)

  -- so a build does
  pub build_ok : {M : Type 0} (taken : M → Option (List Edit)) (old new : VirtualDom P C Q V H T E L) (list : M) (report : Report)
      (before : Option (List Edit)) → before ≡ Some []
      → Builds meaning before (taken list) old new (Ok report)
      → BuildsToList meaning taken old new (Ok list)
  build_ok taken old new list report before start builds =
      (report, subst (λ (b : Option (List Edit)). Builds meaning b (taken list) old new (Ok report)) start builds)

  pub build_err : {M : Type 0} (taken : M → Option (List Edit)) (old new : VirtualDom P C Q V H T E L) (before after : Option (List Edit))
      (fault : DomFault) → before ≡ Some []
      → Builds meaning before after old new (Err fault)
      → BuildsToList meaning taken old new (Err fault)
  build_err taken old new before after fault start builds =
      (after, subst (λ (b : Option (List Edit)). Builds meaning b after old new (Err fault)) start builds)

  -- a dom that was just made was made of what it keeps
  pub started_own : (app : P) (props : Q) (firsts : Firsts) (provided : List (ℕ × V)) (limits : Limits) (d : VirtualDom P C Q V H T E L)
      → IsStarted meaning app props firsts provided limits d → IsStarted meaning d.app props firsts provided d.limits d
  started_own app props firsts provided limits d s =
      record {
        fresh = s.fresh;
        owned = refl;
        limited = refl;
        uncalled = s.uncalled;
        unused = s.unused;
        first =
            s.first
            ∙ ap (λ (a : P). replay.provided_all (meaning a) (replay.first_state (meaning a).root props firsts) provided) (sym s.owned);
      }

  -- making and building one came to a fault of the definitions where its build did
  pub prebuilt_stopped : (app : P) (props : Q) (limits : Limits) (d : VirtualDom P C Q V H T E L) (what : Fault)
      → IsStarted meaning app props replay.ones [] limits d
      → ((props : Q) (firsts : Firsts) (provided : List (ℕ × V)) → 0 < firsts.elements
      → IsStarted meaning d.app props firsts provided d.limits d
      → BuildStopped meaning d.app d.limits props firsts provided None None what)
      → PrebuiltStopped meaning app limits props what
  prebuilt_stopped app props limits d what started builds =
      let stopped : PrebuiltStopped meaning d.app d.limits props what =
      (builds props replay.ones [] ones_above (started_own app props replay.ones [] limits d started)).0 in
      subst (λ (l : Limits). PrebuiltStopped meaning app l props what) started.limited
      (subst (λ (a : P). PrebuiltStopped meaning a d.limits props what) started.owned stopped)

  -- nor did it where memory was wanting before the build
  pub prebuilt_wanting : (app : P) (props : Q) (limits : Limits) (what : Fault) → what ≡ faults.OutOfMemory
      → PrebuiltStopped meaning app limits props what
  prebuilt_wanting app props limits what wants =
      subst (λ (f : Fault). PrebuiltStopped meaning app limits props f) (sym wants) (λ fault why. cc)

  -- of polls of suspended work
  pub polls_on_err : (props : Q) (w : model.State (types C Q V H T E L)) (new : VirtualDom P C Q V H T E L) (fault : DomFault)
      → ((f : model.Fault) → ran_fault fault ≡ Some f → PollCut meaning props w new f)
      → PollsOnAs meaning props w new (Err fault)
  polls_on_err props w new (refusals.Run what) h = h
  polls_on_err props w new refusals.NotBuilt h = tt
  polls_on_err props w new refusals.AlreadyBuilt h = tt
  polls_on_err props w new refusals.Failed h = tt

  pub polls_err : (props : Q) (w : model.State (types C Q V H T E L)) (drained : Drained) (new : VirtualDom P C Q V H T E L)
      (fault : DomFault)
      → PollsOnAs meaning props (taken_in w drained) new (Err fault)
      → PollsSuspendedAs meaning props w drained new (Err fault)
  polls_err props w drained new (refusals.Run what) h = h
  polls_err props w drained new refusals.NotBuilt h = tt
  polls_err props w drained new refusals.AlreadyBuilt h = tt
  polls_err props w drained new refusals.Failed h = tt

  pub polls_wanting : (props : Q) (w : model.State (types C Q V H T E L)) (drained : Drained) (new : VirtualDom P C Q V H T E L)
      (fault : DomFault) → WantsMemory fault
      → PollsSuspendedAs meaning props w drained new (Err fault)
  polls_wanting props w drained new fault wants =
      subst (λ (f : DomFault). PollsSuspendedAs meaning props w drained new (Err f)) (sym wants) (λ f why. cc)

  pub polled_from : (props : Q) (w : model.State (types C Q V H T E L)) (drained : Drained) (new : VirtualDom P C Q V H T E L)
      (answer : Poll (Unit {0}))
      → view (taken_in w drained) ≡ view w
      → PolledFrom meaning props (taken_in w drained) new
      → ((g : Unkept (types C Q V H T E L))
      → answer ≡ answers (sees_none (StateIn g new).seen && suspended_remains (StateIn g new).tasks && drained.emptied))
      → PolledSuspended meaning props w drained answer new
  polled_from props w drained new answer same p waits =
      record {
        polled = p;
        shows = p.shows ∙ same;
        answers_as =
            waits p.stands.kept
            ∙ ap (λ (x : model.State (types C Q V H T E L)). answers (sees_none x.seen && suspended_remains x.tasks && drained.emptied))
            p.stands.is;
      }
