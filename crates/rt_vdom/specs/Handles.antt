-- What a dom's calls say that handle an event, take messages in, or go on while suspended.
use Rattle.std.specs.Prelude.{◌≡◌, ◌&&◌, ℕ, Bool, false, List, [], map, Option, Some, None, Result, Ok, Err}
use Rattle.rt_edits.specs.Sinks.{grown}
use Rattle.rt_edits.specs.declared.edit.Edit.{Edit}
use Rattle.rt_inbox.specs.declared.message.Drained.{Drained}
use Rattle.tree_edits.specs.Documents.{edit_of}
use Rattle.rt_model.specs.Document.{document_after}
use Rattle.rt_model.specs.Lists.{Text}
use Rattle.rt_model.specs.OneLog.{types}
use Rattle.rt_model.specs.Tree.{Types}
use Rattle.rt_model.specs.Rendering.{polling_rest, rendering_rest, suspended_remains, resolved_by_height, nothing_resolved}
use Rattle.rt_model.specs.View.{view}
use Rattle.rt_model.specs.World.{Application}
use Rattle.rt_model.specs.Replay as replay
use Rattle.rt_model.specs.State as model
use Rattle.law_behavior.specs.Doms.{CallRan, Events, left_by}
use Rattle.run_outside.specs.Short.{PartOf}
use Rattle.tree_nodes.specs.declared.event.Event.{Event}
use Rattle.run_reports.specs.Seen.{fault_of, limits_of, message_of}
use Rattle.rt_values.specs.declared.names.ScopeId.{ScopeId}
use Rattle.run_rounds.specs.Handled.{HeardBy, HeardUpTo}
use Rattle.run_rounds.specs.Suspended.{PollsTo, RendersTo, PollCutOn, RenderBroke, RenderCutOn}
use Rattle.rt_vdom.specs.Doms.{Stands}
use Rattle.rt_vdom.specs.Carried.{StepsCarryOn}
use Rattle.rt_vdom.specs.Runs.{HoldsBy, Stopped}
use Rattle.rt_vdom.specs.declared.dom.VirtualDom.{VirtualDom}
use Rattle.run_reports.specs.declared.poll.Poll.{Poll}
use Rattle.run_answers.specs.Polls.{answers, sees_none}
use Rattle.run_answers.specs.declared.refusal.DomFault.{DomFault}
use Rattle.run_answers.specs.declared.refusal.DomFault.TheVariants as refusals

module _ {K : Types} where
  -- the state with what messages ask for
  abbrev pub taken_in : model.State K → Drained → model.State K
  taken_in w drained = replay.post_messages w (map message_of drained.messages)

module _ {P C Q V H T E L : Type 0} (meaning : P → Application (types C Q V H T E L)) where
  -- an event was handled: what shows stays, and the dom stands for where the last listener left it
  pub record Handled (props : Q) (whole : Bool) (w : model.State (types C Q V H T E L)) (name : Text) (event : Event L) (element : ℕ)
      (answer : Event L) (d : VirtualDom P C Q V H T E L) : Type 0 where
    pub log : List replay.Entry
    pub last : replay.Machine (types C Q V H T E L)
    pub heard : HeardBy (meaning d.app) w name event.payload element event.propagates event.prevented log last answer
    pub shows : view last.state ≡ view w
    pub stands : Stands meaning props whole last.state d

  -- by what is answered
  abbrev pub HandlesAs :
      Q → Bool → model.State (types C Q V H T E L) → Text → Event L → ℕ → VirtualDom P C Q V H T E L → Result (Event L) DomFault → Type 0
  HandlesAs props whole w name event element new (Ok answer) = Handled props whole w name event element answer new
  HandlesAs props whole w name event element new (Err (refusals.Run what)) =
      (fault : model.Fault) → fault_of what ≡ Some fault
      → HeardUpTo (meaning new.app) w name event.payload element event.propagates event.prevented fault
  HandlesAs props whole w name event element new (Err other) = Unit {0}

  -- an event comes to those that hear it
  abbrev pub Handles :
      Text → Event L → ℕ → VirtualDom P C Q V H T E L → VirtualDom P C Q V H T E L → Result (Event L) DomFault → Type 0
  Handles name event element old new result =
      (props : Q) (whole : Bool) (w : model.State (types C Q V H T E L)) → Stands meaning props whole w old
      → HandlesAs props whole w name event element new result

  -- messages were taken in and events processed: nothing is written and nothing new shows; pending exactly where no scope is seen then
  -- and no message was left to drain
  pub record Worked (props : Q) (whole : Bool) (w : model.State (types C Q V H T E L)) (drained : Drained)
      (answer : Poll (Unit {0})) (d : VirtualDom P C Q V H T E L) : Type 0 where
    pub log : List replay.Entry
    pub last : replay.Machine (types C Q V H T E L)
    -- within the limits: no unit was begun past those of a call, nor one where no event was left
    pub ran : CallRan (meaning d.app) (limits_of d.limits) Events (taken_in w drained) log [] last
    pub holds : HoldsBy meaning d.app d.limits props whole (taken_in w drained) Events log [] last
    pub shows : view (left_by Events last.state) ≡ view w
    pub answers_as : answer ≡ answers (sees_none (left_by Events last.state).seen && drained.emptied)
    pub stands : Stands meaning props whole (left_by Events last.state) d

  -- by what is answered
  abbrev pub WorksAs :
      Q → Bool → model.State (types C Q V H T E L) → Drained → VirtualDom P C Q V H T E L → Result (Poll (Unit {0})) DomFault → Type 0
  WorksAs props whole w drained new (Ok answer) = Worked props whole w drained answer new
  WorksAs props whole w drained new (Err (refusals.Run what)) =
      (fault : model.Fault) → fault_of what ≡ Some fault
      → Stopped meaning Events props whole (taken_in w drained) None None new fault
  WorksAs props whole w drained new (Err other) = Unit {0}

  -- messages are taken in, and events are processed
  abbrev pub Works :
      Drained → VirtualDom P C Q V H T E L → VirtualDom P C Q V H T E L → Result (Poll (Unit {0})) DomFault → Type 0
  Works drained old new result =
      (props : Q) (whole : Bool) (w : model.State (types C Q V H T E L)) → Stands meaning props whole w old
      → WorksAs props whole w drained new result

  -- a render while suspended ended: its edits make what shows, its answer is the boundaries that turned to their children by
  -- height, and the dom stands for what is left, but for the promise that nothing was passed over
  pub record RenderedSuspended (props : Q) (w : model.State (types C Q V H T E L)) (before after : Option (List Edit))
      (answer : List ScopeId) (d : VirtualDom P C Q V H T E L) : Type 0 where
    pub wrote : List Edit
    pub told : after ≡ grown before wrote
    pub log : List replay.Entry
    pub left : model.State (types C Q V H T E L)
    pub went : RendersTo (meaning d.app) (limits_of d.limits) w log (map edit_of wrote) left
    pub shows : document_after (map edit_of wrote) (view w) ≡ Ok (view left)
    pub answers_as : map (λ scope. scope.0) answer ≡ resolved_by_height left
    -- after whatever edits carried what was drawn, each number that its edits carry is that of a hidden node that is shown again, or one
    -- that no edit carried before
    pub carries : StepsCarryOn (meaning d.app) w ((went.stepped).steps) (map edit_of wrote) (nothing_resolved left)
    pub stands : Stands meaning props false (nothing_resolved left) d

  -- it came to a fault; where units were spent its edits carry what those of a render that ended carry, and the dom stands for what is
  -- left
  pub record RenderCut (props : Q) (w : model.State (types C Q V H T E L)) (before after : Option (List Edit))
      (d : VirtualDom P C Q V H T E L) (fault : model.Fault) : Type 0 where
    pub cut : RenderCutOn (meaning d.app) (limits_of d.limits) w props before after fault d.machine d.calls
    pub carries : (units : ℕ) (out : fault ≡ model.OutOfTurns units)
        → StepsCarryOn (meaning d.app) w ((cut.stepped units out).steps) (map edit_of cut.wrote) (rendering_rest (cut.last).state)
    pub stands : (units : ℕ) → fault ≡ model.OutOfTurns units → Stands meaning props false (rendering_rest (cut.last).state) d

  -- by what is answered
  abbrev pub RendersSuspendedAs :
      Q → model.State (types C Q V H T E L) → Option (List Edit) → Option (List Edit) → VirtualDom P C Q V H T E L
      → Result (List ScopeId) DomFault → Type 0
  RendersSuspendedAs props w before after new (Ok answer) = RenderedSuspended props w before after answer new
  RendersSuspendedAs props w before after new (Err (refusals.Run what)) =
      ((fault : model.Fault) → fault_of what ≡ Some fault → RenderCut props w before after new fault)
      × (fault_of what ≡ None → RenderBroke (meaning new.app) (limits_of new.limits) w before after (PartOf what))
  RendersSuspendedAs props w before after new (Err other) = Unit {0}

  -- a render while suspended
  abbrev pub RendersSuspended :
      Option (List Edit) → Option (List Edit) → VirtualDom P C Q V H T E L → VirtualDom P C Q V H T E L
      → Result (List ScopeId) DomFault → Type 0
  RendersSuspended before after old new result =
      (props : Q) (whole : Bool) (w : model.State (types C Q V H T E L)) → Stands meaning props whole w old
      → RendersSuspendedAs props w before after new result

  -- suspended work was polled: nothing new shows, and the dom stands for what is left, but for the promise that nothing was passed
  -- over
  pub record PolledFrom (props : Q) (w : model.State (types C Q V H T E L)) (d : VirtualDom P C Q V H T E L) : Type 0 where
    pub log : List replay.Entry
    pub left : model.State (types C Q V H T E L)
    pub went : PollsTo (meaning d.app) (limits_of d.limits) w log left
    pub shows : view left ≡ view w
    pub stands : Stands meaning props false left d

  -- they came to a fault; where units were spent the dom stands for what is left
  pub record PollCut (props : Q) (w : model.State (types C Q V H T E L)) (d : VirtualDom P C Q V H T E L) (fault : model.Fault) :
      Type 0 where
    pub cut : PollCutOn (meaning d.app) (limits_of d.limits) w props fault d.machine d.calls
    pub stands : (units : ℕ) → fault ≡ model.OutOfTurns units → Stands meaning props false (polling_rest (cut.last).state) d

  -- by what is answered
  abbrev pub PollsOnAs :
      Q → model.State (types C Q V H T E L) → VirtualDom P C Q V H T E L → Result (Unit {0}) DomFault → Type 0
  PollsOnAs props w new (Ok u) = PolledFrom props w new
  PollsOnAs props w new (Err (refusals.Run what)) =
      (fault : model.Fault) → fault_of what ≡ Some fault
      → PollCut props w new fault
  PollsOnAs props w new (Err other) = Unit {0}

  -- a poll of suspended work
  abbrev pub PollsOnSuspended :
      VirtualDom P C Q V H T E L → VirtualDom P C Q V H T E L → Result (Unit {0}) DomFault → Type 0
  PollsOnSuspended old new result =
      (props : Q) (whole : Bool) (w : model.State (types C Q V H T E L)) → Stands meaning props whole w old
      → PollsOnAs props w new result

  -- messages were taken in and suspended work polled: nothing new shows; pending exactly where no scope is seen then, a suspended task
  -- remains, and no message was left to drain
  pub record PolledSuspended (props : Q) (w : model.State (types C Q V H T E L)) (drained : Drained)
      (answer : Poll (Unit {0})) (d : VirtualDom P C Q V H T E L) : Type 0 where
    pub polled : PolledFrom props (taken_in w drained) d
    pub shows : view polled.left ≡ view w
    pub answers_as :
        answer ≡ answers (sees_none (polled.left).seen && suspended_remains (polled.left).tasks && drained.emptied)

  -- by what is answered
  abbrev pub PollsSuspendedAs :
      Q → model.State (types C Q V H T E L) → Drained → VirtualDom P C Q V H T E L → Result (Poll (Unit {0})) DomFault → Type 0
  PollsSuspendedAs props w drained new (Ok answer) = PolledSuspended props w drained answer new
  PollsSuspendedAs props w drained new (Err (refusals.Run what)) =
      (fault : model.Fault) → fault_of what ≡ Some fault
      → PollCut props (taken_in w drained) new fault
  PollsSuspendedAs props w drained new (Err other) = Unit {0}

  -- messages are taken in, and suspended work is polled
  abbrev pub PollsSuspended :
      Drained → VirtualDom P C Q V H T E L → VirtualDom P C Q V H T E L → Result (Poll (Unit {0})) DomFault → Type 0
  PollsSuspended drained old new result =
      (props : Q) (whole : Bool) (w : model.State (types C Q V H T E L)) → Stands meaning props whole w old
      → PollsSuspendedAs props w drained new result
