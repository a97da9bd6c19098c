-- What a dom's calls say that build, and that take unit after unit.
use Rattle.std.specs.Prelude.{◌≡◌, ◌<◌, ◌⊎◌, ℕ, Bool, true, List, [], map, length, Option, Some, None, Result, Ok, Err, IfOk}
use Rattle.rt_edits.specs.Sinks.{grown}
use Rattle.rt_edits.specs.declared.edit.Edit.{Edit}
use Rattle.tree_edits.specs.Documents.{edit_of}
use Rattle.rt_model.specs.Document as document
use Rattle.rt_model.specs.OneLog.{types}
use Rattle.rt_model.specs.Tree.{Types}
use Rattle.rt_model.specs.View.{view}
use Rattle.rt_model.specs.World.{Application, Firsts}
use Rattle.rt_model.specs.Bodies.{NoneAfterRerun, OthersMadeOrFed, RerunsTheSeen}
use Rattle.rt_model.specs.Current.{AllCurrent}
use Rattle.rt_model.specs.Headline.{AllHeldShown}
use Rattle.rt_model.specs.Next.{at_rest}
use Rattle.rt_model.specs.Replay as replay
use Rattle.rt_model.specs.Sentences.{CallComesTo, NoBodyTwice, call_begun}
use Rattle.rt_model.specs.State as model
use Rattle.rt_model.specs.Asides.{Looked, aside_state, resting}
use Rattle.law_behavior.specs.Doms.{Until, Events, Renders, BuildHolds, GivenBuildRan}
use Rattle.law_behavior.specs.Doms.{CallHolds, RenderHolds, RenderComesTo, SpentHolds, ends_by, left_by}
use Rattle.law_behavior.specs.Carries.{Carries, CarriesOn}
use Rattle.run_outside.specs.Short.{PartOf}
use Rattle.run_reports.specs.Seen.{entry_of, fault_of, limits_of}
use Rattle.run_reports.specs.declared.fault.Fault.{Fault}
use Rattle.run_reports.specs.declared.limits.Limits.{Limits}
use Rattle.run_reports.specs.declared.report.Report.{Report}
use Rattle.run_rounds.specs.Rounds.{BrokeAlone, CallBroke, CutFrom, OpensFirst, RanBy, StoppedBy}
use Rattle.rt_vdom.specs.Doms.{IsStarted, Stands}
use Rattle.rt_vdom.specs.declared.dom.VirtualDom.{VirtualDom}
use Rattle.run_answers.specs.declared.refusal.DomFault.{DomFault}
use Rattle.run_answers.specs.declared.refusal.DomFault.TheVariants as refusals

-- a call that processes events writes nothing
abbrev pub SilentBy : Until → List Edit → Type 0
SilentBy Events wrote = wrote ≡ []
SilentBy until wrote = Unit {0}

-- and shows nothing new
abbrev pub StillBy : {K : Types} → Until → model.State K → model.State K → Type 0
StillBy Events w v = view v ≡ view w
StillBy until w v = Unit {0}

module _ {P C Q V H T E L : Type 0} (meaning : P → Application (types C Q V H T E L)) where
  -- the build ended: its log is accepted, its edits make what shows of an empty document, and the dom stands for where it ended
  pub record Built
      (props : Q) (firsts : Firsts) (provided : List (ℕ × V)) (before after : Option (List Edit)) (d : VirtualDom P C Q V H T E L)
      (report : Report)
      : Type 0 where
    pub wrote : List Edit
    pub told : after ≡ grown before wrote
    pub counted : length wrote ≡ report.edits
    pub last : replay.Machine (types C Q V H T E L)
    pub ran : GivenBuildRan (meaning d.app) (limits_of d.limits) props firsts provided (map entry_of report.log) (map edit_of wrote) last
    -- no entry but the build begins a unit
    pub alone : OpensFirst (map entry_of report.log)
    pub holds : BuildHolds (meaning d.app) (limits_of d.limits) props (map edit_of wrote) last
    -- no edit came before, and all numbers that its edits carry were drawn
    pub carries :
        Carries (meaning d.app) [] (replay.start_with (meaning d.app) props firsts provided []) (map entry_of report.log) (map edit_of wrote)
        last.state
    pub enabled : report.default_enabled ≡ true
    pub stands : Stands meaning props true last.state d

  -- it came to a fault, which isn't that of spent units: the sink took the edits up to where the definitions refuse, or it broke off
  abbrev pub BuildStopped : P → Limits → Q → Firsts → List (ℕ × V) → Option (List Edit) → Option (List Edit) → Fault → Type 0
  BuildStopped app limits props firsts provided before after what =
      let from = replay.start_with (meaning app) props firsts provided [] in
      ((fault : model.Fault) → fault_of what ≡ Some fault
      → CutFrom (meaning app) (limits_of limits) from before after fault × ((units : ℕ) → fault ≡ model.OutOfTurns units → ⊥))
      × (fault_of what ≡ None → BrokeAlone (meaning app) (limits_of limits) from before after (PartOf what))

  -- a dom that isn't built yet is built, whatever its root provides and wherever its numbers begin; elements have none below 1
  abbrev pub Builds :
      Option (List Edit) → Option (List Edit) → VirtualDom P C Q V H T E L → VirtualDom P C Q V H T E L → Result Report DomFault → Type 0
  Builds before after old new (Ok report) =
      (props : Q) (firsts : Firsts) (provided : List (ℕ × V)) → 0 < firsts.elements
      → IsStarted meaning old.app props firsts provided old.limits old → Built props firsts provided before after new report
  Builds before after old new (Err (refusals.Run what)) =
      (props : Q) (firsts : Firsts) (provided : List (ℕ × V)) → 0 < firsts.elements
      → IsStarted meaning old.app props firsts provided old.limits old
      → BuildStopped old.app old.limits props firsts provided before after what
  Builds before after old new (Err other) = Unit {0}

  module _ (app : P) (limits : Limits) (props : Q) (whole : Bool) (w : model.State (types C Q V H T E L)) where
    -- what holds of a call that ended, by what it goes up to: a render goes up to there in its two parts
    abbrev pub HoldsBy : Until → List replay.Entry → List document.Edit → replay.Machine (types C Q V H T E L) → Type 0
    HoldsBy Renders log edits v = RenderHolds (meaning app) (limits_of limits) props whole w log edits v
    HoldsBy until log edits v = CallHolds (meaning app) (limits_of limits) props whole until w log edits v

    -- and of one that came to a fault: a render came to it while events were processed, or after that
    abbrev pub ComesBy : Until → List replay.Entry → model.Fault → Type 0
    ComesBy Renders log fault =
        CallComesTo (meaning app) (limits_of limits) (λ (x : model.State (types C Q V H T E L)). ends_by Events x)
        (resting (aside_state (meaning app) w Looked)) log fault
        ⊎ RenderComesTo (meaning app) (limits_of limits) w log fault
    ComesBy until log fault =
        CallComesTo (meaning app) (limits_of limits) (λ (x : model.State (types C Q V H T E L)). ends_by until x)
        (resting (aside_state (meaning app) w Looked)) log fault

  -- a call that takes unit after unit ended: it began with a look, took what came next and ended at the first state in which its
  -- test holds; its edits make what shows after it; each live scope is current, or owed a run; the dom stands for what is left
  pub record Went (until : Until) (props : Q) (whole : Bool) (w : model.State (types C Q V H T E L)) (before after : Option (List Edit))
      (d : VirtualDom P C Q V H T E L) (report : Report) : Type 0 where
    pub wrote : List Edit
    pub told : after ≡ grown before wrote
    pub counted : length wrote ≡ report.edits
    pub last : replay.Machine (types C Q V H T E L)
    pub ran : RanBy (meaning d.app) (limits_of d.limits) w until (map entry_of report.log) (map edit_of wrote) last
    pub holds : HoldsBy d.app d.limits props whole w until (map entry_of report.log) (map edit_of wrote) last
    pub silent : SilentBy until wrote
    pub still : StillBy until w (left_by until last.state)
    -- after whatever edits carried what was drawn, each number that its edits carry is that of a hidden node that is shown again, or one
    -- that no edit carried before
    pub carries :
        CarriesOn (meaning d.app) w (resting (aside_state (meaning d.app) w Looked)) (map entry_of report.log) (map edit_of wrote)
        (left_by until last.state)
    pub enabled : report.default_enabled ≡ true
    pub stands : Stands meaning props whole (left_by until last.state) d

  -- its units were spent: its edits make what shows, each live scope is current or owed a run, and the dom stands for what is left
  pub record Spent (props : Q) (whole : Bool) (w : model.State (types C Q V H T E L)) (log : List replay.Entry) (wrote : List Edit)
      (d : VirtualDom P C Q V H T E L) : Type 0 where
    pub last : replay.Machine (types C Q V H T E L)
    pub holds : SpentHolds (meaning d.app) (limits_of d.limits) props whole w (map edit_of wrote) last
    -- its edits carry what those of a call that ended carry
    pub carries :
        CarriesOn (meaning d.app) w (resting (aside_state (meaning d.app) w Looked)) log (map edit_of wrote) (at_rest last.state)
    pub stands : Stands meaning props whole (at_rest last.state) d

  -- it came to a fault of the definitions, with what the sink took of it
  pub record Stopped (until : Until) (props : Q) (whole : Bool) (w : model.State (types C Q V H T E L)) (before after : Option (List Edit))
      (d : VirtualDom P C Q V H T E L) (fault : model.Fault) : Type 0 where
    pub wrote : List Edit
    pub told : after ≡ grown before wrote
    pub log : List replay.Entry
    pub stopped : StoppedBy (meaning d.app) (limits_of d.limits) w until log (map edit_of wrote) fault
    pub silent : SilentBy until wrote
    pub comes_to : ComesBy d.app d.limits props whole w until log fault
    pub spent : (units : ℕ) → fault ≡ model.OutOfTurns units → Spent props whole w log wrote d

  -- by what is answered
  abbrev pub RunsAs :
      Until → Q → Bool → model.State (types C Q V H T E L) → Option (List Edit) → Option (List Edit) → VirtualDom P C Q V H T E L
      → Result Report DomFault → Type 0
  RunsAs until props whole w before after new (Ok report) = Went until props whole w before after new report
  RunsAs until props whole w before after new (Err (refusals.Run what)) =
      ((fault : model.Fault) → fault_of what ≡ Some fault → Stopped until props whole w before after new fault)
      × (fault_of what ≡ None → CallBroke (meaning new.app) (limits_of new.limits) w until before after (PartOf what))
  RunsAs until props whole w before after new (Err other) = Unit {0}

  -- a call that takes unit after unit, of a dom that stands for a state
  abbrev pub Runs :
      Until → Option (List Edit) → Option (List Edit) → VirtualDom P C Q V H T E L → VirtualDom P C Q V H T E L
      → Result Report DomFault → Type 0
  Runs until before after old new result =
      (props : Q) (whole : Bool) (w : model.State (types C Q V H T E L)) → Stands meaning props whole w old
      → RunsAs until props whole w before after new result

  -- a build over a list of what is written: it is that list
  abbrev pub BuildsToList :
      {M : Type 0} → (M → Option (List Edit)) → VirtualDom P C Q V H T E L → VirtualDom P C Q V H T E L → Result M DomFault → Type 0
  BuildsToList taken old new (Ok list) = (report : Report) × Builds (Some []) (taken list) old new (Ok report)
  BuildsToList taken old new (Err fault) = (after : Option (List Edit)) × Builds (Some []) after old new (Err fault)

  -- a dom that was made and built in one: what it wrote went nowhere
  pub record Prebuilt (app : P) (props : Q) (limits : Limits) (d : VirtualDom P C Q V H T E L) : Type 0 where
    pub report : Report
    pub built : Built props replay.ones [] None None d report
    pub owned : d.app ≡ app
    pub limited : d.limits ≡ limits

  -- making and building one came to a fault of the definitions: that of the build
  abbrev pub PrebuiltStopped : P → Limits → Q → Fault → Type 0
  PrebuiltStopped app limits props what =
      (fault : model.Fault) → fault_of what ≡ Some fault
      → CutFrom (meaning app) (limits_of limits) (replay.start_with (meaning app) props replay.ones [] []) None None fault
      × ((units : ℕ) → fault ≡ model.OutOfTurns units → ⊥)

  -- after a call that settles, where no suspended render has passed over anything, each output is current, and a boundary shows its
  -- fallback exactly while a live task holds it
  abbrev pub Settled : VirtualDom P C Q V H T E L → VirtualDom P C Q V H T E L → Result Report DomFault → Type 0
  Settled old new result =
      (props : Q) (w : model.State (types C Q V H T E L)) → Stands meaning props true w old
      → IfOk result (λ report.
      (v : model.State (types C Q V H T E L)) × Stands meaning props true (at_rest v) new × AllCurrent (meaning new.app) v × AllHeldShown v)

  -- which bodies a whole render ran, by its log
  pub record BodiesRan (app : Application (types C Q V H T E L)) (w : model.State (types C Q V H T E L)) (log : List replay.Entry) :
      Type 0 where
    -- where no task was polled after the first rerun no scope's body ran twice
    pub once : NoneAfterRerun log → NoBodyTwice log
    -- and the scopes seen when the first rerun was taken were rerun in their order, but for those removed or fed before their turn
    pub reruns : NoneAfterRerun log → RerunsTheSeen app (call_begun (resting w)) log
    -- every body that ran without its scope being rerun was made, or fed what memoize refuses
    pub others : OthersMadeOrFed app (call_begun (resting w)) log

  -- so a whole render runs bodies
  abbrev pub RunsOnce : VirtualDom P C Q V H T E L → VirtualDom P C Q V H T E L → Result Report DomFault → Type 0
  RunsOnce old new result =
      (props : Q) (whole : Bool) (w : model.State (types C Q V H T E L)) → Stands meaning props whole w old
      → IfOk result (λ report. BodiesRan (meaning new.app) w (map entry_of report.log))

  -- a whole render over a list of what is written: it is that list, and bodies ran as the report tells
  abbrev pub RendersToList :
      {M : Type 0} → (M → Option (List Edit)) → VirtualDom P C Q V H T E L → VirtualDom P C Q V H T E L → Result M DomFault → Type 0
  RendersToList taken old new (Ok list) =
      (report : Report) × Runs Renders (Some []) (taken list) old new (Ok report) × RunsOnce old new (Ok report)
  RendersToList taken old new (Err fault) = (after : Option (List Edit)) × Runs Renders (Some []) after old new (Err fault)
