-- Finished reports as a test that computes, and what the test says: the headline, or the way to a fault.
use Rattle.std.specs.Prelude.{ℕ, Bool, true, false, ◌&&◌, ◌||◌, not, List, [], ◌∷◌, ◌++◌, length, Option, Some, ◌≡◌, is_some}
use Rattle.rt_model.specs.Lists.{at, joined}
use Rattle.rt_model.specs.Tree.{Types, is_suspense_boundary}
use Rattle.rt_model.specs.World.{Application}
use Rattle.rt_model.specs.Laws.{Tests}
use Rattle.rt_model.specs.State.{FallbackSide, Fault, Scope, State, is_side, is_held}
use Rattle.rt_model.specs.Document.{Edit, Empty}
use Rattle.rt_model.specs.Replay.{Entry, Input, Machine, replay_on, start}
use Rattle.rt_model.specs.Told.{Told, Telling, is_unit, is_body, count_entries, is_settled, tell_reports, tell_log, telling, edits_of, all_shown}
use Rattle.rt_model.specs.Current.{all_current}
use Rattle.rt_model.specs.Causes.{Limits, IsValid, refusal, replay_within, edits_at_refusal}
use Rattle.rt_model.specs.Reports.{Report}
use Rattle.rt_model.specs.Headline.{last_machine, Headline, CameTo}
use Rattle.rt_model.specs.Ran.{Ran}
use Rattle.rt_model.specs.Openings.{one_each, one_each_then}

-- equal truths
abbrev pub same_truth : Bool → Bool → Bool
same_truth true b = b
same_truth false b = not b

module _ {K : Types} where
  -- what a report says of its log, its edits and the state after it
  abbrev pub report_of : List Entry → Told K → Report
  report_of log told =
      record {
        log = log;
        units = count_entries is_unit log;
        bodies = count_entries is_body log;
        edits = length told.edits;
        default_enabled = told.machine.default_enabled;
      }

  -- the reports of logs
  abbrev pub reports_of : List (List Entry) → List (Told K) → List Report
  reports_of [] told = []
  reports_of (log ∷ logs) [] = []
  reports_of (log ∷ logs) (r ∷ rs) = report_of log r ∷ reports_of logs rs

  -- the test that the tasks of holders are live
  abbrev pub live_holders : State K → List (ℕ × ℕ) → Bool
  live_holders w [] = true
  live_holders w (h ∷ hs) = is_some (at w.tasks h.0) && live_holders w hs

  -- the test that a boundary shows its fallback just while it is held, by live tasks
  abbrev pub held_is_shown : State K → Scope K → Bool
  held_is_shown w x =
      (not (is_suspense_boundary x.component) || same_truth (is_side x.shows FallbackSide) (is_held x)) && live_holders w x.holders

  -- the test of these scopes
  abbrev pub held_among : State K → List (ℕ × Scope K) → Bool
  held_among w [] = true
  held_among w (e ∷ es) = held_is_shown w e.1 && held_among w es

  -- of every boundary after each report
  abbrev pub each_held : List (Told K) → Bool
  each_held [] = true
  each_held (r ∷ rs) = held_among r.machine.state r.machine.state.scopes && each_held rs

module _ {K : Types} (app : Application K) where
  -- every kept output is current after each report
  abbrev pub each_current : List (Told K) → Bool
  each_current [] = true
  each_current (r ∷ rs) = all_current app r.machine.state && each_current rs

  -- after each report the document is what shows, nothing is owed, all is current, and what is held shows its fallback
  abbrev pub is_finished : List (Told K) → Bool
  is_finished told = all_shown Empty told && each_current told && each_held told

  -- the application's tests decide
  pub record TestsDecide : Type 0 where
    pub components : Tests K.Component app.same_component
    pub props : Tests K.Props app.same_props
    pub handlers : Tests K.Handler app.same_handler

  -- reports that pass the test, of logs within the limits, keep the headline
  abbrev pub FinishedIsHeadline : Type 0
  FinishedIsHeadline =
      TestsDecide
      → (props : K.Props) (inputs : List (Input K)) (limits : Limits) (logs : List (List Entry)) (told : List (Told K))
      → tell_reports app (start app props inputs) logs ≡ Some told
      → one_each inputs logs ≡ true
      → is_finished told ≡ true
      → is_some (replay_within app limits (Some (start app props inputs)) (joined logs)) ≡ true
      → Headline app props inputs limits (Some (joined (edits_of told))) (reports_of logs told)

  -- reports that pass the test, and a log from there on within the limits, come to the fault of the refusal
  abbrev pub FinishedComesTo : Type 0
  FinishedComesTo =
      TestsDecide
      → (props : K.Props) (inputs : List (Input K)) (limits : Limits) (logs : List (List Entry)) (log : List Entry)
      → (told : List (Told K)) (last : Telling K) (fault : Fault)
      → tell_reports app (start app props inputs) logs ≡ Some told
      → one_each_then inputs logs log ≡ true
      → is_finished told ≡ true
      → tell_log app (Some (telling (last_machine (start app props inputs) told))) log ≡ Some last
      → is_some (replay_within app limits (Some (start app props inputs)) (joined logs ++ log)) ≡ true
      → refusal limits last.machine ≡ Some fault
      → CameTo app props inputs limits (Some (joined (edits_of told) ++ edits_at_refusal app limits last)) (reports_of logs told) fault

  -- reports are told exactly of logs that replay accepts, one after another, and lead to the same replay
  abbrev pub ToldIsReplayed : Type 0
  ToldIsReplayed =
      (m : Machine K) (logs : List (List Entry))
      → ((told : List (Told K)) → tell_reports app m logs ≡ Some told → replay_on app (Some m) (joined logs) ≡ Some (last_machine m told))
      ×
      ((v : Machine K) → replay_on app (Some m) (joined logs) ≡ Some v → (told : List (Told K)) × (tell_reports app m logs ≡ Some told))

  -- a session that comes to a fault has no valid inputs
  abbrev pub FaultIsInvalid : Type 0
  FaultIsInvalid =
      (props : K.Props) (inputs : List (Input K)) (limits : Limits) (taken : Option (List Edit)) (reports : List Report) (fault : Fault)
      → CameTo app props inputs limits taken reports fault
      → IsValid app props inputs limits
      → ⊥

  -- where a log goes on within the limits until nothing is at work, nothing is owed and no input is left, the inputs are valid
  abbrev pub DoneIsValid : Type 0
  DoneIsValid =
      (props : K.Props) (inputs : List (Input K)) (limits : Limits) (log : List Entry) (m : Machine K)
      → replay_within app limits (Some (start app props inputs)) log ≡ Some m
      → m.built ≡ true
      → is_settled m ≡ true
      → m.inputs ≡ []
      → IsValid app props inputs limits

  -- the inputs of a session that finished are valid
  abbrev pub RanIsValid : Type 0
  RanIsValid =
      (props : K.Props) (inputs : List (Input K)) (limits : Limits) (taken : Option (List Edit)) (reports : List Report)
      → Ran app props inputs limits taken reports
      → IsValid app props inputs limits

  -- a session comes to one fault at most
  abbrev pub OneFault : Type 0
  OneFault =
      (props : K.Props) (inputs : List (Input K)) (limits : Limits) (taken also : Option (List Edit)) (reports others : List Report)
      (fault other : Fault)
      → CameTo app props inputs limits taken reports fault
      → CameTo app props inputs limits also others other
      → fault ≡ other
