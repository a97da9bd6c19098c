-- Reports that pass the test keep the headline, and a log from there on comes to its fault.
use Rattle.std.proofs.Common.{ℕ, ◌+◌, Bool, true, false, ◌&&◌, ◌||◌, not, List, [], ◌∷◌, ◌++◌, ◌≡◌, refl, sym, ap, ◌∙◌, subst, nat_eq}
use Rattle.std.specs.Prelude.{Option, Some, None, Result, Ok, Err, is_some}
use Rattle.std.specs.List.{AllByRecursion}
use Rattle.std.proofs.lemmas.Bool.{eqb-true}
use Rattle.rt_model.specs.Lists.{at, joined}
use Rattle.rt_model.specs.Tree.{Types, is_suspense_boundary}
use Rattle.rt_model.specs.World.{Application}
use Rattle.rt_model.specs.State.{FallbackSide, Scope, State, is_side, is_held}
use Rattle.rt_model.specs.Replay.{Entry, Build, Taken, Input, Machine, same_entry, replay_on, start}
use Rattle.rt_model.specs.Document.{Forest, Empty, DocFault, document_after}
use Rattle.rt_model.specs.View.{view}
use Rattle.rt_model.specs.Told.{Told, tell_reports, telling, count_entries, is_settled, is_document, document_or, all_shown}
use Rattle.rt_model.specs.Current.{AllCurrent, all_current}
use Rattle.rt_model.specs.Causes.{replay_within}
use Rattle.rt_model.specs.Reports.{logs_of, is_opening, OpensWith, InputsFrom, OneEach, CutFrom, OneEachThen, AllCount}
use Rattle.rt_model.specs.Headline.{DocumentIs, HeldIsShown, AllHeldShown, last_machine, Holds}
use Rattle.rt_model.specs.Openings.{opens_with, inputs_from, one_each, cut_from, one_each_then}
use Rattle.rt_model.specs.Finished.{same_truth, reports_of, live_holders, held_is_shown, held_among, each_held, each_current, is_finished, TestsDecide, FinishedIsHeadline, FinishedComesTo}
use Rattle.rt_model.proofs.Conjunctions.{and-left, and-right}
use Rattle.rt_model.proofs.OneLogOnly.{same_entry-true}
use Rattle.rt_model.proofs.SameEdits.{forest-true}
use Rattle.rt_model.proofs.CurrentDecided.{test_decides_current}
use Rattle.rt_model.proofs.ToldReplayed.{first-of, log-replays, replay-append, reports-replay, within-replays}

-- logs that open as the test says

opens-true : (first : Entry) (log : List Entry) → opens_with first log ≡ true → OpensWith first log
opens-true first [] h = cc
opens-true first (e ∷ log) h = (
  same_entry-true e first (and-left _ (nat_eq (count_entries is_opening log) 0) h),
  eqb-true (count_entries is_opening log) 0 (and-right (same_entry e first) _ h),
)

module _ {K : Types} where
  inputs-true : (k : ℕ) (inputs : List (Input K)) (logs : List (List Entry)) → inputs_from k inputs logs ≡ true → InputsFrom k inputs logs
  inputs-true k [] [] h = tt
  inputs-true k (input ∷ inputs) (log ∷ logs) h =
      (opens-true (Taken k) log (and-left _ (inputs_from (k + 1) inputs logs) h), inputs-true (k + 1) inputs logs (and-right (opens_with (Taken k) log) _ h))
  inputs-true k [] (log ∷ logs) h = cc
  inputs-true k (input ∷ inputs) [] h = cc

  each-true : (inputs : List (Input K)) (logs : List (List Entry)) → one_each inputs logs ≡ true → OneEach inputs logs
  each-true inputs [] h = cc
  each-true inputs (log ∷ logs) h = (opens-true Build log (and-left _ (inputs_from 1 inputs logs) h), inputs-true 1 inputs logs (and-right (opens_with Build log) _ h))

  cut-true : (k : ℕ) (inputs : List (Input K)) (logs : List (List Entry)) (last : List Entry) → cut_from k inputs logs last ≡ true → CutFrom k inputs logs last
  cut-true k (input ∷ inputs) [] last h = opens-true (Taken k) last h
  cut-true k (input ∷ inputs) (log ∷ logs) last h =
      (opens-true (Taken k) log (and-left _ (cut_from (k + 1) inputs logs last) h), cut-true (k + 1) inputs logs last (and-right (opens_with (Taken k) log) _ h))
  cut-true k [] logs last h = cc

  then-true : (inputs : List (Input K)) (logs : List (List Entry)) (last : List Entry) → one_each_then inputs logs last ≡ true → OneEachThen inputs logs last
  then-true inputs [] last h = opens-true Build last h
  then-true inputs (log ∷ logs) last h =
      (opens-true Build log (and-left _ (cut_from 1 inputs logs last) h), cut-true 1 inputs logs last (and-right (opens_with Build log) _ h))

-- a document that edits gave is the one that the test compared it with
document-is : (d : Result Forest DocFault) (shown : Forest) → is_document d shown ≡ true → d ≡ Ok shown
document-is (Ok d) shown h = ap Ok (forest-true d shown h)
document-is (Err fault) shown h = cc

truth-true : (a b : Bool) → same_truth a b ≡ true → a ≡ b
truth-true true true h = refl
truth-true true false h = cc
truth-true false true h = cc
truth-true false false h = refl

either-true : (b t : Bool) → not b || t ≡ true → b ≡ true → t ≡ true
either-true true t h q = h
either-true false t h q = cc

module _ {K : Types} where
  -- the two sentences on what shows, of the reports from one on
  settled-and-shown : (d : Forest) (told : List (Told K)) → all_shown d told ≡ true
      → AllByRecursion (λ (r : Told K). is_settled r.machine ≡ true) told × DocumentIs (Ok d) told
  settled-and-shown d [] h = (tt, tt)
  settled-and-shown d (r ∷ rest) h =
      let after = document_after r.edits d in
      let onwards = document_or (λ e. all_shown e rest) after in
      let front : is_settled r.machine && is_document after (view r.machine.state) ≡ true = and-left _ onwards h in
      let later : onwards ≡ true = and-right (is_settled r.machine && is_document after (view r.machine.state)) onwards h in
      let same = document-is after (view r.machine.state) (and-right (is_settled r.machine) _ front) in
      let ends = settled-and-shown (view r.machine.state) rest (sym (ap (λ (o : Result Forest DocFault). document_or (λ e. all_shown e rest) o) same) ∙ later) in (
        (and-left _ (is_document after (view r.machine.state)) front, ends.0),
        (same, subst (λ (o : Result Forest DocFault). DocumentIs o rest) (sym same) ends.1),
      )

  live-true : (w : State K) (hs : List (ℕ × ℕ)) → live_holders w hs ≡ true → AllByRecursion (λ (h : ℕ × ℕ). is_some (at w.tasks h.0) ≡ true) hs
  live-true w [] q = tt
  live-true w (h ∷ hs) q = (and-left _ (live_holders w hs) q, live-true w hs (and-right (is_some (at w.tasks h.0)) _ q))

  held-true : (w : State K) (x : Scope K) → held_is_shown w x ≡ true → HeldIsShown w x
  held-true w x h =
      let shows = same_truth (is_side x.shows FallbackSide) (is_held x) in
      let front : not (is_suspense_boundary x.component) || shows ≡ true = and-left _ (live_holders w x.holders) h in (
        λ b. truth-true (is_side x.shows FallbackSide) (is_held x) (either-true (is_suspense_boundary x.component) shows front b),
        live-true w x.holders (and-right (not (is_suspense_boundary x.component) || shows) _ h),
      )

  among-true : (w : State K) (es : List (ℕ × Scope K)) → held_among w es ≡ true → AllByRecursion (λ (e : ℕ × Scope K). HeldIsShown w e.1) es
  among-true w [] h = tt
  among-true w (e ∷ es) h = (held-true w e.1 (and-left _ (held_among w es) h), among-true w es (and-right (held_is_shown w e.1) _ h))

  held-all : (told : List (Told K)) → each_held told ≡ true → AllByRecursion (λ (r : Told K). AllHeldShown r.machine.state) told
  held-all [] h = tt
  held-all (r ∷ rest) h =
      let w = r.machine.state in (among-true w w.scopes (and-left _ (each_held rest) h), held-all rest (and-right (held_among w w.scopes) _ h))

module _ {K : Types} (app : Application K) where
  -- the logs of reports that are told are the logs
  logs-are : (m : Machine K) (logs : List (List Entry)) (told : List (Told K)) → tell_reports app m logs ≡ Some told → logs_of (reports_of logs told) ≡ logs
  logs-are m [] told h = refl
  logs-are m (log ∷ logs) told h =
      let f = first-of app m log logs told h in
      ap (λ (x : List (Told K)). logs_of (reports_of (log ∷ logs) x)) (sym f.4) ∙ ap (λ (l : List (List Entry)). log ∷ l) (logs-are (f.0).machine logs f.1 f.3)

  none-told : (told : List (Told K)) → Some [] ≡ Some told → [] ≡ told
  none-told told h = cc

  -- and they count right
  count-all : (m : Machine K) (logs : List (List Entry)) (told : List (Told K)) → tell_reports app m logs ≡ Some told → AllCount (reports_of logs told) told
  count-all m [] told h = subst (λ (x : List (Told K)). AllCount [] x) (none-told told h) tt
  count-all m (log ∷ logs) told h =
      let f = first-of app m log logs told h in
      subst (λ (x : List (Told K)). AllCount (reports_of (log ∷ logs) x) x) f.4
      (record { units = refl; bodies = refl; edits = refl; default_enabled = refl }, count-all (f.0).machine logs f.1 f.3)

  module _ (tests : TestsDecide app) where
    current-all : (told : List (Told K)) → each_current app told ≡ true → AllByRecursion (λ (r : Told K). AllCurrent app r.machine.state) told
    current-all [] h = tt
    current-all (r ∷ rest) h =
        let decides = test_decides_current app tests.components tests.props tests.handlers r.machine.state in
        (decides.0 (and-left _ (each_current app rest) h), current-all rest (and-right (all_current app r.machine.state) _ h))

    holds : (props : K.Props) (inputs : List (Input K)) (logs : List (List Entry)) (told : List (Told K))
        → tell_reports app (start app props inputs) logs ≡ Some told
        → is_finished app told ≡ true
        → Holds app props inputs (reports_of logs told) told
    holds props inputs logs told e h =
        let m = start app props inputs in
        let front : all_shown Empty told && each_current app told ≡ true = and-left _ (each_held told) h in
        let shows = settled-and-shown Empty told (and-left _ (each_current app told) front) in
        record {
          recorded =
              record {
                accepted = ap (λ (l : List (List Entry)). tell_reports app m l) (logs-are m logs told e) ∙ e;
                counted = count-all m logs told e;
                settled = shows.0;
              };
          shown = shows.1;
          current = current-all told (and-right (all_shown Empty told) _ front);
          held = held-all told (and-right (all_shown Empty told && each_current app told) _ h);
        }

  some-in : (o : Option (Machine K)) → is_some o ≡ true → (v : Machine K) × (o ≡ Some v)
  some-in None h = cc
  some-in (Some v) h = (v, refl)

  same-some : (v u : Machine K) (o : Option (Machine K)) → o ≡ Some v → o ≡ Some u → Some v ≡ Some u
  same-some v u o p q = sym p ∙ q

  pub finished_is_headline : FinishedIsHeadline app
  finished_is_headline tests props inputs limits logs told e each h within =
      let m = start app props inputs in
      let logs_is : logs_of (reports_of logs told) ≡ logs = logs-are m logs told e in
      let v = some-in (replay_within app limits (Some m) (joined logs)) within in
      let end : Some v.0 ≡ Some (last_machine m told) =
      same-some v.0 (last_machine m told) (replay_on app (Some m) (joined logs)) (within-replays app limits (joined logs) m v.0 v.1) (reports-replay app m logs told e) in
      record {
        told = told;
        holds = holds tests props inputs logs told e h;
        done =
            record {
              one_each = subst (λ (l : List (List Entry)). OneEach inputs l) (sym logs_is) (each-true inputs logs each);
              within = ap (λ (l : List (List Entry)). replay_within app limits (Some m) (joined l)) logs_is ∙ v.1 ∙ end;
              edits = refl;
            };
      }

  pub finished_comes_to : FinishedComesTo app
  finished_comes_to tests props inputs limits logs log told last fault e each h on within cause =
      let m = start app props inputs in
      let logs_is : logs_of (reports_of logs told) ≡ logs = logs-are m logs told e in
      let v = some-in (replay_within app limits (Some m) (joined logs ++ log)) within in
      let way : replay_on app (Some m) (joined logs ++ log) ≡ Some last.machine =
      replay-append app (joined logs) log (Some m)
      ∙ ap (λ (o : Option (Machine K)). replay_on app o log) (reports-replay app m logs told e)
      ∙ log-replays app log (telling (last_machine m told)) last on in
      let end : Some v.0 ≡ Some last.machine = same-some v.0 last.machine (replay_on app (Some m) (joined logs ++ log)) (within-replays app limits (joined logs ++ log) m v.0 v.1) way in
      record {
        told = told;
        holds = holds tests props inputs logs told e h;
        stopped =
            record {
              log = log;
              one_each = subst (λ (l : List (List Entry)). OneEachThen inputs l log) (sym logs_is) (then-true inputs logs log each);
              last = last;
              goes_on = on;
              within = ap (λ (l : List (List Entry)). replay_within app limits (Some m) (joined l ++ log)) logs_is ∙ v.1 ∙ end;
              cause = cause;
              edits = refl;
            };
      }
