-- Where nothing is owed only an input is due, so the logs of finished sessions end at the same entries.
use Rattle.std.proofs.Common.{ℕ, ◌+◌, Bool, true, false, ◌&&◌, not, List, [], ◌∷◌, ◌≡◌, refl, sym, ap, ◌∙◌, subst}
use Rattle.std.specs.Prelude.{Option, Some, None, if◌then◌else◌, is_some, length}
use Rattle.std.specs.List.{AllByRecursion}
use Rattle.rt_lemmas.proofs.Options.{some_same as the_same, not_some as none_of}
use Rattle.rt_lemmas.proofs.Bools.{none_counted as no_more}
use Rattle.rt_model.specs.Tree.{Types}
use Rattle.rt_model.specs.World.{Application}
use Rattle.rt_model.specs.State.{Fault, Item}
use Rattle.rt_model.specs.Heard.{Listener}
use Rattle.rt_model.specs.Next.{Work, next, owes}
use Rattle.rt_model.specs.Replay.{Entry, Build, Taken, Input, Machine, if_live, no_work, no_listener, waiting, due_item, due_heard, due_work, due, is_due, step, is_quiet, replay_on, start}
use Rattle.rt_model.specs.Told.{Told, Telling, telling, told_by, is_unit, is_body, count_entries, is_settled, tell_log, tell_reports}
use Rattle.rt_model.specs.Reports.{Report, logs_of, is_opening, OpensWith, InputsFrom, OneEach, Counts, AllCount}
use Rattle.rt_model.specs.Finished.{report_of, reports_of}
use Rattle.rt_model.proofs.Conjunctions.{and-left, and-right}
use Rattle.rt_model.proofs.OneLogOnly.{same_entry-true, is_due-same, fork}
use Rattle.rt_model.proofs.ToldReplayed.{first-of, log-replays}
use Rattle.law_lasting.specs.OneFinish.{OneFinish, RowsAreSessions}

module _ {K : Types} (app : Application K) where
  no_items : (items : List (Item K)) → no_work items ≡ true → items ≡ []
  no_items [] h = refl
  no_items (i ∷ rest) h = cc

  no_listeners : (ls : List (Listener K)) → no_listener ls ≡ true → ls ≡ []
  no_listeners [] h = refl
  no_listeners (l ∷ ls) h = cc

  -- what is due of a state that owes nothing
  abbrev due_idly : Machine K → Bool → List (Input K) → Option Entry
  due_idly m built inputs = if_live m.state (if built then due_work app m None inputs else Some Build)

  opens_idly : (m : Machine K) (built : Bool) (inputs : List (Input K)) (e : Entry) → is_due app (due_idly m built inputs) e ≡ true → is_opening e ≡ true
  opens_idly m false inputs e h = sym (ap (λ (x : Entry). is_opening x) (same_entry-true Build e h))
  opens_idly m true [] e h = cc
  opens_idly m true (input ∷ inputs) e h = sym (ap (λ (x : Entry). is_opening x) (same_entry-true (Taken (m.taken + 1)) e h))

  due_settled : (m : Machine K) → is_settled m ≡ true → due app m ≡ due_idly m m.built m.inputs
  due_settled m h =
      let quiet : is_quiet m ≡ true = and-left (is_quiet m) (not (owes m.state)) h in
      let front : not (is_some m.dead) && no_work m.work ≡ true = and-left (not (is_some m.dead) && no_work m.work) (no_listener (waiting m)) quiet in
      let alive : m.dead ≡ None = none_of m.dead (and-left (not (is_some m.dead)) (no_work m.work) front) in
      let idle : m.work ≡ [] = no_items m.work (and-right (not (is_some m.dead)) (no_work m.work) front) in
      let silent : waiting m ≡ [] = no_listeners (waiting m) (and-right (not (is_some m.dead) && no_work m.work) (no_listener (waiting m)) quiet) in
      let none : next m.state ≡ None = none_of (next m.state) (and-right (is_quiet m) (not (owes m.state)) h) in
      ap (λ (o : Option Fault). if_live m.state (elim o as (λ z. Option Entry) [ None ↦ (if m.built then due_item app m m.work else Some Build) | Some fault ↦ None ])) alive
      ∙ ap (λ (items : List (Item K)). if_live m.state (if m.built then due_item app m items else Some Build)) idle
      ∙ ap (λ (ls : List (Listener K)). if_live m.state (if m.built then due_heard app m ls else Some Build)) silent
      ∙ ap (λ (o : Option Work). if_live m.state (if m.built then due_work app m o m.inputs else Some Build)) none

  -- where nothing is owed an entry that is due opens a report
  opens_next : (m : Machine K) (e : Entry) → is_settled m ≡ true → is_due app (due app m) e ≡ true → is_opening e ≡ true
  opens_next m e h is = opens_idly m m.built m.inputs e (sym (ap (λ (o : Option Entry). is_due app o e) (due_settled m h)) ∙ is)

  -- so no log goes on from there without one
  goes_on_not : (m u : Machine K) (f : Entry) (fs : List Entry) → is_settled m ≡ true → replay_on app (Some m) (f ∷ fs) ≡ Some u → count_entries is_opening (f ∷ fs) ≡ 0 → ⊥
  goes_on_not m u f fs h accepted none =
      let due_is = fork app (is_due app (due app m) f) (step app m f) fs u accepted in
      let opens : is_opening f ≡ true = opens_next m f h due_is.0 in
      let other : is_opening f ≡ false = (no_more (is_opening f) (count_entries is_opening fs) none).0 in
      let absurdity : true ≡ false = sym opens ∙ other in
      cc

  same_rest : (log other : List Entry) (m v u : Machine K) → replay_on app (Some m) log ≡ Some v → replay_on app (Some m) other ≡ Some u
      → is_settled v ≡ true
      → is_settled u ≡ true
      → count_entries is_opening log ≡ 0
      → count_entries is_opening other ≡ 0
      → log ≡ other
  same_rest [] [] m v u first second ends also none bare = refl
  same_rest [] (f ∷ fs) m v u first second ends also none bare =
      let is : m ≡ v = the_same m v first in absurd (goes_on_not m u f fs (subst (λ (x : Machine K). is_settled x ≡ true) (sym is) ends) second bare)
  same_rest (e ∷ es) [] m v u first second ends also none bare =
      let is : m ≡ u = the_same m u second in absurd (goes_on_not m v e es (subst (λ (x : Machine K). is_settled x ≡ true) (sym is) also) first none)
  same_rest (e ∷ es) (f ∷ fs) m v u first second ends also none bare =
      let a = fork app (is_due app (due app m) e) (step app m e) es v first in
      let b = fork app (is_due app (due app m) f) (step app m f) fs u second in
      let heads : e ≡ f = is_due-same app (due app m) e f a.0 b.0 in
      let rest : replay_on app (Some (step app m e)) fs ≡ Some u = subst (λ (x : Entry). replay_on app (Some (step app m x)) fs ≡ Some u) (sym heads) b.1 in
      ap (λ (x : Entry). x ∷ es) heads
      ∙ ap (λ (l : List Entry). f ∷ l)
      (
      same_rest es fs (step app m e) v u a.1 rest ends also
      (no_more (is_opening e) (count_entries is_opening es) none).1
      (no_more (is_opening f) (count_entries is_opening fs) bare).1
      )

  -- the log of one report
  same_log : (first : Entry) (log other : List Entry) (m v u : Machine K) → OpensWith first log → OpensWith first other
      → replay_on app (Some m) log ≡ Some v
      → replay_on app (Some m) other ≡ Some u
      → is_settled v ≡ true
      → is_settled u ≡ true
      → log ≡ other
  same_log first [] other m v u opens too one two ends also = absurd opens
  same_log first (e ∷ es) [] m v u opens too one two ends also = absurd too
  same_log first (e ∷ es) (f ∷ fs) m v u opens too one two ends also =
      let a = fork app (is_due app (due app m) e) (step app m e) es v one in
      let b = fork app (is_due app (due app m) f) (step app m f) fs u two in
      let heads : e ≡ f = opens.0 ∙ sym too.0 in
      let rest : replay_on app (Some (step app m e)) fs ≡ Some u = subst (λ (x : Entry). replay_on app (Some (step app m x)) fs ≡ Some u) (sym heads) b.1 in
      ap (λ (x : Entry). x ∷ es) heads ∙ ap (λ (l : List Entry). f ∷ l) (same_rest es fs (step app m e) v u a.1 rest ends also opens.1 too.1)

  abbrev AllSettled : List (Told K) → Type 0
  AllSettled told = AllByRecursion (λ (r : Told K). is_settled r.machine ≡ true) told

  -- one report after another: where the first logs are one, the later ones begin at one replay
  one_by_one : (first : Entry) (m : Machine K) (log other : List Entry) (logs others : List (List Entry)) (told also : List (Told K))
      → OpensWith first log
      → OpensWith first other
      → tell_reports app m (log ∷ logs) ≡ Some told
      → tell_reports app m (other ∷ others) ≡ Some also
      → AllSettled told
      → AllSettled also
      → ((v : Machine K) (rs ss : List (Told K)) → tell_reports app v logs ≡ Some rs → tell_reports app v others ≡ Some ss → AllSettled rs → AllSettled ss → logs ≡ others)
      → (log ∷ logs) ≡ (other ∷ others)
  one_by_one first m log other logs others told also opens too accepted second ends done later =
      let f = first-of app m log logs told accepted in
      let g = first-of app m other others also second in
      let ends_f : AllSettled (told_by f.0 ∷ f.1) = subst (λ (x : List (Told K)). AllSettled x) (sym f.4) ends in
      let ends_g : AllSettled (told_by g.0 ∷ g.1) = subst (λ (x : List (Told K)). AllSettled x) (sym g.4) done in
      let logs_same : log ≡ other = same_log first log other m (f.0).machine (g.0).machine opens too (log-replays app log (telling m) f.0 f.2) (log-replays app other (telling m) g.0 g.2) ends_f.0 ends_g.0 in
      let ends_same : f.0 ≡ g.0 = the_same f.0 g.0 (sym f.2 ∙ ap (λ (l : List Entry). tell_log app (Some (telling m)) l) logs_same ∙ g.2) in
      let from_f : tell_reports app (f.0).machine others ≡ Some g.1 = subst (λ (t : Telling K). tell_reports app t.machine others ≡ Some g.1) (sym ends_same) g.3 in
      ap (λ (l : List Entry). l ∷ logs) logs_same ∙ ap (λ (ls : List (List Entry)). other ∷ ls) (later (f.0).machine f.1 g.1 f.3 from_f ends_f.1 ends_g.1)

  same_inputs : (k : ℕ) (inputs : List (Input K)) (logs others : List (List Entry)) (m : Machine K) (told also : List (Told K))
      → InputsFrom k inputs logs
      → InputsFrom k inputs others
      → tell_reports app m logs ≡ Some told
      → tell_reports app m others ≡ Some also
      → AllSettled told
      → AllSettled also
      → logs ≡ others
  same_inputs k [] [] [] m told also one two accepted second ends done = refl
  same_inputs k [] [] (o ∷ os) m told also one two accepted second ends done = absurd two
  same_inputs k [] (l ∷ ls) others m told also one two accepted second ends done = absurd one
  same_inputs k (input ∷ inputs) [] others m told also one two accepted second ends done = absurd one
  same_inputs k (input ∷ inputs) (l ∷ ls) [] m told also one two accepted second ends done = absurd two
  same_inputs k (input ∷ inputs) (l ∷ ls) (o ∷ os) m told also one two accepted second ends done =
      one_by_one (Taken k) m l o ls os told also one.0 two.0 accepted second ends done
      (λ v rs ss f g h i. same_inputs (k + 1) inputs ls os v rs ss one.1 two.1 f g h i)

  same_logs : (inputs : List (Input K)) (logs others : List (List Entry)) (m : Machine K) (told also : List (Told K))
      → OneEach inputs logs
      → OneEach inputs others
      → tell_reports app m logs ≡ Some told
      → tell_reports app m others ≡ Some also
      → AllSettled told
      → AllSettled also
      → logs ≡ others
  same_logs inputs [] others m told also one two accepted second ends done = absurd one
  same_logs inputs (l ∷ ls) [] m told also one two accepted second ends done = absurd two
  same_logs inputs (l ∷ ls) (o ∷ os) m told also one two accepted second ends done =
      one_by_one Build m l o ls os told also one.0 two.0 accepted second ends done
      (λ v rs ss f g h i. same_inputs 1 inputs ls os v rs ss one.1 two.1 f g h i)

  -- a report that counts right is the one of its log
  abbrev with_counts : List Entry → ℕ → ℕ → ℕ → Bool → Report
  with_counts log units bodies edits default_enabled = record { log = log; units = units; bodies = bodies; edits = edits; default_enabled = default_enabled }

  report_is : (report : Report) (told : Told K) → Counts report told → report ≡ report_of report.log told
  report_is report told c =
      ap (λ (n : ℕ). with_counts report.log n report.bodies report.edits report.default_enabled) c.units
      ∙ ap (λ (n : ℕ). with_counts report.log (count_entries is_unit report.log) n report.edits report.default_enabled) c.bodies
      ∙ ap (λ (n : ℕ). with_counts report.log (count_entries is_unit report.log) (count_entries is_body report.log) n report.default_enabled) c.edits
      ∙ ap (λ (b : Bool). with_counts report.log (count_entries is_unit report.log) (count_entries is_body report.log) (length told.edits) b) c.default_enabled

  reports_are : (reports : List Report) (told : List (Told K)) → AllCount reports told → reports ≡ reports_of (logs_of reports) told
  reports_are [] [] h = refl
  reports_are [] (r ∷ rs) h = absurd h
  reports_are (report ∷ reports) [] h = absurd h
  reports_are (report ∷ reports) (r ∷ rs) h =
      ap (λ (x : Report). x ∷ reports) (report_is report r h.0)
      ∙ ap (λ (xs : List Report). report_of report.log r ∷ xs) (reports_are reports rs h.1)

  pub rows_are_sessions : RowsAreSessions app
  rows_are_sessions props inputs logs told accepted one settled limits taken reports ran =
      let m : Machine K = start app props inputs in
      let same : logs_of reports ≡ logs =
      same_logs inputs (logs_of reports) logs m ran.told told (ran.done).one_each one (ran.recorded).accepted accepted (ran.recorded).settled settled in
      let tells : ran.told ≡ told = the_same ran.told told (sym (ran.recorded).accepted ∙ ap (λ (ls : List (List Entry)). tell_reports app m ls) same ∙ accepted) in (
        reports_are reports ran.told (ran.recorded).counted
            ∙ ap (λ (ls : List (List Entry)). reports_of ls ran.told) same
            ∙ ap (λ (ts : List (Told K)). reports_of logs ts) tells,
        tells,
      )

  pub one_finish : OneFinish app
  one_finish props inputs limits others taken also reports again one other =
      let is = rows_are_sessions props inputs (logs_of again) other.told (other.recorded).accepted (other.done).one_each (other.recorded).settled limits taken reports one in
      (is.0 ∙ sym (reports_are again other.told (other.recorded).counted), is.1)
