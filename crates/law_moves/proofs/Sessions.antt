-- One report after another, and what a session comes to.
use Rattle.std.proofs.Common.{◌+◌, true, ◌&&◌, not, List, [], ◌∷◌, ◌++◌, ◌≡◌, refl, sym, ap, ◌∙◌, append_assoc}
use Rattle.std.proofs.lemmas.List.{append-nil}
use Rattle.std.specs.Prelude.{Option, Some, None, is_some}
use Rattle.std.specs.List.{AllByRecursion}
use Rattle.rt_model.specs.Lists.{joined}
use Rattle.rt_model.specs.Tree.{Types}
use Rattle.rt_model.specs.World.{Application}
use Rattle.rt_model.specs.State.{Fault}
use Rattle.rt_model.specs.Next.{Work, next, owes}
use Rattle.rt_model.specs.Heard.{Listener}
use Rattle.rt_model.specs.Replay.{Entry, Input, Machine, waiting, no_listener, start}
use Rattle.rt_model.specs.Document.{Edit}
use Rattle.rt_model.specs.Causes.{Limits, replay_within}
use Rattle.rt_model.specs.Told.{Told, Telling, is_settled, edits_of, telling, told_by, tell_log, tell_report, tell_on, one_more, tell_reports}
use Rattle.rt_model.specs.Reports.{Report, logs_of, OneEach, OneEachThen, Counts, AllCount}
use Rattle.rt_model.specs.Headline.{last_machine}
use Rattle.rt_model.specs.Ran.{Ran, RanTo}
use Rattle.law_moves.proofs.Ways.{start_reached as way_start}
use Rattle.law_moves.specs.Moves.{AtRest}
use Rattle.law_moves.proofs.Joins.{logs_join}
use Rattle.law_moves.specs.Underway.{Rests, Refused}
use Rattle.law_moves.specs.Sessions.{Sofar}
use Rattle.law_moves.proofs.Begins.{rest_is}

logs_more : (reports : List Report) (report : Report) → logs_of (reports ++ report ∷ []) ≡ logs_of reports ++ report.log ∷ []
logs_more [] report = refl
logs_more (r ∷ reports) report = ap (λ (logs : List (List Entry)). r.log ∷ logs) (logs_more reports report)

pub joined_more : {A : Type 0} (xss : List (List A)) (xs : List A) → joined (xss ++ xs ∷ []) ≡ joined xss ++ xs
joined_more [] xs = append-nil xs
joined_more (ys ∷ xss) xs = ap (λ (l : List _). ys ++ l) (joined_more xss xs) ∙ sym (append_assoc ys (joined xss) xs)

module _ {K : Types} where
  edits_more : (told : List (Told K)) (r : Told K) → edits_of (told ++ r ∷ []) ≡ edits_of told ++ r.edits ∷ []
  edits_more [] r = refl
  edits_more (t ∷ told) r = ap (λ (es : List (List Edit)). t.edits ∷ es) (edits_more told r)

  last_more : (m : Machine K) (told : List (Told K)) (r : Told K) → last_machine m (told ++ r ∷ []) ≡ r.machine
  last_more m [] r = refl
  last_more m (t ∷ told) r = last_more t.machine told r

  count_more : (reports : List Report) (told : List (Told K)) (report : Report) (r : Told K) → AllCount reports told → Counts report r → AllCount (reports ++ report ∷ []) (told ++ r ∷ [])
  count_more [] [] report r all one = (one, tt)
  count_more [] (t ∷ told) report r all one = absurd all
  count_more (x ∷ reports) [] report r all one = absurd all
  count_more (x ∷ reports) (t ∷ told) report r all one = (all.0, count_more reports told report r all.1 one)

  settled_more : (told : List (Told K)) (r : Told K) → AllByRecursion (λ (t : Told K). is_settled t.machine ≡ true) told → is_settled r.machine ≡ true → AllByRecursion (λ (t : Told K). is_settled t.machine ≡ true) (told ++ r ∷ [])
  settled_more [] r all one = (one, tt)
  settled_more (t ∷ told) r all one = (all.0, settled_more told r all.1 one)

  -- at rest, where no listener waits and nothing is owed, a machine is settled
  pub rest_owes_none : (m : Machine K) → AtRest m → m.built ≡ true → waiting m ≡ [] → next m.state ≡ None → is_settled m ≡ true
  rest_owes_none m h built quiet none =
      ap (λ (x : Machine K). is_settled x) (rest_is m h built)
      ∙ ap (λ (ls : List (Listener K)). no_listener ls && not (owes m.state)) quiet
      ∙ ap (λ (o : Option Work). not (is_some o)) none

module _ {K : Types} (app : Application K) where
  -- the reports before another one are told, and then it is
  abbrev Adds : List (List Entry) → List Entry → Told K → Type 0
  Adds logs log r =
      (m : Machine K) (told : List (Told K))
      → tell_reports app m logs ≡ Some told
      → tell_report app (last_machine m told) log ≡ Some r
      → tell_reports app m (logs ++ log ∷ []) ≡ Some (told ++ r ∷ [])

  abbrev the_told : Option (List (Told K)) → List (Told K)
  the_told None = []
  the_told (Some rs) = rs

  by_rest : (logs : List (List Entry)) (log l : List Entry) (r t : Told K) (o : Option (List (Told K))) → Adds logs log r → (m : Machine K) (told : List (Told K))
      → tell_report app (last_machine m told) log ≡ Some r
      → tell_report app m l ≡ Some t
      → tell_reports app t.machine logs ≡ o
      → one_more app t o ≡ Some told
      → tell_reports app m ((l ∷ logs) ++ log ∷ []) ≡ Some (told ++ r ∷ [])
  by_rest logs log l r t None go m told then_on h rest all = cc
  by_rest logs log l r t (Some rs) go m told then_on h rest all =
      let same : t ∷ rs ≡ told = ap (λ (o : Option (List (Told K))). the_told o) all in
      let from : tell_report app (last_machine t.machine rs) log ≡ Some r = ap (λ (xs : List (Told K)). tell_report app (last_machine m xs) log) same ∙ then_on in
      ap (λ (o : Option (Told K)). tell_on app (λ v. tell_reports app v (logs ++ log ∷ [])) o) h
      ∙ ap (λ (o : Option (List (Told K))). one_more app t o) (go t.machine rs rest from)
      ∙ ap (λ (xs : List (Told K)). Some (xs ++ r ∷ [])) same

  by_first : (logs : List (List Entry)) (log l : List Entry) (r : Told K) (o : Option (Told K)) → Adds logs log r → (m : Machine K) (told : List (Told K))
      → tell_report app (last_machine m told) log ≡ Some r
      → tell_report app m l ≡ o
      → tell_on app (λ v. tell_reports app v logs) o ≡ Some told
      → tell_reports app m ((l ∷ logs) ++ log ∷ []) ≡ Some (told ++ r ∷ [])
  by_first logs log l r None go m told then_on h all = cc
  by_first logs log l r (Some t) go m told then_on h all = by_rest logs log l r t (tell_reports app t.machine logs) go m told then_on h refl all

  told_more : (logs : List (List Entry)) (log : List Entry) (r : Told K) → Adds logs log r
  told_more [] log r m told first then_on =
      let none : [] ≡ told = ap (λ (o : Option (List (Told K))). the_told o) first in
      let from : tell_report app m log ≡ Some r = ap (λ (rs : List (Told K)). tell_report app (last_machine m rs) log) none ∙ then_on in
      ap (λ (o : Option (Told K)). tell_on app (λ v. tell_reports app v []) o) from ∙ ap (λ (rs : List (Told K)). Some (rs ++ r ∷ [])) none
  told_more (l ∷ logs) log r m told first then_on =
      by_first logs log l r (tell_report app m l) (told_more logs log r) m told then_on refl
      (ap (λ (o : Option (Told K)). tell_on app (λ v. tell_reports app v logs) o) refl ∙ first)

module _ {K : Types} (app : Application K) (limits : Limits) (props : K.Props) (inputs : List (Input K)) where
  -- no report yet
  pub sofar_none : Sofar app limits props inputs [] [] (start app props inputs)
  sofar_none =
      record {
        told = [];
        accepted = refl;
        within = refl;
        counted = tt;
        settled = tt;
        edits_are = refl;
        ends = refl;
        reached = way_start app limits props inputs;
      }

  -- what is told of a report that is done
  pub report_told : (from m : Machine K) (log : List Entry) (edits : List Edit) → Rests app limits props inputs from log edits m
      → tell_report app from log ≡ Some (record { edits = edits; machine = m })
  report_told from m log edits s =
      ap (λ (o : Option (Telling K)). elim o as (λ z. Option (Told K)) [ None ↦ None | Some t ↦ Some (told_by t) ]) s.so.told

  -- one more report
  pub sofar_more : (reports : List Report) (edits more : List Edit) (from m : Machine K) (report : Report)
      → Sofar app limits props inputs reports edits from
      → Rests app limits props inputs from report.log more m
      → is_settled m ≡ true
      → Counts report (record { edits = more; machine = m })
      → Sofar app limits props inputs (reports ++ report ∷ []) (edits ++ more) m
  sofar_more reports edits more from m report s r settled counts =
      let first : Machine K = start app props inputs in
      let told : Told K = record { edits = more; machine = m } in
      let logs : List (List Entry) = logs_of reports in
      record {
        told = s.told ++ told ∷ [];
        accepted =
            ap (λ (ls : List (List Entry)). tell_reports app first ls) (logs_more reports report)
            ∙ told_more app logs report.log told first s.told s.accepted (ap (λ (x : Machine K). tell_report app x report.log) s.ends ∙ report_told from m report.log more r);
        within =
            ap (λ (ls : List (List Entry)). replay_within app limits (Some first) (joined ls)) (logs_more reports report)
            ∙ ap (λ (l : List Entry). replay_within app limits (Some first) l) (joined_more logs report.log)
            ∙ (logs_join app limits (joined logs) report.log).0 first from s.within
            ∙ r.so.accepted;
        counted = count_more reports s.told report told s.counted counts;
        settled = settled_more s.told told s.settled settled;
        edits_are =
            ap (λ (es : List (List Edit)). joined es) (edits_more s.told told)
            ∙ joined_more (edits_of s.told) more
            ∙ ap (λ (es : List Edit). es ++ more) s.edits_are;
        ends = last_more first s.told told;
        reached = r.reached;
      }

  -- a session that finished
  pub sofar_ran : (reports : List Report) (edits : List Edit) (m : Machine K)
      → Sofar app limits props inputs reports edits m
      → OneEach inputs (logs_of reports)
      → Ran app props inputs limits (Some edits) reports
  sofar_ran reports edits m s one_each =
      record {
        told = s.told;
        recorded = record { accepted = s.accepted; counted = s.counted; settled = s.settled };
        done = record { one_each = one_each; within = s.within ∙ ap Some (sym s.ends); edits = sym s.edits_are };
      }

  -- a session that came to a fault
  pub sofar_ran_to : (reports : List Report) (edits more : List Edit) (from : Machine K) (log : List Entry) (fault : Fault)
      → Sofar app limits props inputs reports edits from
      → Refused app limits props inputs from log more fault
      → OneEachThen inputs (logs_of reports) log
      → RanTo app props inputs limits (Some (edits ++ more)) reports fault
  sofar_ran_to reports edits more from log fault s r one_each =
      let first : Machine K = start app props inputs in
      record {
        told = s.told;
        recorded = record { accepted = s.accepted; counted = s.counted; settled = s.settled };
        stopped =
            record {
              log = log;
              one_each = one_each;
              last = r.last;
              goes_on = ap (λ (x : Machine K). tell_log app (Some (telling x)) log) s.ends ∙ r.so.told;
              within = (logs_join app limits (joined (logs_of reports)) log).0 first from s.within ∙ r.so.accepted;
              cause = r.cause;
              edits = ap (λ (es : List Edit). es ++ more) (sym s.edits_are) ∙ ap (λ (es : List Edit). joined (edits_of s.told) ++ es) (sym r.edits_are);
            };
      }
