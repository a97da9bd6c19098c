-- From each report of a session of pages to the next each cell that stays has what the input makes of the values.
use Rattle.std.proofs.Common.{ℕ, ◌+◌, true, false, List, [], ◌∷◌, ◌≡◌, refl, sym, ap, ◌∙◌, subst}
use Rattle.std.specs.Prelude.{Option, Some, None}
use Rattle.std.specs.List.{AllByRecursion}
use Rattle.rt_model.specs.Tree.{Types}
use Rattle.rt_model.specs.World.{Application}
use Rattle.rt_model.specs.State.{State}
use Rattle.rt_model.specs.Laws.{IsLawful}
use Rattle.rt_model.specs.Run.{run}
use Rattle.rt_model.specs.Replay.{Entry, Build, Input, Machine, change_by, replay_on, start}
use Rattle.rt_model.specs.Causes.{Limits}
use Rattle.rt_model.specs.Told.{Told, telling, told_by, count_entries, is_settled, tell_reports}
use Rattle.rt_model.specs.Reports.{Report, logs_of, is_opening, OpensWith, InputsFrom, OneEach}
use Rattle.rt_model.proofs.ToldReplayed.{first-of, log-replays}
use Rattle.law_moves.specs.Moves.{Move, Silent, Closed, Logged, entries, Leads}
use Rattle.law_moves.proofs.Limited.{some_limits}
use Rattle.law_moves.proofs.Logs.{logs_are_moves}
use Rattle.law_headline.proofs.Reports.{settled_after}
use Rattle.law_behavior.specs.Owed.{MarksAreRun}
use Rattle.author_programs.specs.Cells.{Keeping}
use Rattle.author_programs.specs.Pages.{Pages, meaning_of_pages}
use Rattle.law_reduce.specs.Reduces.{AllReduce, EachReduces, ReportsReduce}
use Rattle.law_reduce.specs.Elm.{OwnersStay}
use Rattle.law_reduce.specs.Later.{ComesLater}
use Rattle.law_reduce.specs.Reads.{AllReadsStay, EachReadsStay, UnrunReadsStay}
use Rattle.law_reduce.proofs.Calm.{Calm, ended_calm, calm_moves}
use Rattle.law_reduce.proofs.Later.{calls_come_later}
use Rattle.law_reduce.proofs.GoesOn.{PagesGoOn, Knows}
use Rattle.law_reduce.proofs.Led.{LedTo, led_start, led_on}
use Rattle.law_reduce.proofs.OneReport.{Ready, at_rest_settled, settled_ready, Came, report_comes}

-- what owns cells stays from report to report
module _ {K : Types} where
  abbrev pub AllOwn : State K → List Report → List (Told K) → Type 0
  AllOwn w [] [] = Unit {0}
  AllOwn w (report ∷ reports) (told ∷ rest) = OwnersStay w report.log (told.machine).state × AllOwn (told.machine).state reports rest
  AllOwn w _ _ = ⊥

  abbrev pub EachOwns : List Report → List (Told K) → Type 0
  EachOwns (build ∷ reports) (told ∷ rest) = AllOwn (told.machine).state reports rest
  EachOwns _ _ = ⊥

-- so it goes on from report to report
module _ {K : Types} (k : Keeping K.Value) (a : Pages K) where
  abbrev pub AllGoOn : State K → List Report → List (Told K) → Type 0
  AllGoOn w [] [] = Unit {0}
  AllGoOn w (report ∷ reports) (told ∷ rest) =
      (PagesGoOn k a w report.log (told.machine).state × ComesLater w (told.machine).state) × AllGoOn (told.machine).state reports rest
  AllGoOn w _ _ = ⊥

  abbrev pub EachGoesOn : List Report → List (Told K) → Type 0
  EachGoesOn (build ∷ reports) (told ∷ rest) = AllGoOn (told.machine).state reports rest
  EachGoesOn _ _ = ⊥

-- nothing is owed where a report is told
module _ {K : Types} where
  abbrev pub AllSettled : List (Told K) → Type 0
  AllSettled told = AllByRecursion (λ (r : Told K). is_settled r.machine ≡ true) told

  pub none_told : (told : List (Told K)) → Some [] ≡ Some told → [] ≡ told
  none_told told h = ap (λ (o : Option (List (Told K))). elim o as (λ z. List (Told K)) [ None ↦ [] | Some rs ↦ rs ]) h

module _ {K : Types} (k : Keeping K.Value) (a : Pages K) where
  abbrev app : Application K
  app = meaning_of_pages k a

  -- the reports of inputs
  inputs_reduce : (i : ℕ) (inputs : List (Input K)) (reports : List Report) (m : Machine K) (told : List (Told K))
      → Ready m
      → m.inputs ≡ inputs
      → InputsFrom i inputs (logs_of reports)
      → tell_reports app m (logs_of reports) ≡ Some told
      → AllSettled told
      → AllReduce a m.state inputs reports told
  inputs_reduce i [] [] m told h inputs each accepted settled =
      subst (λ (rs : List (Told K)). AllReduce a m.state [] [] rs) (none_told told accepted) tt
  inputs_reduce i [] (r ∷ rs) m told h inputs each accepted settled = absurd each
  inputs_reduce i (input ∷ more) [] m told h inputs each accepted settled = absurd each
  inputs_reduce i (input ∷ more) (r ∷ rs) m told h inputs each accepted settled =
      let f = first-of app m r.log (logs_of rs) told accepted in
      let v : Machine K = (f.0).machine in
      let ends : AllSettled (told_by f.0 ∷ f.1) = subst (λ (x : List (Told K)). AllSettled x) (sym f.4) settled in
      let came : Came k a m input more r.log v = report_comes k a m v input more i r.log h inputs each.0 (log-replays app r.log (telling m) f.0 f.2) ends.0 in
      subst (λ (x : List (Told K)). AllReduce a m.state (input ∷ more) (r ∷ rs) x) f.4
      (came.reduces, inputs_reduce (i + 1) more rs v f.1 came.ready_again came.inputs each.1 f.3 ends.1)

  inputs_own : (i : ℕ) (inputs : List (Input K)) (reports : List Report) (m : Machine K) (told : List (Told K))
      → Ready m
      → m.inputs ≡ inputs
      → InputsFrom i inputs (logs_of reports)
      → tell_reports app m (logs_of reports) ≡ Some told
      → AllSettled told
      → AllOwn m.state reports told
  inputs_own i [] [] m told h inputs each accepted settled =
      subst (λ (rs : List (Told K)). AllOwn m.state [] rs) (none_told told accepted) tt
  inputs_own i [] (r ∷ rs) m told h inputs each accepted settled = absurd each
  inputs_own i (input ∷ more) [] m told h inputs each accepted settled = absurd each
  inputs_own i (input ∷ more) (r ∷ rs) m told h inputs each accepted settled =
      let f = first-of app m r.log (logs_of rs) told accepted in
      let v : Machine K = (f.0).machine in
      let ends : AllSettled (told_by f.0 ∷ f.1) = subst (λ (x : List (Told K)). AllSettled x) (sym f.4) settled in
      let came : Came k a m input more r.log v = report_comes k a m v input more i r.log h inputs each.0 (log-replays app r.log (telling m) f.0 f.2) ends.0 in
      subst (λ (x : List (Told K)). AllOwn m.state (r ∷ rs) x) f.4
      (came.owners_stay, inputs_own (i + 1) more rs v f.1 came.ready_again came.inputs each.1 f.3 ends.1)

  inputs_stay : MarksAreRun app → (i : ℕ) (inputs : List (Input K)) (reports : List Report) (m : Machine K) (told : List (Told K))
      → Ready m
      → m.inputs ≡ inputs
      → InputsFrom i inputs (logs_of reports)
      → tell_reports app m (logs_of reports) ≡ Some told
      → AllSettled told
      → AllReadsStay m.state reports told
  inputs_stay marks i [] [] m told h inputs each accepted settled =
      subst (λ (rs : List (Told K)). AllReadsStay m.state [] rs) (none_told told accepted) tt
  inputs_stay marks i [] (r ∷ rs) m told h inputs each accepted settled = absurd each
  inputs_stay marks i (input ∷ more) [] m told h inputs each accepted settled = absurd each
  inputs_stay marks i (input ∷ more) (r ∷ rs) m told h inputs each accepted settled =
      let f = first-of app m r.log (logs_of rs) told accepted in
      let v : Machine K = (f.0).machine in
      let ends : AllSettled (told_by f.0 ∷ f.1) = subst (λ (x : List (Told K)). AllSettled x) (sym f.4) settled in
      let came : Came k a m input more r.log v = report_comes k a m v input more i r.log h inputs each.0 (log-replays app r.log (telling m) f.0 f.2) ends.0 in
      subst (λ (x : List (Told K)). AllReadsStay m.state (r ∷ rs) x) f.4
      (came.reads_stay marks, inputs_stay marks (i + 1) more rs v f.1 came.ready_again came.inputs each.1 f.3 ends.1)

  -- what was drawn stays drawn
  later_there : IsLawful K app → (m v : Machine K) (log : List Entry) → Ready m → replay_on app (Some m) log ≡ Some v → ComesLater m.state v.state
  later_there lawful m v log h goes =
      let found = some_limits app log m v goes in
      let moved = logs_are_moves app found.0 m v log (at_rest_settled m h.rests) found.1 in
      calls_come_later app lawful found.0 m v moved.0 moved.1

  inputs_go_on : MarksAreRun app → Knows k a → (props : K.Props) (all : List (Input K)) → (i : ℕ) (inputs : List (Input K)) (reports : List Report) (m : Machine K) (told : List (Told K))
      → LedTo app props all m
      → Ready m
      → m.inputs ≡ inputs
      → InputsFrom i inputs (logs_of reports)
      → tell_reports app m (logs_of reports) ≡ Some told
      → AllSettled told
      → AllGoOn k a m.state reports told
  inputs_go_on marks known props all i [] [] m told led h inputs each accepted settled =
      subst (λ (rs : List (Told K)). AllGoOn k a m.state [] rs) (none_told told accepted) tt
  inputs_go_on marks known props all i [] (r ∷ rs) m told led h inputs each accepted settled = absurd each
  inputs_go_on marks known props all i (input ∷ more) [] m told led h inputs each accepted settled = absurd each
  inputs_go_on marks known props all i (input ∷ more) (r ∷ rs) m told led h inputs each accepted settled =
      let f = first-of app m r.log (logs_of rs) told accepted in
      let v : Machine K = (f.0).machine in
      let ends : AllSettled (told_by f.0 ∷ f.1) = subst (λ (x : List (Told K)). AllSettled x) (sym f.4) settled in
      let goes : replay_on app (Some m) r.log ≡ Some v = log-replays app r.log (telling m) f.0 f.2 in
      let came : Came k a m input more r.log v = report_comes k a m v input more i r.log h inputs each.0 goes ends.0 in
      subst (λ (x : List (Told K)). AllGoOn k a m.state (r ∷ rs) x) f.4
      ((came.pages_go_on marks known props all led, later_there known.lawful m v r.log h goes), inputs_go_on marks known props all (i + 1) more rs v f.1 (led_on app props all m v r.log led goes) came.ready_again came.inputs each.1 f.3 ends.1)

  -- after the build nobody waits, and the inputs are as they were
  build_calm : (props : K.Props) (inputs : List (Input K)) (limits : Limits) (v : Machine K) (moves : List Move) (log : List Entry)
      → Leads app limits (start app props inputs) moves v
      → entries moves ≡ Build ∷ log
      → count_entries is_opening log ≡ 0
      → Calm inputs v
  build_calm props inputs limits v [] log leads same none = cc
  build_calm props inputs limits v (Silent ∷ moves) log leads same none =
      let move = leads.1 in
      let absurdity : [] ≡ move.item ∷ move.later = move.next in
      cc
  build_calm props inputs limits v (Closed ∷ moves) log leads same none =
      let move = leads.1 in
      let absurdity : false ≡ true = move.at_work in
      cc
  build_calm props inputs limits v (Logged e ∷ moves) log leads same none =
      let move = leads.1 in
      let first : e ≡ Build = cc in
      let rest : entries moves ≡ log = cc in
      let m : Machine K = start app props inputs in
      let begun : Machine K = record m { built = true; unit = true } in
      let built : Calm inputs begun = record { built = refl; listeners = refl; inputs = refl } in
      let here : Calm inputs leads.0 =
      subst (λ (x : Machine K). Calm inputs x) (sym (move.gives ∙ ap (λ (d : Entry). change_by app m [] d) first))
      (ended_calm app inputs begun None [] (run app m.state 0) built) in
      (calm_moves app inputs limits 0 leads.0 v moves leads.2 (ap (λ (es : List Entry). count_entries is_opening es) rest ∙ none) here).1

  build_ready : (props : K.Props) (inputs : List (Input K)) (log : List Entry) (v : Machine K)
      → OpensWith Build log
      → replay_on app (Some (start app props inputs)) log ≡ Some v
      → is_settled v ≡ true
      → Ready v × (v.inputs ≡ inputs)
  build_ready props inputs [] v opens accepted settled = absurd opens
  build_ready props inputs (f ∷ fs) v opens accepted settled =
      let m : Machine K = start app props inputs in
      let found = some_limits app (f ∷ fs) m v accepted in
      let moved = logs_are_moves app found.0 m v (f ∷ fs) refl found.1 in
      let calm : Calm inputs v = build_calm props inputs found.0 v moved.0 fs moved.1 (moved.2 ∙ ap (λ (d : Entry). d ∷ fs) opens.0) opens.1 in
      (settled_ready v calm.built (settled_after app found.0 (f ∷ fs) m v refl found.1) settled, calm.inputs)

  each_reduces : (props : K.Props) (inputs : List (Input K)) (reports : List Report) (told : List (Told K))
      → OneEach inputs (logs_of reports)
      → tell_reports app (start app props inputs) (logs_of reports) ≡ Some told
      → AllSettled told
      → EachReduces a inputs reports told
  each_reduces props inputs [] told each accepted settled = absurd each
  each_reduces props inputs (r ∷ rs) told each accepted settled =
      let m : Machine K = start app props inputs in
      let f = first-of app m r.log (logs_of rs) told accepted in
      let v : Machine K = (f.0).machine in
      let ends : AllSettled (told_by f.0 ∷ f.1) = subst (λ (x : List (Told K)). AllSettled x) (sym f.4) settled in
      let built = build_ready props inputs r.log v each.0 (log-replays app r.log (telling m) f.0 f.2) ends.0 in
      subst (λ (x : List (Told K)). EachReduces a inputs (r ∷ rs) x) f.4
      (inputs_reduce 1 inputs rs v f.1 built.0 built.1 each.1 f.3 ends.1)

  pub each_owns : (props : K.Props) (inputs : List (Input K)) (reports : List Report) (told : List (Told K))
      → OneEach inputs (logs_of reports)
      → tell_reports app (start app props inputs) (logs_of reports) ≡ Some told
      → AllSettled told
      → EachOwns reports told
  each_owns props inputs [] told each accepted settled = absurd each
  each_owns props inputs (r ∷ rs) told each accepted settled =
      let m : Machine K = start app props inputs in
      let f = first-of app m r.log (logs_of rs) told accepted in
      let v : Machine K = (f.0).machine in
      let ends : AllSettled (told_by f.0 ∷ f.1) = subst (λ (x : List (Told K)). AllSettled x) (sym f.4) settled in
      let built = build_ready props inputs r.log v each.0 (log-replays app r.log (telling m) f.0 f.2) ends.0 in
      subst (λ (x : List (Told K)). EachOwns (r ∷ rs) x) f.4
      (inputs_own 1 inputs rs v f.1 built.0 built.1 each.1 f.3 ends.1)

  -- the build's report is told where a log leads from the start
  abbrev pub BuiltBy : K.Props → List (Input K) → List (Told K) → Type 0
  BuiltBy props inputs [] = Unit {0}
  BuiltBy props inputs (told ∷ rest) = LedTo app props inputs told.machine

  pub each_built : (props : K.Props) (inputs : List (Input K)) (reports : List Report) (told : List (Told K)) → tell_reports app (start app props inputs) (logs_of reports) ≡ Some told → BuiltBy props inputs told
  each_built props inputs [] told accepted = subst (λ (rs : List (Told K)). BuiltBy props inputs rs) (none_told told accepted) tt
  each_built props inputs (r ∷ rs) told accepted =
      let m : Machine K = start app props inputs in
      let f = first-of app m r.log (logs_of rs) told accepted in
      let v : Machine K = (f.0).machine in
      subst (λ (x : List (Told K)). BuiltBy props inputs x) f.4
      (led_on app props inputs m v r.log (led_start app props inputs) (log-replays app r.log (telling m) f.0 f.2))

  each_stays : MarksAreRun app → (props : K.Props) (inputs : List (Input K)) (reports : List Report) (told : List (Told K))
      → OneEach inputs (logs_of reports)
      → tell_reports app (start app props inputs) (logs_of reports) ≡ Some told
      → AllSettled told
      → EachReadsStay reports told
  each_stays marks props inputs [] told each accepted settled = absurd each
  each_stays marks props inputs (r ∷ rs) told each accepted settled =
      let m : Machine K = start app props inputs in
      let f = first-of app m r.log (logs_of rs) told accepted in
      let v : Machine K = (f.0).machine in
      let ends : AllSettled (told_by f.0 ∷ f.1) = subst (λ (x : List (Told K)). AllSettled x) (sym f.4) settled in
      let built = build_ready props inputs r.log v each.0 (log-replays app r.log (telling m) f.0 f.2) ends.0 in
      subst (λ (x : List (Told K)). EachReadsStay (r ∷ rs) x) f.4
      (inputs_stay marks 1 inputs rs v f.1 built.0 built.1 each.1 f.3 ends.1)

  pub each_goes_on : MarksAreRun app → Knows k a → (props : K.Props) (inputs : List (Input K)) (reports : List Report) (told : List (Told K))
      → OneEach inputs (logs_of reports)
      → tell_reports app (start app props inputs) (logs_of reports) ≡ Some told
      → AllSettled told
      → EachGoesOn k a reports told
  each_goes_on marks known props inputs [] told each accepted settled = absurd each
  each_goes_on marks known props inputs (r ∷ rs) told each accepted settled =
      let m : Machine K = start app props inputs in
      let f = first-of app m r.log (logs_of rs) told accepted in
      let v : Machine K = (f.0).machine in
      let ends : AllSettled (told_by f.0 ∷ f.1) = subst (λ (x : List (Told K)). AllSettled x) (sym f.4) settled in
      let goes : replay_on app (Some m) r.log ≡ Some v = log-replays app r.log (telling m) f.0 f.2 in
      let built = build_ready props inputs r.log v each.0 goes ends.0 in
      subst (λ (x : List (Told K)). EachGoesOn k a (r ∷ rs) x) f.4
      (inputs_go_on marks known props inputs 1 inputs rs v f.1 (led_on app props inputs m v r.log (led_start app props inputs) goes) built.0 built.1 each.1 f.3 ends.1)

pub reports_reduce : (K : Types) → ReportsReduce K
reports_reduce K k a props inputs limits taken reports ran =
    each_reduces k a props inputs reports ran.told (ran.done).one_each (ran.recorded).accepted (ran.recorded).settled

pub unrun_reads_stay : (K : Types) → ((k : Keeping K.Value) (a : Pages K) → MarksAreRun (meaning_of_pages k a)) → UnrunReadsStay K
unrun_reads_stay K marks k a props inputs limits taken reports ran =
    each_stays k a (marks k a) props inputs reports ran.told (ran.done).one_each (ran.recorded).accepted (ran.recorded).settled
