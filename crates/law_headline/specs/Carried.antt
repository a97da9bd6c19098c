-- The numbers that edits carry: each is that of a hidden node that is shown again, or one that no edit carried before.
use Rattle.std.specs.Prelude.{ℕ, ◌<◌, true, List, ◌∷◌, ◌++◌, Option, Some, ◌≡◌}
use Rattle.std.specs.List.{AllByRecursion}
use Rattle.rt_model.specs.Lists.{joined}
use Rattle.rt_model.specs.Tree.{Types}
use Rattle.rt_model.specs.World.{Application}
use Rattle.rt_model.specs.Laws.{IsLawful}
use Rattle.rt_model.specs.Replay.{Entry, Input, Machine, is_quiet, start}
use Rattle.rt_model.specs.Document.{Edit}
use Rattle.rt_model.specs.Caused.{written}
use Rattle.rt_model.specs.Causes.{Limits, edits_at_refusal}
use Rattle.rt_model.specs.Told.{Told, Telling, telling, told_entry, tell_log, tell_reports, edits_of}
use Rattle.rt_model.specs.Reports.{Report, logs_of}
use Rattle.rt_model.specs.Headline.{last_machine, Headline}
use Rattle.rt_model.specs.Sentences.{all_carried, AllMayCome}
use Rattle.law_moves.specs.Reruns.{Reruns}

module _ {K : Types} (app : Application K) where
  -- of a lawful application: so it is with the edits of a rerun, where all numbers that edits carried before it were drawn before it
  abbrev pub RerunsCarryAnew : Type 0
  RerunsCarryAnew =
      IsLawful K app
      → (limits : Limits) (props : K.Props) (inputs : List (Input K)) (m v : Machine K) (s : ℕ) (earlier : List ℕ)
      → Reruns app limits props inputs m s v
      → AllByRecursion (λ (n : ℕ). n < m.state.next.elements) earlier
      → AllMayCome earlier m.state (written app m.state v.state s)

  -- along the accepted logs of a session: reports are finished, a log goes on from there, and one more entry adds edits,
  -- which are those of a unit that it ends, or in which a fault ends the run; they carry what may come,
  -- with all edits of the session before them as the earlier ones
  abbrev pub UnitsCarryAnew : Type 0
  UnitsCarryAnew =
      IsLawful K app
      → (props : K.Props) (inputs : List (Input K)) (logs : List (List Entry)) (told : List (Told K))
      → (log : List Entry) (e : Entry) (t u : Telling K) (edits : List Edit)
      → tell_reports app (start app props inputs) logs ≡ Some told
      → AllByRecursion (λ (r : Told K). is_quiet r.machine ≡ true) told
      → tell_log app (Some (telling (last_machine (start app props inputs) told))) log ≡ Some t
      → told_entry app t e ≡ Some u
      → u.edits ≡ t.edits ++ edits
      → AllMayCome (all_carried (joined (edits_of told) ++ t.edits)) u.before edits

  -- along such logs: where limits refuse the next make of the unit that is open, the edits that they leave of it carry
  -- what may come in the same way
  abbrev pub CutUnitsCarryAnew : Type 0
  CutUnitsCarryAnew =
      IsLawful K app
      → (limits : Limits) (props : K.Props) (inputs : List (Input K)) (logs : List (List Entry)) (told : List (Told K))
      → (log : List Entry) (t : Telling K) (edits : List Edit)
      → tell_reports app (start app props inputs) logs ≡ Some told
      → AllByRecursion (λ (r : Told K). is_quiet r.machine ≡ true) told
      → tell_log app (Some (telling (last_machine (start app props inputs) told))) log ≡ Some t
      → edits_at_refusal app limits t ≡ t.edits ++ edits
      → AllMayCome (all_carried (joined (edits_of told) ++ t.edits)) t.before edits

  -- along the finished reports of a session each entry adds edits, those of a unit that it ends, which carry what may come,
  -- with all edits of the session before them as the earlier ones
  abbrev pub CarriesAnew : K.Props → List (Input K) → List Report → Type 0
  CarriesAnew props inputs reports =
      (done later : List Report) (report : Report) (log rest : List Entry) (e : Entry)
      → (told : List (Told K)) (t u : Telling K) (edits : List Edit)
      → reports ≡ done ++ report ∷ later
      → report.log ≡ log ++ e ∷ rest
      → tell_reports app (start app props inputs) (logs_of done) ≡ Some told
      → tell_log app (Some (telling (last_machine (start app props inputs) told))) log ≡ Some t
      → told_entry app t e ≡ Some u
      → u.edits ≡ t.edits ++ edits
      → AllMayCome (all_carried (joined (edits_of told) ++ t.edits)) u.before edits

  -- so it is with the reports of the headline
  abbrev pub HeadlinesCarryAnew : Type 0
  HeadlinesCarryAnew =
      IsLawful K app
      → (props : K.Props) (inputs : List (Input K)) (limits : Limits) (taken : Option (List Edit)) (reports : List Report)
      → Headline app props inputs limits taken reports
      → CarriesAnew props inputs reports
