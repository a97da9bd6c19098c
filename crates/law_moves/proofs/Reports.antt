-- A report goes on entry by entry and unit by unit.
use Rattle.std.proofs.Common.{Bool, true, false, ◌||◌, List, [], ◌∷◌, ◌++◌, ◌≡◌, refl, sym, ap, ◌∙◌}
use Rattle.std.specs.Prelude.{Option, Some, None, if◌then◌else◌}
use Rattle.rt_model.specs.Tree.{Types}
use Rattle.rt_model.specs.World.{Application}
use Rattle.rt_model.specs.State.{Fault}
use Rattle.rt_model.specs.Replay.{Entry, Machine, mounted_state}
use Rattle.rt_model.specs.Caused.{caused}
use Rattle.rt_model.specs.Causes.{Limits, replay_within}
use Rattle.rt_model.specs.Told.{Telling, opens, opened, closed_unit, telling, told_entry, tell_log}
use Rattle.law_moves.specs.Moves.{Logged, IsSettled, IsLogged}
use Rattle.law_moves.specs.Units.{ended_unit, with_unit, unit_told}
use Rattle.law_moves.specs.Reports.{ToldSo, ReportStarts, EntryFollows, UnitFollows, RefusalFollows, ReportsGoOn}
use Rattle.law_moves.proofs.Joins.{logs_join}
use Rattle.law_moves.proofs.Settles.{settled_stays}
use Rattle.law_moves.proofs.Acceptance.{accepted_within}
use Rattle.law_moves.proofs.Tellings.{told_where, told_machine, entry_told, unit_ends, unit_stops}

module _ {K : Types} (app : Application K) where
  -- more is told from where a report stands
  told_further : (limits : Limits) (from : Machine K) (log more : List Entry) (t u : Telling K) → ToldSo app limits from log t
      → replay_within app limits (Some t.machine) more ≡ Some u.machine
      → tell_log app (Some t) more ≡ Some u
      → ToldSo app limits from (log ++ more) u
  told_further limits from log more t u so accepted told =
      let joins = logs_join app limits log more in
      record {
        accepted = joins.0 from t.machine so.accepted ∙ accepted;
        told = joins.2 (telling from) t so.told ∙ told;
      }

  -- an entry outside of units is told without edits
  entry_alone : (limits : Limits) (t : Telling K) (u : Machine K) (e : Entry) → opens e ≡ false → t.machine.unit ≡ false → IsLogged app limits t.machine e u → IsSettled u → u.dead ≡ None
      → told_entry app t e ≡ Some (record t { machine = u })
  entry_alone limits t u e none rest h s alive =
      entry_told app limits t t.machine u e refl h
      ∙ ap (λ (x : Machine K). Some (closed_unit app (opened t e) (opens e || t.machine.unit) x)) (settled_stays app u s)
      ∙ ap (λ (b : Bool). Some (closed_unit app (if b then record t { before = t.machine.state; first = e } else t) (b || t.machine.unit) u)) none
      ∙ ap (λ (b : Bool). Some (closed_unit app t b u)) rest
      ∙ ap (λ (o : Option Fault). Some (told_where app t false u o)) alive

  report_starts : ReportStarts app
  report_starts limits from = record { accepted = refl; told = refl }

  entry_follows : EntryFollows app
  entry_follows limits from u log t e so none rest h s alive =
      told_further limits from log (e ∷ []) t (record t { machine = u }) so
      (
      ap (λ (x : Machine K). replay_within app limits (Some x) (e ∷ [])) (sym (settled_stays app t.machine h.settled))
      ∙ accepted_within app limits t.machine u (Logged e ∷ []) (u, h, refl) s
      )
      (ap (λ (o : Option (Telling K)). tell_log app o []) (entry_alone limits t u e none rest h s alive))

  unit_follows : UnitFollows app
  unit_follows limits from u w log more t first so opening h work goes =
      let both = unit_ends app limits t.machine u w first more t refl opening h work goes in
      told_further limits from log (first ∷ more) t (with_unit t first (ended_unit u w) (caused app t.machine.state (mounted_state w) first)) so both.0 both.1

  refusal_follows : RefusalFollows app
  refusal_follows limits from u v log more fault t first so opening h unit goes s refused =
      let all = unit_stops app limits t.machine u v first more fault t refl opening h unit goes s refused in
      (told_further limits from log (first ∷ more) t (unit_told app t first v) so (all.0 ∙ sym (ap Some (told_machine app limits (record t { before = t.machine.state; first = first }) true v))) all.1, all.2)

  pub reports_go_on : ReportsGoOn app
  reports_go_on = (report_starts, entry_follows, unit_follows, refusal_follows)
