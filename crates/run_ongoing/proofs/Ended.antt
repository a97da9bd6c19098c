-- Why a session ends early, by the fault that is answered.
use Rattle.std.proofs.Common.{◌≡◌, ◌∙◌, List, Err, sym}
use Rattle.std.specs.Prelude.{Option}
use Rattle.law_headline.specs.Sessions.{RanToIsCameTo}
use Rattle.rt_edits.specs.declared.edit.Edit.{Edit}
use Rattle.rt_model.specs.Document as doc
use Rattle.rt_model.specs.Laws.{IsLawful}
use Rattle.rt_model.specs.OneLog.{types}
use Rattle.rt_model.specs.Replay as replay
use Rattle.rt_model.specs.World.{Application}
use Rattle.run_machine.specs.Stands.{RunsAs}
use Rattle.run_ongoing.specs.Ongoings.{EndsAt}
use Rattle.run_outside.proofs.Short.{short_as}
use Rattle.run_outside.specs.Ends.{fault_in}
use Rattle.run_outside.specs.Short.{PartBy, PartOf}
use Rattle.run_outside.specs.declared.ended.Ended.{Ended}
use Rattle.run_reports.specs.Seen.{fault_of, limits_of}
use Rattle.run_reports.specs.declared.fault.Fault.{Fault}
use Rattle.run_reports.specs.declared.limits.Limits.{Limits}
use Rattle.run_reports.specs.declared.report.Report.{Report}

module _ {C Q V H T E L : Type 0} (app : Application (types C Q V H T E L)) (limits : Limits) (props : Q)
    (inputs : List (replay.Input (types C Q V H T E L))) (before now : Option (List Edit)) (reports : List Report) where
  -- where a fault of the definitions was come to the headline holds of the reports, by the law; where it broke off so does its fault
  pub ends_at : (ended : Ended) (fault : Fault)
      → IsLawful (types C Q V H T E L) app
      → RanToIsCameTo app
      → fault_of fault ≡ fault_in ended
      → ((taken edits : List doc.Edit) → PartBy ended taken edits → PartOf fault taken edits)
      → RunsAs app (limits_of limits) props inputs before now reports (Err ended)
      → EndsAt app limits props inputs before now reports fault
  ends_at ended fault lawful law of parts ran = (
    λ at why.
        let done = ran.0 at (sym of ∙ why) in
        record { wrote = done.wrote; told = done.told; came_to = law lawful _ _ _ _ _ _ done.ran_to },
    λ none.
        let broke = ran.1 (sym of ∙ none) in
        record {
          wrote = broke.wrote;
          told = broke.told;
          ran_short = short_as app (limits_of limits) props inputs (PartBy ended) (PartOf fault) _ _ parts broke.ran_short;
        },
  )
