-- What a posted session tells of its end.
use Rattle.std.proofs.Common.{◌≡◌, ◌≢◌, ℕ, List, map, refl, sym, ◌∙◌, subst, inl, inr}
use Rattle.std.specs.Prelude.{◌⊎◌, Option}
use Rattle.rt_edits.specs.declared.edit.Edit.{Edit}
use Rattle.law_headline.specs.Sessions.{SessionsHold}
use Rattle.rt_inbox.specs.declared.message.Msg.{Msg}
use Rattle.rt_inbox.specs.declared.message.Post.{Post}
use Rattle.run_outside.specs.Sessions.{BrokeOff, FinishedAt}
use Rattle.run_outside.specs.Short.{PartBy, PartOf}
use Rattle.run_outside.specs.declared.ended.Ended.{Ended}
use Rattle.rt_model.specs.Causes.{Limits}
use Rattle.rt_model.specs.Document as doc
use Rattle.rt_model.specs.Laws.{IsLawful}
use Rattle.rt_model.specs.Merge.{AreSized, HasFronts}
use Rattle.rt_model.specs.Replay.{Input}
use Rattle.rt_model.specs.Reports.{Report}
use Rattle.rt_model.specs.State as model
use Rattle.rt_model.specs.Tree.{Types}
use Rattle.rt_model.specs.World.{Application}
use Rattle.run_reports.specs.declared.fault.Fault.{Fault}
use Rattle.run_reports.specs.declared.fault.Fault.TheVariants as faults
use Rattle.rt_session.specs.Posted.{BreaksOff, TookFronts, drains_of, lists_of}
use Rattle.rt_session.specs.Sittings.{IsWanting}
use Rattle.rt_session.proofs.Held.{broken_of, came_of}

module _ {K : Types} (app : Application K) (props : K.Props) (inputs : List (Input K)) (limits : Limits) (before now : Option (List Edit))
    (reports : List Report) (ended : Ended) (fault : Fault) where
  -- it broke off, or memory is told to be wanting for a fault
  pub breaks_off : SessionsHold app
      → IsLawful K app
      → ((taken edits : List doc.Edit) → PartBy ended taken edits → PartOf fault taken edits)
      → (IsWanting ended → fault ≡ faults.OutOfMemory)
      → BrokeOff app props inputs limits before now reports (PartBy ended)
      ⊎ (IsWanting ended × (cause : model.Fault) × FinishedAt app props inputs limits before now reports cause)
      → BreaksOff app props inputs limits before now reports fault
  breaks_off laws lawful parts wants (inl broke) =
      inl (broken_of app laws lawful props inputs limits before now reports (PartBy ended) (PartOf fault) parts broke)
  breaks_off laws lawful parts wants (inr covered) =
      inr (wants covered.0, covered.1, came_of app laws lawful props inputs limits before now reports covered.1 covered.2)

-- where it wasn't
fronts_other : (posts : List (List Post)) (drains : List (List Msg)) (ended : Ended) (fault : Fault)
    → (IsWanting ended → fault ≡ faults.OutOfMemory)
    → IsWanting ended ⊎ HasFronts (drains_of drains) (lists_of posts)
    → fault ≢ faults.OutOfMemory
    → HasFronts (drains_of drains) (lists_of posts)
fronts_other posts drains ended fault wants (inl memory) other = absurd (other (wants memory))
fronts_other posts drains ended fault wants (inr fronts) other = fronts

-- the drains hold fronts, unless memory was wanting
pub fronts_told : (posts said : List (List Post)) (most : ℕ) (drains : List (List Msg)) (ended : Ended) (fault : Fault)
    → posts ≡ said
    → (IsWanting ended → fault ≡ faults.OutOfMemory)
    → AreSized most (drains_of drains)
    → IsWanting ended ⊎ HasFronts (drains_of drains) (lists_of posts)
    → TookFronts said most drains fault
fronts_told posts said most drains ended fault same wants sized fronts =
    record {
      sized = sized;
      fronts = λ other. subst (λ ps. HasFronts (drains_of drains) (lists_of ps)) same (fronts_other posts drains ended fault wants fronts other);
    }
