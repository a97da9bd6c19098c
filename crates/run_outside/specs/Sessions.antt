-- What a session comes to, by the definitions.
use Rattle.std.specs.Prelude.{◌≡◌, List, map, Option, Some}
use Rattle.rt_edits.specs.Sinks.{grown}
use Rattle.rt_edits.specs.declared.edit.Edit.{Edit}
use Rattle.tree_edits.specs.Documents.{edit_of}
use Rattle.rt_model.specs.Tree.{Types}
use Rattle.rt_model.specs.World.{Application}
use Rattle.rt_model.specs.State.{Fault}
use Rattle.rt_model.specs.Replay.{Input}
use Rattle.rt_model.specs.Causes.{Limits}
use Rattle.rt_model.specs.Document as doc
use Rattle.rt_model.specs.Told.{Told}
use Rattle.rt_model.specs.Reports.{Report}
use Rattle.rt_model.specs.Headline.{Holds, Headline, CameTo}
use Rattle.rt_model.specs.Ran.{Ran, RanTo}
use Rattle.run_outside.specs.Short.{RanShort}

module _ {K : Types} (app : Application K) (props : K.Props) (inputs : List (Input K)) (limits : Limits) (before after : Option (List Edit))
    (reports : List Report) where
  -- it finished: the sink took just the edits of its reports after what it had
  pub record Finished : Type 0 where
    pub wrote : List Edit
    pub told : after ≡ grown before wrote
    pub ran : Ran app props inputs limits (Some (map edit_of wrote)) reports

  -- it came to this fault: the sink took the edits of its reports and those up to the refusal
  pub record FinishedAt (fault : Fault) : Type 0 where
    pub wrote : List Edit
    pub told : after ≡ grown before wrote
    pub ran_to : RanTo app props inputs limits (Some (map edit_of wrote)) reports fault

  -- it broke off: the sink took the edits of its reports, those of the units that were finished since, and a part of those of the unit
  -- that was cut
  pub record BrokeOff (Part : List doc.Edit → List doc.Edit → Type 0) : Type 0 where
    pub wrote : List Edit
    pub told : after ≡ grown before wrote
    pub ran_short : RanShort app props inputs limits (Some (map edit_of wrote)) reports Part

  -- it finished with the headline: replay accepts the logs of its reports, the edits that the sink took after what
  -- it had never fault and give
  -- what shows after each report, and there every output is current, and fallbacks show just while they are held
  pub record Headlined : Type 0 where
    pub wrote : List Edit
    pub told : after ≡ grown before wrote
    pub headline : Headline app props inputs limits (Some (map edit_of wrote)) reports

  -- it came to this fault, with all of that for the reports that were finished
  pub record CameAt (fault : Fault) : Type 0 where
    pub wrote : List Edit
    pub told : after ≡ grown before wrote
    pub came_to : CameTo app props inputs limits (Some (map edit_of wrote)) reports fault

module _ {K : Types} (app : Application K) (props : K.Props) (inputs : List (Input K)) (reports : List Report) where
  -- of the reports that were finished all sentences of the headline hold
  pub record FinishedHeld : Type 0 where
    -- the edits of each and the state after it
    pub told : List (Told K)
    pub holds : Holds app props inputs reports told

module _ {K : Types} (app : Application K) (props : K.Props) (inputs : List (Input K)) (limits : Limits) (before after : Option (List Edit))
    (reports : List Report) where
  -- it broke off, and of the reports that were finished all sentences of the headline hold
  pub record Broken (Part : List doc.Edit → List doc.Edit → Type 0) : Type 0 where
    pub broke : BrokeOff app props inputs limits before after reports Part
    pub held : FinishedHeld app props inputs reports
