-- The reports of a session so far.
use Rattle.std.specs.Prelude.{true, List, Some, ◌≡◌}
use Rattle.std.specs.List.{AllByRecursion}
use Rattle.rt_model.specs.Lists.{joined}
use Rattle.rt_model.specs.Tree.{Types}
use Rattle.rt_model.specs.World.{Application}
use Rattle.rt_model.specs.Replay.{Input, Machine, start}
use Rattle.rt_model.specs.Document.{Edit}
use Rattle.rt_model.specs.Causes.{Limits, replay_within}
use Rattle.rt_model.specs.Told.{Told, is_settled, edits_of, tell_reports}
use Rattle.rt_model.specs.Reports.{Report, logs_of, AllCount}
use Rattle.rt_model.specs.Headline.{last_machine}
use Rattle.law_moves.specs.Reached.{Reached}

-- reports that are finished: what is told of them, their edits, and the machine after the last one
pub record Sofar
    {K : Types} (app : Application K) (limits : Limits)
    (props : K.Props) (inputs : List (Input K)) (reports : List Report) (edits : List Edit) (m : Machine K)
    : Type 0 where
  pub told : List (Told K)
  -- replay accepts the joined logs, and no refusal came
  pub accepted : tell_reports app (start app props inputs) (logs_of reports) ≡ Some told
  pub within : replay_within app limits (Some (start app props inputs)) (joined (logs_of reports)) ≡ Some m
  -- each counts right, and after each nothing is at work or owed
  pub counted : AllCount reports told
  pub settled : AllByRecursion (λ (r : Told K). is_settled r.machine ≡ true) told
  pub edits_are : joined (edits_of told) ≡ edits
  pub ends : last_machine (start app props inputs) told ≡ m
  pub reached : Reached app limits props inputs m
