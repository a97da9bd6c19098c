-- What the laws say of the states after the reports of a session.
use Rattle.std.specs.Prelude.{List, Option}
use Rattle.rt_model.specs.Tree.{Types}
use Rattle.rt_model.specs.World.{Application}
use Rattle.rt_model.specs.Laws.{IsLawful}
use Rattle.rt_model.specs.State.{Fault}
use Rattle.rt_model.specs.Replay.{Input}
use Rattle.rt_model.specs.Causes.{Limits}
use Rattle.rt_model.specs.Document.{Edit}
use Rattle.rt_model.specs.Reports.{Report}
use Rattle.rt_model.specs.Ran.{Ran, RanTo}
use Rattle.law_moves.specs.Current.{EachIsCurrent}

module _ {K : Types} (app : Application K) where
  -- of a lawful application: after each report of a session that finished
  abbrev pub RanIsCurrent : Type 0
  RanIsCurrent =
      IsLawful K app
      → (props : K.Props) (inputs : List (Input K)) (limits : Limits) (taken : Option (List Edit)) (reports : List Report)
      → (ran : Ran app props inputs limits taken reports)
      → EachIsCurrent app ran.told

  -- and after each finished report of a session that came to a fault
  abbrev pub RanToIsCurrent : Type 0
  RanToIsCurrent =
      IsLawful K app
      → (props : K.Props) (inputs : List (Input K)) (limits : Limits) (taken : Option (List Edit)) (reports : List Report) (fault : Fault)
      → (ran : RanTo app props inputs limits taken reports fault)
      → EachIsCurrent app ran.told
