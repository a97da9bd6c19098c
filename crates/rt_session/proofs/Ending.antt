-- Where no log comes to a refusal no fault is named.
use Rattle.std.proofs.Common.{◌≡◌, refl, sym, ◌∙◌, List, ◌++◌}
use Rattle.std.proofs.lemmas.Option.{none-some}
use Rattle.std.specs.Prelude.{Option, None, Some}
use Rattle.rt_model.specs.Lists.{joined}
use Rattle.rt_model.specs.Tree.{Types}
use Rattle.rt_model.specs.World.{Application}
use Rattle.rt_model.specs.State.{Fault}
use Rattle.rt_model.specs.Replay.{Input}
use Rattle.rt_model.specs.Document.{Edit}
use Rattle.rt_model.specs.Causes.{Limits, IsValid}
use Rattle.rt_model.specs.Reports.{Report, logs_of}
use Rattle.rt_model.specs.Ran.{RanTo}

pub never_some : {A : Type 0} (o : Option A) → ((a : A) → o ≡ Some a → ⊥) → o ≡ None
never_some None never = refl
never_some (Some a) never = absurd (never a refl)

module _ {K : Types} (app : Application K) (props : K.Props) (inputs : List (Input K)) (limits : Limits) where
  pub never_refused : (taken : Option (List Edit)) (reports : List Report) (fault : Fault)
      → IsValid app props inputs limits
      → RanTo app props inputs limits taken reports fault
      → ⊥
  never_refused taken reports fault valid ran =
      none-some fault (sym (valid (joined (logs_of reports) ++ (ran.stopped).log) ((ran.stopped).last).machine (ran.stopped).within) ∙ (ran.stopped).cause)
