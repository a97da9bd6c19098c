-- The numbers that the edits of a render while suspended carry, unit by unit.
use Rattle.std.specs.Prelude.{List, [], ◌∷◌, ◌++◌}
use Rattle.rt_model.specs.Asides.{resting}
use Rattle.rt_model.specs.Document.{Edit}
use Rattle.rt_model.specs.Rendering.{rendering_rest}
use Rattle.rt_model.specs.State.{State}
use Rattle.rt_model.specs.Tree.{Types}
use Rattle.rt_model.specs.World.{Application}
use Rattle.law_behavior.specs.Carries.{AllDrawn, LogCarries}
use Rattle.run_rounds.specs.Steps.{Step}

module _ {K : Types} (app : Application K) where
  -- each unit's edits carry what may come, with these edits and those of the units before it as the earlier ones
  abbrev pub StepsCarry : List Edit → State K → List (Step K) → Type 0
  StepsCarry before w [] = Unit {0}
  StepsCarry before w (s ∷ steps) =
      LogCarries app before (resting (rendering_rest w)) s.log × StepsCarry (before ++ s.edits) s.left steps

  -- so it is after whatever edits carried what was drawn, and all that was carried by their end was drawn
  abbrev pub StepsCarryOn : State K → List (Step K) → List Edit → State K → Type 0
  StepsCarryOn w steps edits left =
      (before : List Edit) → AllDrawn w before → StepsCarry before w steps × AllDrawn left (before ++ edits)
