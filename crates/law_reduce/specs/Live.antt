-- What is live at the end of a way was removed by nothing on it.
use Rattle.std.specs.Prelude.{ℕ, true, List, ◌∷◌, Option, None, ◌≡◌}
use Rattle.rt_model.specs.Tree.{Types}
use Rattle.rt_model.specs.World.{Application}
use Rattle.rt_model.specs.Laws.{IsLawful}
use Rattle.rt_model.specs.State.{is_live}
use Rattle.rt_model.specs.Replay.{Input, Machine}
use Rattle.rt_model.specs.Document.{Edit}
use Rattle.rt_model.specs.Causes.{Limits}
use Rattle.rt_model.specs.Told.{Told}
use Rattle.rt_model.specs.Reports.{Report}
use Rattle.rt_model.specs.Ran.{Ran}
use Rattle.law_moves.specs.Moves.{Move, entries, Leads}
use Rattle.law_moves.specs.Reached.{Reached}
use Rattle.law_behavior.specs.Along.{NoneRemoves}
use Rattle.law_reduce.specs.Folds.{last_state}
use Rattle.law_reduce.specs.Elm.{NeverRemoved}

-- along moves of a lawful application from a machine that is reached no entry removes a scope that is live behind them, until a fault ends
-- the run
abbrev pub LiveUnremoved : {K : Types} → Application K → Type 0
LiveUnremoved {K = K} app =
    IsLawful K app
    → (limits : Limits) (props : K.Props) (inputs : List (Input K)) (m v : Machine K) (moves : List Move) (s : ℕ)
    → Reached app limits props inputs m
    → Leads app limits m moves v
    → v.dead ≡ None
    → is_live v.state s ≡ true
    → NoneRemoves s (entries moves)

module _ {K : Types} where
  -- no log removes a scope that is live when the build is reported and when the last input is
  abbrev pub LiveStay : List Report → List (Told K) → Type 0
  LiveStay (build ∷ reports) (told ∷ rest) =
      (s : ℕ)
      → is_live told.machine.state s ≡ true
      → is_live (last_state told.machine.state rest) s ≡ true
      → NeverRemoved s reports
  LiveStay _ _ = ⊥

-- so it is of every session of a lawful application that finished
abbrev pub LiveNeverRemoved : {K : Types} → Application K → Type 0
LiveNeverRemoved {K = K} app =
    IsLawful K app
    → (props : K.Props) (inputs : List (Input K)) (limits : Limits) (taken : Option (List Edit)) (reports : List Report)
    → (ran : Ran app props inputs limits taken reports)
    → LiveStay reports ran.told
