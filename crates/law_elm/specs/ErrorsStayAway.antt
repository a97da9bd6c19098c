-- What keeps a boundary without an error: that no call throws to it.
use Rattle.std.specs.Prelude.{ℕ, List, [], ◌∷◌, Option, Some, None, ◌≡◌}
use Rattle.std.specs.List.{AllByRecursion}
use Rattle.rt_model.specs.Lists.{at}
use Rattle.rt_model.specs.Tree.{Types}
use Rattle.rt_model.specs.World.{Command, Throw, ClearErrors, Application}
use Rattle.rt_model.specs.State.{Scope, State, error_context}
use Rattle.rt_model.specs.Commands.{command}
use Rattle.rt_model.specs.Replay.{Machine}
use Rattle.rt_model.specs.Causes.{Limits}
use Rattle.law_moves.specs.Moves.{Move, entries, Leads}
use Rattle.law_behavior.specs.Along.{NoneRemoves}
use Rattle.law_behavior.specs.Deeds.{Deed, move_deeds}
use Rattle.law_behavior.specs.Keeping.{IsOther}

module _ {K : Types} where
  -- a command of a call in scope s neither throws to a boundary nor empties its slot
  abbrev pub SparesError : State K → ℕ → ℕ → Command K → Type 0
  SparesError w s b (Throw e) = IsOther b (error_context w s)
  SparesError w s b ClearErrors = IsOther b (error_context w s)
  SparesError w s b _ = Unit {0}

  -- a live scope keeps no error
  pub record WithoutError (w : State K) (b : ℕ) : Type 0 where
    pub row : Scope K
    pub there : at w.scopes b ≡ Some row
    pub none : row.error ≡ None

module _ {K : Types} (app : Application K) where
  -- none of these commands does, each in the state that it finds
  abbrev pub NoneThrows : ℕ → State K → ℕ → Option ℕ → List (Command K) → Type 0
  NoneThrows b w s polled [] = Unit {0}
  NoneThrows b w s polled (c ∷ cs) = SparesError w s b c × NoneThrows b (command app w s polled c) s polled cs

  -- no call on the way of these moves does; a body that fails throws as a command does
  abbrev pub NoneThrowsOn : (limits : Limits) (b : ℕ) (m v : Machine K) (moves : List Move) → Leads app limits m moves v → Type 0
  NoneThrowsOn limits b m v [] leads = Unit {0}
  NoneThrowsOn limits b m v (move ∷ moves) leads =
      AllByRecursion (λ (d : Deed K). NoneThrows b d.state d.scope d.polled d.wants) (move_deeds app m move)
      ×
      NoneThrowsOn limits b leads.0 v moves leads.2

  -- a boundary without an error has none until a call throws to it, or it is removed
  abbrev pub NoErrorComes : Type 0
  NoErrorComes =
      (limits : Limits) (m v : Machine K) (moves : List Move) (b : ℕ) (leads : Leads app limits m moves v)
      → NoneRemoves b (entries moves)
      → NoneThrowsOn limits b m v moves leads
      → WithoutError m.state b
      → WithoutError v.state b
