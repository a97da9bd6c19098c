-- What is current, owed or passed over, where renders while suspended come among entries.
use Rattle.std.specs.Prelude.{true, List, [], ◌∷◌, Some, None, ◌≡◌}
use Rattle.rt_model.specs.Tree.{Types}
use Rattle.rt_model.specs.World.{Application}
use Rattle.rt_model.specs.Laws.{IsLawful}
use Rattle.rt_model.specs.Replay.{Entry, Input, Machine, replay_on, start}
use Rattle.rt_model.specs.Rendering.{renders_on}
use Rattle.rt_model.specs.Sentences.{AllCurrentOrOwed, OthersCurrentOrOwed}

-- a part of a run: entries that are accepted in turn, or a render while suspended
pub data Stretch : Type 0 where
  Ordinary : (log : List Entry) → Stretch
  Suspended : (log : List Entry) → Stretch

module _ {K : Types} (app : Application K) where
  -- stretches lead from one machine to another; each render is completed
  abbrev pub Stretches : Machine K → List Stretch → Machine K → Type 0
  Stretches m [] v = m ≡ v
  Stretches m (Ordinary log ∷ rest) v = (u : Machine K) × (replay_on app (Some m) log ≡ Some u) × Stretches u rest v
  Stretches m (Suspended log ∷ rest) v = (u : Machine K) × (renders_on app (Some m) log ≡ Some u) × Stretches u rest v

  -- of a lawful application, until a fault ends the run: once the build has begun, ordinary entries and renders while suspended
  -- come in any order, and after them it holds
  abbrev pub AfterStretches : (Machine K → Type 0) → Type 0
  AfterStretches holds =
      IsLawful K app
      → (props : K.Props) (inputs : List (Input K)) (log : List Entry) (m v : Machine K) (stretches : List Stretch)
      → replay_on app (Some (start app props inputs)) log ≡ Some m
      → m.built ≡ true
      → Stretches m stretches v
      → v.dead ≡ None
      → holds v

  -- each scope that is on no open work is current, or owed a run, or was passed over by a render
  abbrev pub RenderedAreCurrentOrOwed : Type 0
  RenderedAreCurrentOrOwed = AfterStretches (λ v. OthersCurrentOrOwed app v)

  -- so where no work is open, as after a completed render, all scopes are
  abbrev pub AllRenderedAreCurrentOrOwed : Type 0
  AllRenderedAreCurrentOrOwed = AfterStretches (λ v. v.work ≡ [] → AllCurrentOrOwed app v.state)
