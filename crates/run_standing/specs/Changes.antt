-- The scopes of which a turn may change what shows, and what is kept of them.
use Rattle.std.specs.Prelude.{◌≡◌, ℕ, Bool, true, List, [], ◌∷◌, Option, None, Some, is_some, if◌then◌else◌}
use Rattle.std.specs.List.{AllByRecursion}
use Rattle.law_moves.specs.Frames.{served_by}
use Rattle.rt_model.specs.Lists.{at}
use Rattle.rt_model.specs.Tree.{Types, VComponent}
use Rattle.rt_model.specs.World.{Application}
use Rattle.rt_model.specs.Replay.{fed_child, keeps}
use Rattle.rt_model.specs.Next.{Work, RerunScope, PollTask, RunEffects}
use Rattle.rt_model.specs.OneLog.{types}
use Rattle.run_shown.specs.Stands.{Stands}
use Rattle.run_shown.specs.declared.look.Stood.{Stood}
use Rattle.rt_model.specs.State.{Scope, State, Item, Draw, Row, Feed, Make, Drop}
use Rattle.rt_model.specs.Removal.{next_removed}

-- this scope, unless it keeps its output
abbrev pub unless : Bool → ℕ → List ℕ
unless kept t = if kept then [] else t ∷ []

module _ {K : Types} (app : Application K) (w : State K) where
  -- a child that is fed; none where it keeps its output
  abbrev pub changes_of_fed : VComponent K → Option ℕ → List ℕ
  changes_of_fed c None = []
  changes_of_fed c (Some t) = unless (keeps app w t c) t

  -- those that an item serves but for a child that keeps its output; of a drop the one that goes
  abbrev pub changes_of : Item K → List ℕ
  changes_of (Draw s side p k) = served_by w (Draw s side p k)
  changes_of (Row b step) = served_by w (Row b step)
  changes_of (Feed s side p c) = changes_of_fed c (fed_child w s side p)
  changes_of (Make s side p c) = served_by w (Make s side p c)
  changes_of (Drop t s side) = next_removed w t ∷ []

-- of each of these scopes it is kept what it was
abbrev pub AllKept : {A : Type 0} → List (ℕ × A) → List ℕ → Type 0
AllKept stood scopes = AllByRecursion (λ (s : ℕ). is_some (at stood s) ≡ true) scopes

module _ {P C Q V H T E L : Type 0} where
  -- a unit is about to begin: of a rerun it is kept what its own scope is
  abbrev pub KeepsFor : Work → List (ℕ × Option (Stood P C Q V H T E L)) → List (ℕ × Scope (types C Q V H T E L)) → Type 0
  KeepsFor (RerunScope s) stood was = Stands stood was was × (is_some (at stood s) ≡ true)
  KeepsFor (PollTask t) stood was = Unit {0}
  KeepsFor (RunEffects s) stood was = Unit {0}
