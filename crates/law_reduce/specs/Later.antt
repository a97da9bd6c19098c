-- The numbers of cells along moves: none is drawn twice, so a call that comes later is given all that were drawn before.
use Rattle.std.specs.Prelude.{ℕ, ◌≤◌, List, Some, ◌≡◌, ◌⊎◌}
use Rattle.rt_model.specs.Lists.{at}
use Rattle.rt_model.specs.Tree.{Types}
use Rattle.rt_model.specs.World.{Application}
use Rattle.rt_model.specs.State.{LastCall, State}
use Rattle.rt_model.specs.Laws.{IsLawful}
use Rattle.rt_model.specs.Replay.{Machine}
use Rattle.rt_model.specs.Causes.{Limits}
use Rattle.law_moves.specs.Moves.{Move, Leads}

module _ {K : Types} where
  -- what was drawn in one state is drawn in the other; and the last call of a scope is the one that it was, or it was given all of that
  abbrev pub ComesLater : State K → State K → Type 0
  ComesLater w v =
      (w.next.cells ≤ v.next.cells)
      × ((s : ℕ) (last : LastCall K)
      → at v.last_calls s ≡ Some last
      → (at w.last_calls s ≡ Some last) ⊎ (w.next.cells ≤ last.given.given.next.cells))

-- so it is along moves of a lawful application, from any machine
abbrev pub CallsComeLater : {K : Types} → Application K → Type 0
CallsComeLater {K = K} app =
    IsLawful K app
    → (limits : Limits) (m v : Machine K) (moves : List Move)
    → Leads app limits m moves v
    → ComesLater m.state v.state
