-- What lasts of a scope along moves and logs: the first error of a boundary until it is cleared, hooks as long as their
-- scope lives, the holders of a boundary until their task ends or the boundary is removed.
use Rattle.std.specs.Prelude.{ℕ, Bool, true, false, nat_eq, List, [], ◌∷◌, Some, ◌≡◌, ◌<◌, is_some}
use Rattle.std.specs.List.{AllByRecursion}
use Rattle.rt_model.specs.Lists.{at, nth}
use Rattle.rt_model.specs.Tree.{Types, CapturedError}
use Rattle.rt_model.specs.World.{Hook, Application}
use Rattle.rt_model.specs.Laws.{IsLawful}
use Rattle.rt_model.specs.State.{hooks_of, values_of}
use Rattle.rt_model.specs.Replay.{Entry, Removed, Machine}
use Rattle.rt_model.specs.Causes.{Limits, replay_within}
use Rattle.law_moves.specs.Moves.{Move, entries, IsSettled, Leads}
use Rattle.law_behavior.specs.Keeping.{NoneClears}
use Rattle.law_behavior.specs.Holding.{holds_at}
use Rattle.law_behavior.specs.Deeds.{Deed, move_deeds}

-- in this entry a scope is removed
abbrev pub removed_in : ℕ → Entry → Bool
removed_in s (Removed t) = nat_eq t s
removed_in s _ = false

-- in none of these entries it is
abbrev pub NoneRemoves : ℕ → List Entry → Type 0
NoneRemoves s log = AllByRecursion (λ (e : Entry). removed_in s e ≡ false) log

module _ {K : Types} (app : Application K) where
  -- no call on the way of these moves clears the error of a boundary
  abbrev pub NoneClearsOn : (limits : Limits) (b : ℕ) (m v : Machine K) (moves : List Move) → Leads app limits m moves v → Type 0
  NoneClearsOn limits b m v [] leads = Unit {0}
  NoneClearsOn limits b m v (move ∷ moves) leads =
      AllByRecursion (λ (d : Deed K). NoneClears app b d.state d.scope d.polled d.wants) (move_deeds app m move)
      ×
      NoneClearsOn limits b leads.0 v moves leads.2

  -- the error that a boundary keeps stays until a call clears it, or the boundary is removed
  abbrev pub FirstErrorLasts : Type 0
  FirstErrorLasts =
      (limits : Limits) (m v : Machine K) (moves : List Move) (b : ℕ) (first : CapturedError) (leads : Leads app limits m moves v)
      → NoneRemoves b (entries moves)
      → NoneClearsOn limits b m v moves leads
      → (values_of m.state).error b ≡ Some first
      → (values_of v.state).error b ≡ Some first

  -- a hook that a scope keeps at an index stays there until the scope is removed
  abbrev pub HooksLast : Type 0
  HooksLast =
      (limits : Limits) (m v : Machine K) (moves : List Move) (owner index : ℕ) (hook : Hook K)
      → Leads app limits m moves v
      → NoneRemoves owner (entries moves)
      → nth (hooks_of m.state owner) index ≡ Some hook
      → nth (hooks_of v.state owner) index ≡ Some hook

  -- a task whose number was drawn goes on to hold a boundary until it ends, or the boundary is removed
  abbrev pub HoldersLast : Type 0
  HoldersLast =
      IsLawful K app
      → (limits : Limits) (m v : Machine K) (moves : List Move) (b t : ℕ)
      → Leads app limits m moves v
      → NoneRemoves b (entries moves)
      → t < m.state.next.tasks
      → is_some (at v.state.tasks t) ≡ true
      → holds_at m.state b t ≡ true
      → holds_at v.state b t ≡ true

  -- a log that is accepted within limits is that of moves on whose way the first error stays so
  abbrev pub LoggedFirstErrorLasts : Type 0
  LoggedFirstErrorLasts =
      (limits : Limits) (m v : Machine K) (log : List Entry) (b : ℕ) (first : CapturedError)
      → IsSettled m
      → replay_within app limits (Some m) log ≡ Some v
      → NoneRemoves b log
      → (values_of m.state).error b ≡ Some first
      → (moves : List Move)
      × (leads : Leads app limits m moves v)
      × (entries moves ≡ log)
      × (NoneClearsOn limits b m v moves leads → (values_of v.state).error b ≡ Some first)

  -- hooks along such logs
  abbrev pub LoggedHooksLast : Type 0
  LoggedHooksLast =
      (limits : Limits) (m v : Machine K) (log : List Entry) (owner index : ℕ) (hook : Hook K)
      → IsSettled m
      → replay_within app limits (Some m) log ≡ Some v
      → NoneRemoves owner log
      → nth (hooks_of m.state owner) index ≡ Some hook
      → nth (hooks_of v.state owner) index ≡ Some hook

  -- and holders
  abbrev pub LoggedHoldersLast : Type 0
  LoggedHoldersLast =
      IsLawful K app
      → (limits : Limits) (m v : Machine K) (log : List Entry) (b t : ℕ)
      → IsSettled m
      → replay_within app limits (Some m) log ≡ Some v
      → NoneRemoves b log
      → t < m.state.next.tasks
      → is_some (at v.state.tasks t) ≡ true
      → holds_at m.state b t ≡ true
      → holds_at v.state b t ≡ true
