-- What lasts of a scope: its component, with the props that it was handed last, until it is fed or removed.
use Rattle.std.specs.Prelude.{ℕ, Bool, false, nat_eq, List, Option, Some, None, ◌≡◌}
use Rattle.std.specs.List.{AllByRecursion}
use Rattle.rt_model.specs.Lists.{at}
use Rattle.rt_model.specs.Tree.{Types, VComponent}
use Rattle.rt_model.specs.World.{Application}
use Rattle.rt_model.specs.State.{State}
use Rattle.rt_model.specs.Replay.{Entry, Fed, Kept, Machine}
use Rattle.rt_model.specs.Causes.{Limits, replay_within}
use Rattle.law_moves.specs.Moves.{Move, entries, IsSettled, Leads}
use Rattle.law_behavior.specs.Along.{NoneRemoves}

-- in this entry a scope is handed a component
abbrev pub fed_in : ℕ → Entry → Bool
fed_in s (Fed t) = nat_eq t s
fed_in s (Kept t) = nat_eq t s
fed_in s _ = false

-- in none of these entries it is
abbrev pub NoneFeeds : ℕ → List Entry → Type 0
NoneFeeds s log = AllByRecursion (λ (e : Entry). fed_in s e ≡ false) log

-- the component of a live scope
abbrev pub component_of : {K : Types} → State K → ℕ → Option (VComponent K)
component_of w s = elim (at w.scopes s) [ None ↦ None | Some x ↦ Some x.component ]

module _ {K : Types} (app : Application K) where
  -- along moves a scope keeps its component with its props until it is handed another one, or is removed
  abbrev pub ComponentsLast : Type 0
  ComponentsLast =
      (limits : Limits) (m v : Machine K) (moves : List Move) (s : ℕ) (c : VComponent K)
      → Leads app limits m moves v
      → NoneRemoves s (entries moves)
      → NoneFeeds s (entries moves)
      → component_of m.state s ≡ Some c
      → component_of v.state s ≡ Some c

  -- and along logs that are accepted within limits
  abbrev pub LoggedComponentsLast : Type 0
  LoggedComponentsLast =
      (limits : Limits) (m v : Machine K) (log : List Entry) (s : ℕ) (c : VComponent K)
      → IsSettled m
      → replay_within app limits (Some m) log ≡ Some v
      → NoneRemoves s log
      → NoneFeeds s log
      → component_of m.state s ≡ Some c
      → component_of v.state s ≡ Some c
