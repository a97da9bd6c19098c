-- What lasts of a node on a side of a scope: its number, until a tree comes that has no such node, or the scope is removed.
use Rattle.std.specs.Prelude.{ℕ, Bool, true, false, List, [], ◌∷◌, Option, Some, None, ◌≡◌, ◌<◌}
use Rattle.rt_model.specs.Lists.{at}
use Rattle.rt_model.specs.Tree.{Types, Place, Kind}
use Rattle.rt_model.specs.World.{Application}
use Rattle.rt_model.specs.State.{SideName, State, side_of}
use Rattle.rt_model.specs.Run.{has_node, spots_of}
use Rattle.rt_model.specs.Heard.{number_at}
use Rattle.rt_model.specs.Replay.{Entry, Machine}
use Rattle.rt_model.specs.Causes.{Limits, replay_within}
use Rattle.law_moves.specs.Moves.{Move, entries, IsSettled, Leads}
use Rattle.law_behavior.specs.Along.{NoneRemoves}

module _ {K : Types} where
  -- the number of a node of this kind at a place, 0 where there is none
  abbrev pub number_on : State K → ℕ → SideName → Place → Kind → ℕ
  number_on w s side p k = elim (at w.scopes s) [ None ↦ 0 | Some x ↦ number_at (side_of x side).numbers p k ]

  -- the tree of that side has such a node there
  abbrev pub node_on : State K → ℕ → SideName → Place → Kind → Bool
  node_on w s side p k = elim (at w.scopes s) [ None ↦ false | Some x ↦ has_node (spots_of (side_of x side).output) p k ]

module _ {K : Types} (app : Application K) where
  -- wherever these moves come to, it has
  abbrev pub NodeStays :
      (limits : Limits) (s : ℕ) (side : SideName) (p : Place) (k : Kind) (m v : Machine K) (moves : List Move)
      → Leads app limits m moves v
      → Type 0
  NodeStays limits s side p k m v [] leads = Unit {0}
  NodeStays limits s side p k m v (move ∷ moves) leads =
      (node_on (leads.0).state s side p k ≡ true) × NodeStays limits s side p k leads.0 v moves leads.2

  -- along moves a node that has a number keeps it, as long as the tree of its side has such a node and its scope isn't removed
  abbrev pub NumbersLast : Type 0
  NumbersLast =
      (limits : Limits) (m v : Machine K) (moves : List Move) (s : ℕ) (side : SideName) (p : Place) (k : Kind) (number : ℕ)
      → (leads : Leads app limits m moves v)
      → NoneRemoves s (entries moves)
      → NodeStays limits s side p k m v moves leads
      → 0 < number
      → number_on m.state s side p k ≡ number
      → number_on v.state s side p k ≡ number

  -- a log that is accepted within limits is that of moves on whose way numbers last so
  abbrev pub LoggedNumbersLast : Type 0
  LoggedNumbersLast =
      (limits : Limits) (m v : Machine K) (log : List Entry) (s : ℕ) (side : SideName) (p : Place) (k : Kind) (number : ℕ)
      → IsSettled m
      → replay_within app limits (Some m) log ≡ Some v
      → NoneRemoves s log
      → 0 < number
      → number_on m.state s side p k ≡ number
      → (moves : List Move)
      × (leads : Leads app limits m moves v)
      × (entries moves ≡ log)
      × (NodeStays limits s side p k m v moves leads → number_on v.state s side p k ≡ number)
