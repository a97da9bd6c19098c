-- What lasts of a child scope: its place, as long as the tree of its parent's side has a component of one sort there.
use Rattle.std.specs.Prelude.{ℕ, true, List, [], ◌∷◌, Option, Some, None, ◌≡◌}
use Rattle.rt_model.specs.Lists.{at}
use Rattle.rt_model.specs.Tree.{Types, Place, Spot}
use Rattle.rt_model.specs.World.{Application}
use Rattle.rt_model.specs.Laws.{IsLawful}
use Rattle.rt_model.specs.State.{SideName, State, side_of, is_live}
use Rattle.rt_model.specs.Run.{child_at, component_in, spots_of}
use Rattle.rt_model.specs.Replay.{Entry, Input, Machine}
use Rattle.rt_model.specs.Causes.{Limits, replay_within}
use Rattle.law_moves.specs.Moves.{Move, entries, IsSettled, Leads}
use Rattle.law_moves.specs.Reached.{Reached}
use Rattle.law_moves.specs.Sorts.{ComponentSort, sort_of}
use Rattle.law_behavior.specs.Along.{NoneRemoves}

module _ {K : Types} where
  -- the child scope at a place
  abbrev pub child_on : State K → ℕ → SideName → Place → Option ℕ
  child_on w s side p = elim (at w.scopes s) [ None ↦ None | Some x ↦ child_at (side_of x side).children p ]

  -- the sort of the component at a place
  abbrev pub sort_in : List (Spot K) → Place → Option (ComponentSort K)
  sort_in spots p = elim (component_in spots p) [ None ↦ None | Some c ↦ Some (sort_of c) ]

  -- that of a side's tree
  abbrev pub sort_on : State K → ℕ → SideName → Place → Option (ComponentSort K)
  sort_on w s side p = elim (at w.scopes s) [ None ↦ None | Some x ↦ sort_in (spots_of (side_of x side).output) p ]

module _ {K : Types} (app : Application K) where
  -- wherever these moves come to, the tree of that side has a component of the sort there
  abbrev pub SortStays :
      (limits : Limits) (s : ℕ) (side : SideName) (p : Place) (sort : ComponentSort K) (m v : Machine K) (moves : List Move)
      → Leads app limits m moves v
      → Type 0
  SortStays limits s side p sort m v [] leads = Unit {0}
  SortStays limits s side p sort m v (move ∷ moves) leads =
      (sort_on (leads.0).state s side p ≡ Some sort) × SortStays limits s side p sort leads.0 v moves leads.2

  -- along moves of a lawful application a child scope stays at its place, as long as the tree of that side has a component of one sort
  -- there and its parent isn't removed
  abbrev pub ChildrenLast : Type 0
  ChildrenLast =
      IsLawful K app
      → (limits : Limits) (m v : Machine K) (moves : List Move) (s : ℕ) (side : SideName) (p : Place) (sort : ComponentSort K) (child : ℕ)
      → (leads : Leads app limits m moves v)
      → NoneRemoves s (entries moves)
      → sort_on m.state s side p ≡ Some sort
      → SortStays limits s side p sort m v moves leads
      → child_on m.state s side p ≡ Some child
      → child_on v.state s side p ≡ Some child

  -- so it does where they lead on from a machine that is reached to one without open work, and there it is live
  abbrev pub ChildrenStay : Type 0
  ChildrenStay =
      IsLawful K app
      → (limits : Limits) (props : K.Props) (inputs : List (Input K)) (m v : Machine K) (moves : List Move)
      → (s : ℕ) (side : SideName) (p : Place) (sort : ComponentSort K) (child : ℕ)
      → Reached app limits props inputs m
      → (leads : Leads app limits m moves v)
      → v.dead ≡ None
      → v.work ≡ []
      → NoneRemoves s (entries moves)
      → sort_on m.state s side p ≡ Some sort
      → SortStays limits s side p sort m v moves leads
      → child_on m.state s side p ≡ Some child
      → (child_on v.state s side p ≡ Some child) × (is_live v.state child ≡ true)

  -- a log that is accepted within limits is that of moves on whose way children last so
  abbrev pub LoggedChildrenLast : Type 0
  LoggedChildrenLast =
      IsLawful K app
      → (limits : Limits) (m v : Machine K) (log : List Entry) (s : ℕ) (side : SideName) (p : Place) (sort : ComponentSort K) (child : ℕ)
      → IsSettled m
      → replay_within app limits (Some m) log ≡ Some v
      → NoneRemoves s log
      → sort_on m.state s side p ≡ Some sort
      → child_on m.state s side p ≡ Some child
      → (moves : List Move)
      × (leads : Leads app limits m moves v)
      × (entries moves ≡ log)
      × (SortStays limits s side p sort m v moves leads → child_on v.state s side p ≡ Some child)
