-- What stands wherever moves lead from a replay's start: the scopes are a tree, and where no work is open each of them shows a node.
use Rattle.std.specs.Prelude.{ℕ, true, List, [], Some, None, Contains, ◌≡◌}
use Rattle.rt_model.specs.Lists.{at}
use Rattle.rt_model.specs.Tree.{Types, Tree, Place, VComponent, spots, component_at}
use Rattle.rt_model.specs.World.{Application}
use Rattle.rt_model.specs.Laws.{IsLawful}
use Rattle.rt_model.specs.State.{SideName, Scope, State, side_of}
use Rattle.rt_model.specs.View.{nodes_of, view}
use Rattle.rt_model.specs.Once.{NumbersOnce}
use Rattle.rt_model.specs.Replay.{Input, Machine}
use Rattle.rt_model.specs.Causes.{Limits}
use Rattle.law_moves.specs.Reached.{Reached}
use Rattle.law_moves.specs.Meets.{HasNode}
use Rattle.law_moves.specs.Trees.{IsUnfolded, IsTree, HasChild, StandsOnce}

module _ {K : Types} (app : Application K) where
  -- of a lawful application it holds of each machine that moves reach, until a fault ends the run
  abbrev pub Everywhere : (Machine K → Type 0) → Type 0
  Everywhere holds =
      IsLawful K app
      → (limits : Limits) (props : K.Props) (inputs : List (Input K)) (m : Machine K)
      → Reached app limits props inputs m
      → m.dead ≡ None
      → holds m

  -- it holds of each state where no work is open, once the build has begun
  abbrev pub WhereSettled : (State K → Type 0) → Type 0
  WhereSettled holds = Everywhere (λ m. m.built ≡ true → m.work ≡ [] → holds m.state)

  -- the scopes are a tree by their heights
  abbrev pub ReachedAreTrees : Type 0
  ReachedAreTrees = Everywhere (λ m. IsTree m.state)

  -- no scope but the first is without a parent
  abbrev pub ReachedHaveOneRoot : Type 0
  ReachedHaveOneRoot = Everywhere (λ m. (s : ℕ) (x : Scope K) → at m.state.scopes s ≡ Some x → x.parent ≡ None → s ≡ 0)

  -- so the nodes of each scope are what its side shows with those of its child scopes
  abbrev pub ReachedUnfold : Type 0
  ReachedUnfold = Everywhere (λ m. IsUnfolded m.state)

  -- each live scope shows a side that has an output
  abbrev pub SettledShowSides : Type 0
  SettledShowSides =
      WhereSettled
      (
      λ w.
      (s : ℕ) (x : Scope K)
      → at w.scopes s ≡ Some x
      → (a : SideName) × (tree : Tree K) × (x.shows ≡ Some a) × ((side_of x a).output ≡ Some tree)
      )

  -- each component of an output has its child
  abbrev pub SettledHaveChildren : Type 0
  SettledHaveChildren =
      WhereSettled
      (
      λ w.
      (s : ℕ) (x : Scope K) (a : SideName) (tree : Tree K) (p : Place) (c : VComponent K)
      → at w.scopes s ≡ Some x
      → (side_of x a).output ≡ Some tree
      → Contains (spots [] tree) (component_at p c)
      → HasChild w s x a p
      )

  -- and each scope that has a parent stands once at a component of the parent's side
  abbrev pub SettledStandOnce : Type 0
  SettledStandOnce =
      WhereSettled
      (
      λ w.
      (t s : ℕ) (y : Scope K)
      → at w.scopes t ≡ Some y
      → y.parent ≡ Some s
      → (x : Scope K) × (at w.scopes s ≡ Some x) × StandsOnce w s x y.below t
      )

  -- the nodes of a live scope begin with one
  abbrev pub SettledShowNodes : Type 0
  SettledShowNodes = WhereSettled (λ w. (s : ℕ) (x : Scope K) → at w.scopes s ≡ Some x → HasNode (nodes_of w s))

  -- what shows has no number twice
  abbrev pub SettledNumberOnce : Type 0
  SettledNumberOnce = WhereSettled (λ w. NumbersOnce (view w))
