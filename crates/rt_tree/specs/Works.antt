-- The work that the steps of a patch do: numbers that are drawn, child scopes that are fed or made.
use Rattle.std.specs.Prelude.{ℕ, List, [], ◌∷◌, ◌++◌, map, Some, ◌≡◌}
use Rattle.rt_values.specs.declared.element.ElementId.{ElementId}
use Rattle.rt_values.specs.declared.names.ScopeId.{ScopeId}
use Rattle.tree_nodes.specs.declared.place.Step as nodes
use Rattle.tree_nodes.specs.declared.vnode.VComponent.{VComponent}
use Rattle.rt_model.specs.Lists.{joined}
use Rattle.rt_model.specs.OneLog.{types}
use Rattle.rt_model.specs.Run.{child_at}
use Rattle.rt_model.specs.State.{SideName, Item, Draw, Feed, Make}
use Rattle.rt_model.specs.Tree as model
use Rattle.rt_model.specs.Tree.{Place, Kind}
use Rattle.rt_model.specs.World.{Application}
use Rattle.tree_marks.specs.Deeds.{work_at}
use Rattle.tree_marks.specs.Marks.{Mark, stays, goes, comes, fed, left, made, given, worded, slot_goes, tree_goes, slot_way, tree_way, come_in, go_out, lone}
use Rattle.tree_mirror.specs.Sealed.{component_of}
use Rattle.run_named.specs.Named.{path_from, step_in, steps_from}
use Rattle.run_places.specs.Places.{side_of}
use Rattle.rt_tree.specs.declared.patch.Patch.{Patch}
use Rattle.rt_tree.specs.declared.step.PatchStep.{PatchStep}
use Rattle.rt_tree.specs.declared.step.PatchStep.TheVariants as s
use Rattle.rt_tree.specs.Runs.{Runs}

module _ {K : model.Types} (children : List (Place × ℕ)) where
  -- where a component stays, a child scope stands at its place
  abbrev pub HasChild : Mark K → Type 0
  HasChild (stays p k) = Unit {0}
  HasChild (goes p k) = Unit {0}
  HasChild (comes p k) = Unit {0}
  HasChild (fed p c d) = (t : ℕ) × (child_at children p ≡ Some t)
  HasChild (left p c) = Unit {0}
  HasChild (made p d) = Unit {0}
  HasChild (given above whole new old) = Unit {0}
  HasChild (worded p new old) = Unit {0}
  HasChild (slot_goes p old) = Unit {0}
  HasChild (tree_goes above old) = Unit {0}
  HasChild (slot_way p new old) = Unit {0}
  HasChild (tree_way above new old) = Unit {0}
  HasChild (come_in p front i new) = Unit {0}
  HasChild (go_out p i old) = Unit {0}
  HasChild (lone p new) = Unit {0}

  -- so it is at each of these marks
  abbrev pub AllHave : List (Mark K) → Type 0
  AllHave [] = Unit {0}
  AllHave (m ∷ ms) = HasChild m × AllHave ms

module _ {K : model.Types} (scope : ℕ) (side : SideName) where
  -- a number is drawn, which is told by the words of the place; and then what is later
  pub record Draws (id : ElementId) (steps : List nodes.Step) (path : List ℕ)
      (rest : List (Item K) → List (Place × Kind × ℕ) → Type 0) (is : List (Item K)) (ns : List (Place × Kind × ℕ)) : Type 0 where
    pub place : Place
    pub kind : Kind
    pub later : List (Item K)
    pub more : List (Place × Kind × ℕ)
    pub first : is ≡ Draw scope side place kind ∷ later
    pub number : ns ≡ (place, kind, id.0) ∷ more
    pub steps_are : map step_in steps ≡ steps_from 0 place
    pub path_is : path ≡ path_from [] place
    pub holds : rest later more

module _ {P C Q V H T E L : Type 0} (scope : ℕ) (side : SideName) where
  -- a scope is made
  pub record Makes (component : VComponent P C Q V H T E L) (rest : List (Item (types C Q V H T E L)) → Type 0)
      (is : List (Item (types C Q V H T E L))) : Type 0 where
    pub place : Place
    pub later : List (Item (types C Q V H T E L))
    pub first : is ≡ Make scope side place (component_of component) ∷ later
    pub holds : rest later

  -- the child scope of a place is fed
  pub record Feeds (children : List (Place × ℕ)) (t : ScopeId) (component : VComponent P C Q V H T E L)
      (rest : List (Item (types C Q V H T E L)) → Type 0)
      (is : List (Item (types C Q V H T E L))) : Type 0 where
    pub place : Place
    pub later : List (Item (types C Q V H T E L))
    pub child : child_at children place ≡ Some t.0
    pub first : is ≡ Feed scope side place (component_of component) ∷ later
    pub holds : rest later

  -- steps do this work, one thing after another, and draw these numbers
  abbrev pub Works : List (Place × ℕ) → List (PatchStep P C Q V H T E L) → List (Item (types C Q V H T E L)) → List (Place × Kind × ℕ)
      → Type 0
  Works children [] is ns = (is ≡ []) × (ns ≡ [])
  Works children (s.Drawn id steps path ∷ ss) is ns = Draws scope side id steps path (λ later more. Works children ss later more) is ns
  Works children (s.Make component ∷ ss) is ns = Makes component (λ later. Works children ss later ns) is
  Works children (s.Feed t component ∷ ss) is ns = Feeds children t component (λ later. Works children ss later ns) is
  Works children (s.Nodes t ∷ ss) is ns = Works children ss is ns
  Works children (s.Edit edit ∷ ss) is ns = Works children ss is ns
  Works children (s.Remove t ∷ ss) is ns = Works children ss is ns
  Works children (s.Gone id ∷ ss) is ns = Works children ss is ns
  Works children (s.Done ∷ ss) is ns = Works children ss is ns

  -- so it is from one time to a later one, and the numbers that are drawn stand behind those of the new block
  pub record WorksOn (p r : Patch P C Q V H T E L) (ss : List (PatchStep P C Q V H T E L))
      (is : List (Item (types C Q V H T E L))) : Type 0 where
    pub numbers : List (Place × Kind × ℕ)
    pub drawn : (side_of r.new.side).numbers ≡ (side_of p.new.side).numbers ++ numbers
    pub works : Works (side_of p.old).children ss is numbers

module _ (P : Type 0) {C Q V H T E L : Type 0} where
  -- along a run, where each component that stays has its child scope, steps do the work that marks open
  abbrev pub RunsWork : Application (types C Q V H T E L) → Type 0
  RunsWork app =
      (scope : ℕ) (side : SideName) (p r : Patch P C Q V H T E L) (ss : List (PatchStep P C Q V H T E L))
      (met : List (Mark (types C Q V H T E L) × Patch P C Q V H T E L))
      → Runs app p ss met r
      → AllHave (side_of p.old).children (map (λ x. x.0) met)
      → WorksOn scope side p r ss (joined (map (λ m. work_at scope side m) (map (λ x. x.0) met)))
