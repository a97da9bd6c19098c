-- What a step does of a mark: a number is drawn, a child scope is fed, or is to be made.
use Rattle.std.specs.Prelude.{ℕ, List, [], ◌∷◌, ◌++◌, map, Option, None, Some, ◌≡◌}
use Rattle.rt_values.specs.declared.names.ScopeId.{ScopeId}
use Rattle.tree_nodes.specs.declared.place.Step as nodes
use Rattle.tree_nodes.specs.declared.vnode.VComponent.{VComponent}
use Rattle.rt_model.specs.OneLog.{types}
use Rattle.rt_model.specs.Run.{child_at}
use Rattle.rt_model.specs.Tree as model
use Rattle.rt_model.specs.Tree.{Place, Kind}
use Rattle.tree_marks.specs.Marks.{Mark, stays, goes, comes, fed, left, made, given, worded, slot_goes, tree_goes, slot_way, tree_way, come_in, go_out, lone}
use Rattle.tree_mirror.specs.Sealed.{component_of}
use Rattle.run_named.specs.Named.{path_from, step_in, steps_from}
use Rattle.run_places.specs.declared.place.Step.{Step}
use Rattle.run_places.specs.Places.{place_of, side_of}
use Rattle.run_places.specs.Sides.{and_number}
use Rattle.rt_tree.specs.declared.patch.Patch.{Patch}
use Rattle.rt_tree.specs.declared.patch.Phase.TheVariants as waiting
use Rattle.rt_tree.specs.declared.step.PatchStep.{PatchStep}
use Rattle.rt_tree.specs.declared.step.PatchStep.TheVariants as s
use Rattle.rt_tree.specs.Told.{UnlessNew}

module _ {K : model.Types} where
  -- nothing new comes at a mark
  abbrev pub IsStill : Mark K → Type 0
  IsStill (stays p k) = Unit {0}
  IsStill (goes p k) = Unit {0}
  IsStill (comes p k) = ⊥
  IsStill (fed p c d) = Unit {0}
  IsStill (left p c) = Unit {0}
  IsStill (made p d) = ⊥
  IsStill (given above whole new old) = Unit {0}
  IsStill (worded p new old) = Unit {0}
  IsStill (slot_goes p old) = Unit {0}
  IsStill (tree_goes above old) = Unit {0}
  IsStill (slot_way p new old) = Unit {0}
  IsStill (tree_way above new old) = Unit {0}
  IsStill (come_in p front i new) = Unit {0}
  IsStill (go_out p i old) = Unit {0}
  IsStill (lone p new) = Unit {0}

  -- nor at any of these
  abbrev pub AllStill : List (Mark K) → Type 0
  AllStill [] = Unit {0}
  AllStill (m ∷ ms) = IsStill m × AllStill ms

module _ {K : model.Types} (children : List (Place × ℕ)) where
  -- nor is a child scope fed, of those that the old block has
  abbrev pub IsQuiet : Mark K → Type 0
  IsQuiet (stays p k) = Unit {0}
  IsQuiet (goes p k) = Unit {0}
  IsQuiet (comes p k) = ⊥
  IsQuiet (fed p c d) = child_at children p ≡ None
  IsQuiet (left p c) = Unit {0}
  IsQuiet (made p d) = ⊥
  IsQuiet (given above whole new old) = Unit {0}
  IsQuiet (worded p new old) = Unit {0}
  IsQuiet (slot_goes p old) = Unit {0}
  IsQuiet (tree_goes above old) = Unit {0}
  IsQuiet (slot_way p new old) = Unit {0}
  IsQuiet (tree_way above new old) = Unit {0}
  IsQuiet (come_in p front i new) = Unit {0}
  IsQuiet (go_out p i old) = Unit {0}
  IsQuiet (lone p new) = Unit {0}

  -- nor at any of these
  abbrev pub AllQuiet : List (Mark K) → Type 0
  AllQuiet [] = Unit {0}
  AllQuiet (m ∷ ms) = IsQuiet m × AllQuiet ms

module _ {K : model.Types} where
  -- what holds of the last of these marks; nothing is done at those in front of it
  pub record Last (children : List (Place × ℕ)) (marks : List (Mark K)) (fact : Mark K → Type 0) : Type 0 where
    pub front : List (Mark K)
    pub mark : Mark K
    pub is : marks ≡ front ++ mark ∷ []
    pub still : AllQuiet children front
    pub holds : fact mark

module _ {P C Q V H T E L : Type 0} where
  -- a node comes, and the new block has the number at its place, which is told in these words
  pub record DrawsFor (m : Mark (types C Q V H T E L)) (before : Patch P C Q V H T E L) (n : ℕ) (steps : List nodes.Step) (path : List ℕ)
      (after : Patch P C Q V H T E L) : Type 0 where
    pub place : Place
    pub kind : Kind
    pub mark : m ≡ comes place kind
    pub side : side_of after.new.side ≡ and_number (side_of before.new.side) (place, kind, n)
    pub steps_are : map step_in steps ≡ steps_from 0 place
    pub path_is : path ≡ path_from [] place

  -- a component comes, and the scope that is given next has its place
  pub record MakesFor (m : Mark (types C Q V H T E L)) (before : Patch P C Q V H T E L) (component : VComponent P C Q V H T E L)
      (after : Patch P C Q V H T E L) : Type 0 where
    pub steps : List Step
    pub mark : m ≡ made (place_of steps) (component_of component)
    pub phase : after.phase ≡ waiting.Make steps
    pub side : after.new.side ≡ before.new.side

  -- a component stays, and the scope is the child that the old block has at its place
  pub record FeedsFor (m : Mark (types C Q V H T E L)) (before : Patch P C Q V H T E L) (scope : ScopeId)
      (component : VComponent P C Q V H T E L)
      (after : Patch P C Q V H T E L) : Type 0 where
    pub place : Place
    pub was : model.VComponent (types C Q V H T E L)
    pub mark : m ≡ fed place was (component_of component)
    pub child : child_at (side_of before.old).children place ≡ Some scope.0
    pub side : after.new.side ≡ before.new.side
    -- no edit is left over
    pub spent : after.edits.items ≡ []

  -- a step by a mark; the others leave the new block
  abbrev pub Does : Mark (types C Q V H T E L) → Patch P C Q V H T E L → PatchStep P C Q V H T E L → Patch P C Q V H T E L → Type 0
  Does m before (s.Drawn id steps path) after = DrawsFor m before id.0 steps path after
  Does m before (s.Make component) after = MakesFor m before component after
  Does m before (s.Feed scope component) after = FeedsFor m before scope component after
  Does m before (s.Nodes scope) after = after.new.side ≡ before.new.side
  Does m before (s.Edit edit) after = after.new.side ≡ before.new.side
  Does m before (s.Remove scope) after = after.new.side ≡ before.new.side
  Does m before (s.Gone id) after = after.new.side ≡ before.new.side
  Does m before s.Done after = after.new.side ≡ before.new.side

  -- nothing new comes at a mark that leads to no step, or to an edit, and no child scope is fed
  abbrev pub StillFor : List (Place × ℕ) → Option (PatchStep P C Q V H T E L) → Mark (types C Q V H T E L) → Type 0
  StillFor children None m = IsQuiet children m
  StillFor children (Some step) m = UnlessNew step (IsQuiet children m)

  -- nothing is done at all, and the new block stays
  pub record Rests (passed : List (Mark (types C Q V H T E L))) (before after : Patch P C Q V H T E L) : Type 0 where
    pub side : after.new.side ≡ before.new.side
    pub still : AllQuiet (side_of before.old).children passed

  -- a step by the last of the marks that it passes
  abbrev pub DoneBy : List (Mark (types C Q V H T E L)) → Patch P C Q V H T E L → PatchStep P C Q V H T E L → Patch P C Q V H T E L → Type 0
  DoneBy passed before (s.Drawn id steps path) after = Last (side_of before.old).children passed
      (λ m. DrawsFor m before id.0 steps path after)
  DoneBy passed before (s.Make component) after = Last (side_of before.old).children passed (λ m. MakesFor m before component after)
  DoneBy passed before (s.Feed scope component) after = Last (side_of before.old).children passed
      (λ m. FeedsFor m before scope component after)
  DoneBy passed before (s.Nodes scope) after = Rests passed before after
  DoneBy passed before (s.Edit edit) after = Rests passed before after
  DoneBy passed before (s.Remove scope) after = Rests passed before after
  DoneBy passed before (s.Gone id) after = Rests passed before after
  DoneBy passed before s.Done after = Rests passed before after
