-- Whether a number is drawn next.
use Rattle.std.specs.Prelude.{List, [], ◌∷◌, ◌≡◌, ◌⊎◌}
use Rattle.rt_model.specs.OneLog.{types}
use Rattle.rt_model.specs.Tree.{Types}
use Rattle.rt_model.specs.World.{Application}
use Rattle.tree_marks.specs.Marks.{Mark, stays, goes, comes, fed, left, made, given, worded, slot_goes, tree_goes, slot_way, tree_way, come_in, go_out, lone}
use Rattle.run_places.specs.Places.{side_of}
use Rattle.rt_tree.specs.declared.patch.Patch.{Patch}
use Rattle.rt_tree.specs.Asks.{IsKnown}
use Rattle.rt_tree.specs.Does.{IsQuiet}
use Rattle.rt_tree.specs.Served.{edits_left, marks_left, writes_now}

module _ {K : Types} where
  -- a node comes
  abbrev pub IsComing : Mark K → Type 0
  IsComing (stays p k) = ⊥
  IsComing (goes p k) = ⊥
  IsComing (comes p k) = Unit {0}
  IsComing (fed p c d) = ⊥
  IsComing (left p c) = ⊥
  IsComing (made p d) = ⊥
  IsComing (given above whole new old) = ⊥
  IsComing (worded p new old) = ⊥
  IsComing (slot_goes p old) = ⊥
  IsComing (tree_goes above old) = ⊥
  IsComing (slot_way p new old) = ⊥
  IsComing (tree_way above new old) = ⊥
  IsComing (come_in p front i new) = ⊥
  IsComing (go_out p i old) = ⊥
  IsComing (lone p new) = ⊥

module _ {P C Q V H T E L : Type 0} (app : Application (types C Q V H T E L)) where
  -- a mark leads to no step: nothing is done there, no scope has to be asked, and nothing is written
  pub record LeadsNowhere (p : Patch P C Q V H T E L) (m : Mark (types C Q V H T E L)) : Type 0 where
    pub quiet : IsQuiet (side_of p.old).children m
    pub known : IsKnown p m
    pub silent : writes_now app p m ≡ []

  -- the first of these marks that leads to a step is a node that comes
  abbrev pub DrawsAt : Patch P C Q V H T E L → List (Mark (types C Q V H T E L)) → Type 0
  DrawsAt p [] = ⊥
  DrawsAt p (m ∷ ms) = IsComing m ⊎ (LeadsNowhere p m × DrawsAt p ms)

  -- no edit is left over, and so it is of the marks that are left: a number is drawn next
  pub record DrawsNext (p : Patch P C Q V H T E L) : Type 0 where
    pub none : edits_left p ≡ []
    pub marks : DrawsAt p (marks_left p)
