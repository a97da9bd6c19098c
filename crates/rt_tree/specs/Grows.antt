-- What a patch has grows: numbers, child scopes and given rows come after the others, and all else stays.
use Rattle.std.specs.Prelude.{ℕ, List, ◌++◌, ◌≡◌}
use Rattle.rt_edits.specs.declared.doc_node.DocNode.{DocNode}
use Rattle.rt_model.specs.Tree.{Place, Kind}
use Rattle.run_places.specs.Places.{side_of}
use Rattle.rt_tree.specs.declared.patch.Patch.{Patch}

module _ {P C Q V H T E L : Type 0} where
  pub record Grows (before after : Patch P C Q V H T E L) : Type 0 where
    pub old : after.old ≡ before.old
    pub shown : after.shown ≡ before.shown
    -- the rows that were given meanwhile
    pub rows : List (ℕ × List DocNode)
    pub given : (after.given).rows ≡ (before.given).rows ++ rows
    -- the numbers that were drawn meanwhile
    pub numbers : List (Place × Kind × ℕ)
    pub drawn : (side_of after.new.side).numbers ≡ (side_of before.new.side).numbers ++ numbers
    -- the child scopes that were made meanwhile
    pub children : List (Place × ℕ)
    pub made : (side_of after.new.side).children ≡ (side_of before.new.side).children ++ children
