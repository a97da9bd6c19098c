-- The items so far, and those of the children that are left, are those of all children.
use Rattle.std.proofs.Common.{◌≡◌, ◌++◌, drop}
use Rattle.rt_model.specs.Boundary.{drop_items}
use Rattle.run_places.specs.Places.{side_name_of}
use Rattle.run_work.specs.Items.{work_of}
use Rattle.rt_boundary.proofs.parts.drop_items.Given as goal

abbrev pub invariant-loop-child : goal.invariant-loop-child
invariant-loop-child g l = work_of l.items ++ drop_items l.boundary (side_name_of l.side) (drop l.child-index l.children) ≡ drop_items l.boundary (side_name_of l.side) l.children
