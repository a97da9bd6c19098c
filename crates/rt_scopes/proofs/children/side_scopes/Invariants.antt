-- The scopes so far, and those of the spots that are left, are those of all spots.
use Rattle.std.proofs.Common.{◌≡◌, ◌++◌, drop}
use Rattle.run_state.specs.Mirror.{state_of}
use Rattle.rt_scopes.specs.Sides.{children_at}
use Rattle.rt_scopes.proofs.children.side_scopes.Given as goal

abbrev pub invariant-loop-spot : goal.invariant-loop-spot
invariant-loop-spot g l =
    (kept : _)
    → l.scopes ++ children_at (state_of kept l.state) l.side (drop l.spot-index l.spot-items)
    ≡ children_at (state_of kept l.state) l.side l.spot-items
