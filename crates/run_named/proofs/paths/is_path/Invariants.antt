use Rattle.std.proofs.Common.{◌≡◌, drop}
use Rattle.rt_model.specs.Lists.{same_numbers}
use Rattle.run_named.proofs.paths.is_path.Given as goal

abbrev pub invariant-loop-at : goal.invariant-loop-at
invariant-loop-at l = same_numbers l.left l.right ≡ same_numbers (drop l.at l.left) (drop l.at l.right)
