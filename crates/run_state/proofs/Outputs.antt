-- What is seen of a scope's row, at the mirror.
use Rattle.std.proofs.Common.{◌≡◌, Option, Some, None, option_map, refl}
use Rattle.tree_nodes.specs.declared.vnode.VNode.{VNode}
use Rattle.tree_mirror.specs.Sealed.{tree_of}
use Rattle.run_places.specs.Places.{output_of}

module _ {P C Q V H T E L : Type 0} where
  -- a kept output
  pub mapped-output : (output : Option (VNode P C Q V H T E L)) → option_map tree_of output ≡ output_of output
  mapped-output None = refl
  mapped-output (Some tree) = refl

pub ruleset seen = (mapped-output)
