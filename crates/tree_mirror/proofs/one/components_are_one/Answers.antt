use Rattle.tree_mirror.proofs.Components.{components_are_one}
use Rattle.tree_mirror.proofs.one.components_are_one.Goals as goal

pub returns : goal.returns
returns g c = λ a b h. components_are_one a b h
