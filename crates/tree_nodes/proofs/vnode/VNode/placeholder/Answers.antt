use Rattle.std.proofs.Common.{◌≡◌, [], ◌∷◌, rules}
use Rattle.tree_nodes.specs.declared.vnode.DynamicNode.TheVariants.{Placeholder}
use Rattle.tree_nodes.proofs.TreePlaces.{slots-placeholder}
use Rattle.tree_nodes.proofs.vnode.VNode.placeholder.Goals as goal

pub returns-clause-slots : goal.returns-clause-slots
returns-clause-slots g c =
    let one : c.in_ok-template.dynamic_nodes ≡ Placeholder ∷ [] = search rules in
    slots-placeholder (record { template = c.in_ok-template.template; dynamic_nodes = c.in_ok-template.dynamic_nodes; dynamic_attrs = c.empty.result }) one
