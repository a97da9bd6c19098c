-- A template stands where there is a node.
use Rattle.lang_views.proofs.Views.{some-nodes, empty-some, tree-some}
use Rattle.lang_views.proofs.planning.template_for.Goals as goal

pub returns-in_ok-template_of-clause-empty : goal.returns-in_ok-template_of-clause-empty
returns-in_ok-template_of-clause-empty c = empty-some c.args.nodes.now (some-nodes c.args.nodes.now c.if-is_empty.ensures)

pub returns-in_ok-template_of-clause-tree : goal.returns-in_ok-template_of-clause-tree
returns-in_ok-template_of-clause-tree c =
    λ filling. tree-some c.args.nodes.now c.in_ok-template_of.field-0 filling (some-nodes c.args.nodes.now c.if-is_empty.ensures) c.in_ok-template_of.ensures.template
