use Rattle.tree_nodes.proofs.template.Template.new.Goals as goal

pub invariant_of-result : goal.invariant_of-result
invariant_of-result c = rw c.in_ok-written.ensures.ok c.in_ok-form.ensures
