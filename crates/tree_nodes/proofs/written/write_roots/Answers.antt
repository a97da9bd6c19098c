use Rattle.std.proofs.Common.{◌∙◌}
use Rattle.tree_nodes.specs.Forms.{nodes_in_form}
use Rattle.tree_nodes.proofs.written.write_roots.Goals as goal

pub returns : goal.returns
returns c =
    λ rest.
    c.in_ok-write_nodes.ensures rest ∙ c.in_ok-write_mark.ensures (nodes_in_form c.args.nodes.now rest)
