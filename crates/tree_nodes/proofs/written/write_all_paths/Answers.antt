use Rattle.std.proofs.Common.{◌∙◌}
use Rattle.tree_nodes.specs.Forms.{paths_in_form}
use Rattle.tree_nodes.proofs.written.write_all_paths.Goals as goal

pub returns : goal.returns
returns c =
    λ rest.
    c.in_ok-write_paths.ensures rest ∙ c.in_ok-write_mark.ensures (paths_in_form c.args.paths.now rest)
