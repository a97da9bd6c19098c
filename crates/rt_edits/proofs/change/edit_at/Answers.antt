-- What an edit of a node in its place makes of the row.
use Rattle.std.proofs.Common.{◌<◌, length, arith}
use Rattle.rt_edits.specs.Document.{node_after}
use Rattle.rt_edits.proofs.Found.{edited_at}
use Rattle.rt_edits.proofs.change.edit_at.Goals as goal

pub returns-clause-ok : goal.returns-clause-ok
returns-clause-ok c =
    let xs = c.args.row.now.items in
    let inside : c.args.at < length xs = omega (arith, c.args.row.now.ok, c.requires) in
    edited_at (node_after c.args.edit) xs c.args.at c.index_mut.result.now c.edit_node.new.node inside c.index_mut.ensures.value c.in_ok-edit_node.ensures.ok
