-- What a splice makes of the row.
use Rattle.std.proofs.Common.{◌≡◌, ◌∙◌, ap, List, ◌+◌, ◌<◌, length, arith}
use Rattle.std.proofs.IntoIterSteps.{All-taken}
use Rattle.std.specs.List.{splice}
use Rattle.rt_edits.proofs.Found.{insert_at}
use Rattle.rt_edits.specs.declared.doc_node.DocNode.{DocNode}
use Rattle.rt_edits.proofs.change.insert_after.Goals as goal

pub returns-clause-ok : goal.returns-clause-ok
returns-clause-ok c =
    let h = c.in_ok-splice.ensures.items in
    let given = All-taken h.0 h.1 h.3 ∙ h.2.0 in
    let xs = c.args.row.now.items in
    let inside : c.args.at < length xs = omega (arith, c.args.row.now.ok, c.requires) in
    let put : c.splice.new.self.items ≡ splice xs (c.args.at + 1) (c.args.at + 1) c.args.nodes = h.4 ∙ ap (λ (ys : List DocNode). splice xs (c.args.at + 1) (c.args.at + 1) ys) (given ∙ c.into_vec.ensures.items) in
    put ∙ insert_at c.args.nodes xs c.args.at inside
