-- The cells are had, what the log has is read, and the desk is shown of it.
use Rattle.std.proofs.Common.{rules, ◌∙◌, ap, sym}
use Rattle.std.specs.Prelude.{Some}
use Rattle.rt_author.proofs.Rules.{at_done, one_after}
use Rattle.rt_author.specs.Signals.{get, own_pair}
use Rattle.rt_author.specs.Words.{Comes, call_of, reached, rendered, tree_of, world_of}
use Rattle.examples_board.specs.Meaning.{BoardTree, BoardTypes, desk_face, desk_in, desk_of, keeping, tree}
use Rattle.examples_board.specs.declared.parts.Cells.{Cells}
use Rattle.examples_board.proofs.bodies.desk.Goals as goal

pub returns-clause-came : goal.returns-clause-came
returns-clause-came c = λ had.
    let cx = c.args.cx.now in
    let one = c.own_pair.new.cx in
    let end = c.get.new.cx in
    let pair = c.in-Some.pair in
    let cells : Cells = record { tries = pair.source.0; log = pair.derived.0 } in
    let reading = get {K = BoardTypes} pair.derived.0 in
    let entries = c.in_ok-entries.entries in
    let shown = rendered (tree_of c.in_ok-desk_face.field-0) in
    let owned : Comes cx one (own_pair keeping 0 0) (Some pair) = search rules in
    let got : Comes one end reading entries = search rules in
    let then_on : Comes one end (desk_of cells) shown =
    one_after one end end reading (λ o. tree (desk_face cells o)) entries shown (search rules) got
    (at_done (world_of end.world) (rendered (tree_of (desk_face cells entries))) (call_of end)
    ∙ ap (λ (t : BoardTree). reached (rendered (tree_of t)) (call_of end)) (sym c.in_ok-desk_face.ensures.tree)) in
    one_after cx one end (own_pair keeping 0 0) (λ o. desk_in o) (Some pair) shown (search rules) owned then_on
