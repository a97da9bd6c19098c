-- The value is read, and shown.
use Rattle.std.proofs.Common.{rules, ◌∙◌, ap, sym}
use Rattle.rt_author.proofs.Rules.{at_done, one_after}
use Rattle.rt_author.specs.Signals.{get}
use Rattle.rt_author.specs.Words.{Comes, call_of, reached, rendered, tree_of, world_of}
use Rattle.examples_derived.specs.Meaning.{DerivedTree, face, tree}
use Rattle.examples_derived.proofs.derived.showing.Goals as goal

pub returns-clause-came : goal.returns-clause-came
returns-clause-came c =
    let cx = c.args.cx.now in
    let end = c.get.new.cx in
    let read = c.in_ok-read.read in
    let shown = rendered (tree_of c.in_ok-face.field-0) in
    let got : Comes cx end (get c.args.cell) read = search rules in
    one_after cx end end (get c.args.cell) (λ o. tree (face o)) read shown (search rules) got
    (at_done (world_of end.world) (rendered (tree_of (face read))) (call_of end)
    ∙ ap (λ (t : DerivedTree). reached (rendered (tree_of t)) (call_of end)) (sym c.in_ok-face.ensures.tree))
