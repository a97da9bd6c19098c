-- A row under another number is passed over, and the one under this number comes after the others.
use Rattle.std.proofs.Common.{◌∙◌, ap, refl, sym}
use Rattle.std.proofs.lemmas.Result.{on_ok_weaker}
use Rattle.rt_model.specs.Document.{join_rows}
use Rattle.tree_edits.specs.Documents.{forest_of}
use Rattle.run_shown.specs.Given.{rows_under}
use Rattle.run_shown.proofs.Forests.{forest-append, join-empty}
use Rattle.run_shown.proofs.Givens.{found, none_given, passed}
use Rattle.run_shown.proofs.asked.show_given.Goals as goal

pub loop-pair-init : goal.loop-pair-init
loop-pair-init c = (refl, refl)

pub loop-pair-preserved : goal.loop-pair-preserved
loop-pair-preserved c =
    (c.loop-pair.invariant.0, sym (passed c.as_slice-pair-items.result.now c.loop-pair.pair-index c.args.scope c.pair-item.result c.loop-pair-test.true c.pair-item.is c.if-pair-scope.false) ∙ c.loop-pair.invariant.1)

pub returns-then-pair-scope : goal.returns-then-pair-scope
returns-then-pair-scope c =
    let rows = c.as_slice-pair-items.result.now in
    let before = c.args.row.now in
    on_ok_weaker c.add_copies.result
    (
    λ h.
    ap forest_of h
    ∙ forest-append c.loop-pair.row c.as_slice.result.now
    ∙ ap (λ r. join_rows (forest_of r) (forest_of c.as_slice.result.now)) c.loop-pair.invariant.0
    ∙ ap (λ f. join_rows (forest_of before) f)
    (ap forest_of c.as_slice.ensures.items
    ∙ sym (found rows c.loop-pair.pair-index c.args.scope c.pair-item.result c.loop-pair-test.true c.pair-item.is c.if-pair-scope.true)
    ∙ c.loop-pair.invariant.1
    ∙ ap (λ rs. rows_under rs c.args.scope) c.as_slice-pair-items.ensures.items)
    )
    c.add_copies.ensures

pub returns : goal.returns
returns c =
    let rows = c.as_slice-pair-items.result.now in
    let before = c.args.row.now in
    ap forest_of c.loop-pair.invariant.0
    ∙ sym (join-empty (forest_of before))
    ∙ ap (λ f. join_rows (forest_of before) f)
    (sym (none_given rows c.loop-pair.pair-index c.args.scope c.loop-pair-test.false) ∙ c.loop-pair.invariant.1 ∙ ap (λ rs. rows_under rs c.args.scope) c.as_slice-pair-items.ensures.items)
