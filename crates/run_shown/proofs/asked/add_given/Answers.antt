-- A row under another number is passed over, and the numbers of the one under this number come after the others.
use Rattle.std.proofs.Common.{◌∙◌, ◌++◌, ap, refl, sym}
use Rattle.std.proofs.lemmas.Result.{on_ok_weaker}
use Rattle.tree_edits.specs.Documents.{forest_of}
use Rattle.run_shown.specs.Given.{rows_under}
use Rattle.run_shown.specs.Tops.{tops_of}
use Rattle.run_shown.proofs.Givens.{found, none_given, passed}
use Rattle.run_shown.proofs.OneByOne.{nil-right}
use Rattle.run_shown.proofs.asked.add_given.Goals as goal

pub loop-pair-init : goal.loop-pair-init
loop-pair-init c = (refl, refl)

pub loop-pair-preserved : goal.loop-pair-preserved
loop-pair-preserved c =
    (c.loop-pair.invariant.0, sym (passed c.as_slice-pair-items.result.now c.loop-pair.pair-index c.args.scope c.pair-item.result c.loop-pair-test.true c.pair-item.is c.if-pair-scope.false) ∙ c.loop-pair.invariant.1)

pub returns-then-pair-scope : goal.returns-then-pair-scope
returns-then-pair-scope c =
    let rows = c.as_slice-pair-items.result.now in
    on_ok_weaker c.add_numbers.result
    (
    λ h.
    h
    ∙ ap (λ r. r ++ tops_of (forest_of c.as_slice.result.now)) c.loop-pair.invariant.0
    ∙ ap (λ f. c.args.tops.now ++ tops_of f)
    (ap forest_of c.as_slice.ensures.items
    ∙ sym (found rows c.loop-pair.pair-index c.args.scope c.pair-item.result c.loop-pair-test.true c.pair-item.is c.if-pair-scope.true)
    ∙ c.loop-pair.invariant.1
    ∙ ap (λ rs. rows_under rs c.args.scope) c.as_slice-pair-items.ensures.items)
    )
    c.add_numbers.ensures

pub returns : goal.returns
returns c =
    let rows = c.as_slice-pair-items.result.now in
    c.loop-pair.invariant.0
    ∙ sym (nil-right c.args.tops.now)
    ∙ ap (λ f. c.args.tops.now ++ tops_of f)
    (sym (none_given rows c.loop-pair.pair-index c.args.scope c.loop-pair-test.false) ∙ c.loop-pair.invariant.1 ∙ ap (λ rs. rows_under rs c.args.scope) c.as_slice-pair-items.ensures.items)
