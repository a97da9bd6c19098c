-- The row of the number has its seat, if any.
use Rattle.std.proofs.Common.{ap, sym, ◌∙◌}
use Rattle.std.specs.Prelude.{is_some}
use Rattle.rt_sched.proofs.Taken.{at_row, none_if}
use Rattle.rt_sched.proofs.seating.row_of.Goals as goal

pub returns-then-is_some-clause-has : goal.returns-then-is_some-clause-has
returns-then-is_some-clause-has c =
    let row = at_row c.args.rows.now 0 c.in-Some.index c.args.number c.in-Some.ensures.within c.in-Some.ensures.own c.requires.rises c.index-rows-index.result in
    ap is_some (sym row) ∙ sym c.is_some.ensures ∙ c.if-is_some.true

pub returns-else-is_some-clause-absent : goal.returns-else-is_some-clause-absent
returns-else-is_some-clause-absent c =
    let row = at_row c.args.rows.now 0 c.in-Some.index c.args.number c.in-Some.ensures.within c.in-Some.ensures.own c.requires.rises c.index-rows-index.result in
    sym row ∙ none_if _ (sym c.is_some.ensures ∙ c.if-is_some.false)
