-- A row is passed, or it has the value; behind all of them there is none.
use Rattle.std.proofs.Common.{ap, sym, ◌∙◌}
use Rattle.std.proofs.lemmas.List.{get_or_default}
use Rattle.run_table.specs.Stands.{has_value}
use Rattle.run_table.proofs.Lives.{look-past, look-here, look-end}
use Rattle.run_table.proofs.shelf.first_index.Goals as goal

pub loop-index-preserved : goal.loop-index-preserved
loop-index-preserved g c =
    look-past c.args.rows.now c.loop-index.index c.args.number c.index-rows-index.result c.loop-index-test.true
    (ap (λ row. has_value row c.args.number) (sym c.index-rows-index.is) ∙ sym c.has_value.ensures ∙ c.if-has_value.false) c.loop-index.invariant

pub returns-then-has_value-clause-value : goal.returns-then-has_value-clause-value
returns-then-has_value-clause-value g c =
    λ row.
    ap (λ r. r.1) (get_or_default c.args.rows.now c.loop-index.index row c.index-rows-index.result c.loop-index-test.true)
    ∙ look-here c.args.rows.now c.loop-index.index c.args.number c.index-rows-index.result c.loop-index-test.true
    (ap (λ r. has_value r c.args.number) (sym c.index-rows-index.is) ∙ sym c.has_value.ensures ∙ c.if-has_value.true) c.loop-index.invariant

pub returns-clause-absent : goal.returns-clause-absent
returns-clause-absent g c = look-end c.args.rows.now c.loop-index.index c.args.number c.loop-index-test.false c.loop-index.invariant
