-- One row after another.
use Rattle.std.proofs.Common.{◌≡◌, sym, ◌∙◌}
use Rattle.run_records.proofs.RowsAt.{bound-past, bound-here, bound-end}
use Rattle.run_records.proofs.rows.is_boundary_in.Goals as goal

pub returns-then-bounds : goal.returns-then-bounds
returns-then-bounds g c =
    bound-here c.args.scopes.now c.args.number c.loop-entry.entry-index c.entry-item.result c.loop-entry-test.true c.entry-item.is (sym c.bounds.ensures ∙ c.if-bounds.true) ∙ c.loop-entry.invariant

pub loop-entry-preserved : goal.loop-entry-preserved
loop-entry-preserved g c =
    bound-past c.args.scopes.now c.args.number c.loop-entry.entry-index c.entry-item.result c.loop-entry-test.true c.entry-item.is (sym c.bounds.ensures ∙ c.if-bounds.false) ∙ c.loop-entry.invariant

pub returns : goal.returns
returns g c = bound-end c.args.scopes.now c.args.number c.loop-entry.entry-index c.loop-entry-test.false ∙ c.loop-entry.invariant
