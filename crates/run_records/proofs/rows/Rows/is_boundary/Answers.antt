-- By the scope that is found.
use Rattle.std.proofs.Common.{ap, sym, ◌∙◌}
use Rattle.run_records.proofs.RowsAt.{bound_found, bound-at}
use Rattle.run_records.proofs.rows.Rows.is_boundary.Goals as goal

pub returns-in-Some : goal.returns-in-Some
returns-in-Some g c =
    c.is_error_boundary.ensures ∙ ap bound_found c.in-Some.ensures.value ∙ sym (bound-at c.args.self.now.table c.args.id.0 (c.rises.ensures.rises c.if-not-rises.false))

pub returns-in-None : goal.returns-in-None
returns-in-None g c =
    ap bound_found c.in-None.ensures.value ∙ sym (bound-at c.args.self.now.table c.args.id.0 (c.rises.ensures.rises c.if-not-rises.false))
