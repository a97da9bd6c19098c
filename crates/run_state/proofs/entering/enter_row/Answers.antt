-- A row whose number isn't entered is taken off again.
use Rattle.run_state.proofs.entering.enter_row.Goals as goal

pub returns-in-Ok-clause-rows : goal.returns-in-Ok-clause-rows
returns-in-Ok-clause-rows g c = (c.new_scope-scope.result, c.new_scope-scope.ensures, c.in_ok-push.ensures.ok)

pub returns-in-Err-clause-rows_err : goal.returns-in-Err-clause-rows_err
returns-in-Err-clause-rows_err g c = c.take_last.ensures.off c.args.rows.now (c.args.number, c.new_scope-scope.result) c.in_ok-push.ensures.ok
