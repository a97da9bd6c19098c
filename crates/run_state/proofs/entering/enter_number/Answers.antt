-- A number that was put at the end is taken off again.
use Rattle.run_state.proofs.Waiting.{taken_off}
use Rattle.run_state.proofs.entering.enter_number.Goals as goal

pub returns-in-Err-clause-fresh_err : goal.returns-in-Err-clause-fresh_err
returns-in-Err-clause-fresh_err c = taken_off c.args.fresh.now c.push.new.self c.pop-last.new.self c.args.number c.pop-last.result c.in_ok-push.ensures.ok c.pop-last.ensures.last
