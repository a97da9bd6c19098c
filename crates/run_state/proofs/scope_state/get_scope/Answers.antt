-- The scope that was found, at the mirror.
use Rattle.std.proofs.Common.{Some, None, sym}
use Rattle.run_records.specs.Kept.{scope_of}
use Rattle.run_state.proofs.Each.{found-each}
use Rattle.run_state.proofs.scope_state.get_scope.Goals as goal

pub returns-in-Some-clause-scope : goal.returns-in-Some-clause-scope
returns-in-Some-clause-scope g c = λ kept. sym (found-each scope_of (c.args.scopes.now.rows).table c.args.id.0 (Some c.in-Some.scope.now) c.in-Some.ensures)

pub returns-in-None-clause-scope : goal.returns-in-None-clause-scope
returns-in-None-clause-scope g c = λ kept. sym (found-each scope_of (c.args.scopes.now.rows).table c.args.id.0 None c.in-None.ensures)
