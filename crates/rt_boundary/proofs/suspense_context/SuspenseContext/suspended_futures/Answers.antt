-- The holders of the row that was found.
use Rattle.std.proofs.Common.{Some, None, ap, sym, ◌∙◌}
use Rattle.run_records.specs.Kept.{scope_of}
use Rattle.run_state.proofs.Each.{found-each}
use Rattle.rt_boundary.specs.Seen.{holders_in}
use Rattle.rt_boundary.proofs.suspense_context.SuspenseContext.suspended_futures.Goals as goal

pub returns-in-Some : goal.returns-in-Some
returns-in-Some g c = record { holders = λ kept. c.as_slice.ensures.futures ∙ ap holders_in (sym (found-each scope_of (c.args.scopes.now.state.rows).table c.args.self.now.scope.0 (Some c.in-Some.found.now) c.in-Some.ensures)) }

pub returns-in-None : goal.returns-in-None
returns-in-None g c = record { holders = λ kept. ap holders_in (sym (found-each scope_of (c.args.scopes.now.state.rows).table c.args.self.now.scope.0 None c.in-None.ensures)) }
