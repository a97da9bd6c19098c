-- By the scope that was found.
use Rattle.std.proofs.Common.{◌∙◌}
use Rattle.std.specs.Prelude.{Some, None}
use Rattle.run_records.specs.Kept.{scope_of}
use Rattle.run_state.specs.Mirror.{scopes_of}
use Rattle.run_state.proofs.Each.{found-each}
use Rattle.run_state.proofs.HeldPairs.{found_held, gone_free}
use Rattle.run_state.proofs.holding.is_held_by.Goals as goal

pub returns-in-Some : goal.returns-in-Some
returns-in-Some g c =
    c.holds.ensures
    ∙ found_held (scopes_of c.args.rows.now) c.args.task c.args.scope (scope_of c.in-Some.found.now) (found-each scope_of c.args.rows.now c.args.scope (Some c.in-Some.found.now) c.in-Some.ensures.value)

pub returns-in-None : goal.returns-in-None
returns-in-None g c = gone_free (scopes_of c.args.rows.now) c.args.task c.args.scope (found-each scope_of c.args.rows.now c.args.scope None c.in-None.ensures.value)
