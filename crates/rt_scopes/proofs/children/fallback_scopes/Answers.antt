-- The scopes of a boundary that was found.
use Rattle.std.proofs.Common.{◌∙◌}
use Rattle.std.specs.Prelude.{Some, None}
use Rattle.run_records.specs.Kept.{scope_of}
use Rattle.run_state.specs.Mirror.{state_of}
use Rattle.run_state.proofs.Each.{found-each}
use Rattle.run_state.proofs.Changed.{if_ok}
use Rattle.rt_scopes.proofs.Spots.{fallback_found, no_fallback}
use Rattle.rt_scopes.proofs.children.fallback_scopes.Goals as goal

pub returns-in-Some : goal.returns-in-Some
returns-in-Some g c = if_ok c.side_scopes.result c.side_scopes.ensures (λ scopes is kept. is kept
    ∙ fallback_found (state_of kept c.args.state.now) c.args.boundary (scope_of c.in-Some.found.now) (found-each scope_of (c.args.state.now.rows).table c.args.boundary (Some c.in-Some.found.now) c.in-Some.ensures))

pub returns-in-None : goal.returns-in-None
returns-in-None g c = λ kept. c.new.ensures.empty
    ∙ no_fallback (state_of kept c.args.state.now) c.args.boundary (found-each scope_of (c.args.state.now.rows).table c.args.boundary None c.in-None.ensures)
