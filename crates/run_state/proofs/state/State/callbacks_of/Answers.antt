use Rattle.std.proofs.Common.{◌≡◌, ◌∙◌, [], sym, ap}
use Rattle.std.specs.Prelude.{Some, None}
use Rattle.run_records.specs.Kept.{scope_of}
use Rattle.run_state.specs.Mirror.{state_of}
use Rattle.run_state.proofs.Each.{found-each}
use Rattle.run_state.proofs.Changed.{if_ok}
use Rattle.run_state.proofs.FoundScopes.{callbacks_found}
use Rattle.run_state.proofs.state.State.callbacks_of.Goals as goal

pub returns-in-Some : goal.returns-in-Some
returns-in-Some g c = if_ok c.copy_callbacks.result c.copy_callbacks.ensures (λ copied is kept. is ∙ c.as_slice.ensures.items
    ∙ callbacks_found (state_of kept c.args.self.now) c.args.boundary (Some (scope_of c.in-Some.found.now)) (found-each scope_of (c.args.self.now.rows).table c.args.boundary (Some c.in-Some.found.now) c.in-Some.ensures))

pub returns-in-None : goal.returns-in-None
returns-in-None g c = λ kept. c.new.ensures.empty
    ∙ callbacks_found (state_of kept c.args.self.now) c.args.boundary None (found-each scope_of (c.args.self.now.rows).table c.args.boundary None c.in-None.ensures)
