use Rattle.std.proofs.Common.{◌≡◌, ◌∙◌, [], sym, ap}
use Rattle.std.specs.Prelude.{Some, None}
use Rattle.run_records.specs.Kept.{scope_of}
use Rattle.run_state.specs.Mirror.{state_of}
use Rattle.run_state.proofs.Each.{found-each}
use Rattle.run_state.proofs.Changed.{if_ok}
use Rattle.run_state.proofs.FoundScopes.{effects_found}
use Rattle.run_state.proofs.state.State.effects_of.Goals as goal

pub returns-in-Some : goal.returns-in-Some
returns-in-Some g c = if_ok c.copy.result c.copy.ensures.copy (λ copied is kept. is
    ∙ effects_found (state_of kept c.args.self.now) c.args.scope (Some (scope_of c.in-Some.found.now)) (found-each scope_of (c.args.self.now.rows).table c.args.scope (Some c.in-Some.found.now) c.in-Some.ensures))

pub returns-in-None : goal.returns-in-None
returns-in-None g c = λ kept. c.new.ensures.empty
    ∙ effects_found (state_of kept c.args.self.now) c.args.scope None (found-each scope_of (c.args.self.now.rows).table c.args.scope None c.in-None.ensures)
