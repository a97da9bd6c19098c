use Rattle.std.proofs.Common.{◌∙◌, sym}
use Rattle.std.specs.Prelude.{Some, None}
use Rattle.run_records.specs.Kept.{scope_of}
use Rattle.run_state.specs.Mirror.{state_of}
use Rattle.run_state.proofs.Each.{found-each, some-output}
use Rattle.run_state.proofs.FoundScopes.{output_found}
use Rattle.run_state.proofs.state.State.has_output.Goals as goal

pub returns-in-Some : goal.returns-in-Some
returns-in-Some g c = λ kept.
    c.is_some.ensures ∙ sym (some-output _)
    ∙ output_found (state_of kept c.args.self.now) c.args.scope (Some (scope_of c.in-Some.found.now)) (found-each scope_of (c.args.self.now.rows).table c.args.scope (Some c.in-Some.found.now) c.in-Some.ensures)

pub returns-in-None : goal.returns-in-None
returns-in-None g c = λ kept. output_found (state_of kept c.args.self.now) c.args.scope None (found-each scope_of (c.args.self.now.rows).table c.args.scope None c.in-None.ensures)
