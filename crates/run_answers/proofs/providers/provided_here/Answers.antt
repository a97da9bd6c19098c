-- What the scope that was found provides.
use Rattle.std.proofs.Common.{Some, None, ◌∙◌}
use Rattle.run_records.specs.Kept.{scope_of}
use Rattle.run_state.specs.Mirror.{state_of}
use Rattle.run_state.proofs.Each.{found-each}
use Rattle.run_answers.proofs.Asked.{provided_there, provided_gone}
use Rattle.run_answers.proofs.providers.provided_here.Goals as goal

pub returns-in-Some : goal.returns-in-Some
returns-in-Some g c =
    record {
      provided =
          λ kept.
          c.of_kind.ensures
          ∙ provided_there (state_of kept c.args.scopes.now) c.args.scope c.args.kind (scope_of c.in-Some.found.now)
          (found-each scope_of (c.args.scopes.now.rows).table c.args.scope (Some c.in-Some.found.now) c.in-Some.ensures);
    }

pub returns-in-None : goal.returns-in-None
returns-in-None g c =
    record {
      provided =
          λ kept.
          provided_gone (state_of kept c.args.scopes.now) c.args.scope c.args.kind
          (found-each scope_of (c.args.scopes.now.rows).table c.args.scope None c.in-None.ensures);
    }
