-- The error of the row that was found.
use Rattle.std.proofs.Common.{Some, None, option_map, ap, ◌∙◌}
use Rattle.tree_mirror.specs.Mirror.{error_of}
use Rattle.run_records.specs.Kept.{scope_of}
use Rattle.run_state.specs.Mirror.{state_of}
use Rattle.run_state.proofs.Each.{found-each}
use Rattle.rt_boundary.proofs.Seen.{error_there, error_gone}
use Rattle.rt_boundary.proofs.error_context.ErrorContext.error.Goals as goal

pub returns-in-Some : goal.returns-in-Some
returns-in-Some g c =
    record {
      kept =
          λ kept.
          ap (option_map error_of) c.as_ref.ensures.value
          ∙ error_there (state_of kept c.args.scopes.now.state) c.args.self.now.scope.0 (scope_of c.in-Some.found.now)
          (found-each scope_of (c.args.scopes.now.state.rows).table c.args.self.now.scope.0 (Some c.in-Some.found.now) c.in-Some.ensures);
    }

pub returns-in-None : goal.returns-in-None
returns-in-None g c =
    record {
      kept =
          λ kept.
          error_gone (state_of kept c.args.scopes.now.state) c.args.self.now.scope.0
          (found-each scope_of (c.args.scopes.now.state.rows).table c.args.self.now.scope.0 None c.in-None.ensures);
    }
