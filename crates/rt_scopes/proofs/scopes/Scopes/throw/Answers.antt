-- The error that was copied is thrown.
use Rattle.std.proofs.Common.{rules, ◌∙◌, ap, sym}
use Rattle.std.specs.Prelude.{[]}
use Rattle.rt_model.specs.State.{Done}
use Rattle.rt_model.specs.Commands.{throw_error}
use Rattle.tree_mirror.specs.Mirror.{error_of}
use Rattle.run_state.specs.Mirror.{state_of}
use Rattle.rt_scopes.proofs.scopes.Scopes.throw.Goals as goal

pub returns : goal.returns
returns g c =
    record {
      thrown =
          λ count kept. (
            kept,
            ap (λ w. Done w []) (sym (c.in_ok-throw_error.ensures.thrown kept ∙ ap (λ e. throw_error (state_of kept c.args.self.now.state) c.args.scope (error_of e)) c.in_ok-error.ensures)),
            λ was. was,
          );
    }

pub returns-in_err-error : goal.returns-in_err-error
returns-in_err-error g c =
    record {
      thrown = λ count kept. (kept, search rules, search rules);
    }

pub returns-in_err-throw_error : goal.returns-in_err-throw_error
returns-in_err-throw_error g c =
    record {
      thrown = λ count kept. (kept, search rules, search rules);
    }
