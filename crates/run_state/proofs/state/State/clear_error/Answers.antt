use Rattle.std.proofs.Common.{sym, ◌∙◌}
use Rattle.run_state.specs.Mirror.{state_of}
use Rattle.run_state.proofs.Changed.{on_ok}
use Rattle.run_state.proofs.Thrown.{cleared_nowhere, cleared_in}
use Rattle.run_state.proofs.Unchanged.{never}
use Rattle.run_state.proofs.state.State.clear_error.Goals as goal

pub returns-in_default-clause-cleared : goal.returns-in_default-clause-cleared
returns-in_default-clause-cleared g c = λ kept. cleared_nowhere (state_of kept c.args.self.now) c.args.scope (sym c.in_default.is ∙ c.error_context.ensures kept)

pub returns-clause-cleared : goal.returns-clause-cleared
returns-clause-cleared g c =
    on_ok c.tell.result c.tell.ensures.told (λ told kept. told kept
    ∙ cleared_in (state_of kept c.args.self.now) (state_of kept c.put_error.new.self) c.args.scope c.in-Some.boundary (sym c.in-Some.is ∙ c.error_context.ensures kept) (c.in_ok-put_error.ensures.put kept))

pub returns-clause-err : goal.returns-clause-err
returns-clause-err g c = never _ c.tell.result c.tell.ensures.ok
