use Rattle.std.proofs.Common.{sym, ◌∙◌}
use Rattle.std.specs.Prelude.{Some}
use Rattle.tree_mirror.specs.Mirror.{error_of}
use Rattle.run_records.specs.Kept.{scope_of}
use Rattle.run_state.specs.Mirror.{state_of}
use Rattle.run_state.proofs.Each.{found-each, some-mapped}
use Rattle.run_state.proofs.Changed.{on_ok}
use Rattle.run_state.proofs.Thrown.{thrown_nowhere, thrown_gone, thrown_full, thrown_in}
use Rattle.run_state.proofs.Unchanged.{never}
use Rattle.run_state.proofs.state.State.throw_error.Goals as goal

pub returns-in_default-clause-thrown : goal.returns-in_default-clause-thrown
returns-in_default-clause-thrown g c = λ kept. thrown_nowhere (state_of kept c.args.self.now) c.args.scope (error_of c.args.error) (sym c.in_default.is ∙ c.error_context.ensures kept)

pub returns-in_default-scope-clause-thrown : goal.returns-in_default-scope-clause-thrown
returns-in_default-scope-clause-thrown g c = λ kept.
    thrown_gone (state_of kept c.args.self.now) c.args.scope c.in-Some.boundary (error_of c.args.error) (sym c.in-Some.is ∙ c.error_context.ensures kept)
    (found-each scope_of (c.args.self.now.rows).table c.in-Some.boundary _ c.in_default-scope.ensures)

pub returns-then-is_some-clause-thrown : goal.returns-then-is_some-clause-thrown
returns-then-is_some-clause-thrown g c = λ kept.
    thrown_full (state_of kept c.args.self.now) c.args.scope c.in-Some.boundary (error_of c.args.error) (scope_of c.in-Some-scope.found.now) (sym c.in-Some.is ∙ c.error_context.ensures kept)
    (found-each scope_of (c.args.self.now.rows).table c.in-Some.boundary (Some c.in-Some-scope.found.now) c.in-Some-scope.ensures)
    (some-mapped error_of _ ∙ sym c.is_some.ensures ∙ c.if-is_some.true)

pub returns-clause-thrown : goal.returns-clause-thrown
returns-clause-thrown g c =
    on_ok c.tell.result c.tell.ensures.told (λ told kept. told kept
    ∙ thrown_in (state_of kept c.args.self.now) (state_of kept c.put_error.new.self) c.args.scope c.in-Some.boundary (error_of c.args.error) (scope_of c.in-Some-scope.found.now) (sym c.in-Some.is ∙ c.error_context.ensures kept)
    (found-each scope_of (c.args.self.now.rows).table c.in-Some.boundary (Some c.in-Some-scope.found.now) c.in-Some-scope.ensures)
    (some-mapped error_of _ ∙ sym c.is_some.ensures ∙ c.if-is_some.false)
    (c.in_ok-put_error.ensures.put kept))

pub returns-clause-err : goal.returns-clause-err
returns-clause-err g c = never _ c.tell.result c.tell.ensures.ok
