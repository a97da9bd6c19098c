use Rattle.std.proofs.Common.{◌∙◌, sym}
use Rattle.run_state.specs.Mirror.{state_of}
use Rattle.run_state.proofs.Changed.{on_ok}
use Rattle.run_state.proofs.Provides.{provides_nothing, provides_same, provides_other}
use Rattle.run_state.proofs.Unchanged.{never}
use Rattle.run_state.proofs.state.State.provide_context.Goals as goal

pub returns-in_default-clause-provided : goal.returns-in_default-clause-provided
returns-in_default-clause-provided g c = λ app decides kept. provides_nothing app (state_of kept c.args.self.now) c.args.scope c.args.kind c.args.value (sym c.in_default.is ∙ c.provides.ensures app decides kept)

pub returns-then-same-clause-provided : goal.returns-then-same-clause-provided
returns-then-same-clause-provided g c =
    λ app decides kept.
    provides_same app (state_of kept c.args.self.now) (state_of kept c.put_context.new.self) c.args.scope c.args.kind c.args.value c.in-Some.same c.if-same.true (sym c.in-Some.is ∙ c.provides.ensures app decides kept) (c.in_ok-put_context.ensures.put kept)

pub returns-else-same-clause-provided : goal.returns-else-same-clause-provided
returns-else-same-clause-provided g c =
    λ app decides.
    on_ok c.tell.result c.tell.ensures.told (λ told kept. told kept
    ∙ provides_other app (state_of kept c.args.self.now) (state_of kept c.put_context.new.self) c.args.scope c.args.kind c.args.value c.in-Some.same c.if-same.false (sym c.in-Some.is ∙ c.provides.ensures app decides kept) (c.in_ok-put_context.ensures.put kept))

pub returns-else-same-clause-err : goal.returns-else-same-clause-err
returns-else-same-clause-err g c = never _ c.tell.result c.tell.ensures.ok
