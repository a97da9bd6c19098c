use Rattle.std.proofs.Common.{◌∙◌}
use Rattle.run_state.specs.Mirror.{state_of}
use Rattle.run_state.proofs.Removed.{kinds_told, kinds_end}
use Rattle.run_state.proofs.state.State.tell_kinds.Goals as goal

pub loop-kind-preserved : goal.loop-kind-preserved
loop-kind-preserved g c = λ kept.
    kinds_told c.args.scope c.args.kinds.now c.loop-kind.kind-index 0 (state_of kept c.loop-kind.self) (state_of kept c.tell.new.self) c.loop-kind-test.true
    (c.in_ok-tell.ensures.told kept)
    ∙ c.loop-kind.invariant kept

pub returns : goal.returns
returns g c = λ kept. kinds_end c.args.scope c.args.kinds.now c.loop-kind.kind-index _ _ c.loop-kind-test.false (c.loop-kind.invariant kept)
