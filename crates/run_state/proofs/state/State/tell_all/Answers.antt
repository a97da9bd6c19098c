use Rattle.std.proofs.Common.{◌≡◌, ◌∙◌}
use Rattle.run_state.specs.Mirror.{state_of}
use Rattle.run_state.proofs.Looked.{tell_step, tell_end}
use Rattle.run_state.proofs.state.State.tell_all.Goals as goal

pub loop-source-preserved : goal.loop-source-preserved
loop-source-preserved g c = λ kept.
    tell_step c.args.sources.now c.loop-source.source-index _ (state_of kept c.loop-source.self) (state_of kept c.tell_one.new.self) c.loop-source-test.true
    (c.in_ok-tell_one.ensures kept)
    ∙ c.loop-source.invariant kept

pub returns : goal.returns
returns g c = λ kept. tell_end c.args.sources.now c.loop-source.source-index _ _ c.loop-source-test.false (c.loop-source.invariant kept)
