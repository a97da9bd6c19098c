use Rattle.std.proofs.Common.{◌≡◌, ◌∙◌}
use Rattle.run_state.proofs.KindsInPlace.{kinds_step, kinds_end}
use Rattle.run_state.proofs.removal.add_kinds.Goals as goal

pub loop-source-preserved : goal.loop-source-preserved
loop-source-preserved c =
    kinds_step c.args.scope c.args.sources.now c.loop-source.source-index _ c.loop-source.kinds.items c.add_kind.new.kinds.items c.loop-source-test.true c.in_ok-add_kind.ensures
    ∙ c.loop-source.invariant

pub returns : goal.returns
returns c = kinds_end c.args.scope c.args.sources.now c.loop-source.source-index c.loop-source.kinds.items _ c.loop-source-test.false c.loop-source.invariant
