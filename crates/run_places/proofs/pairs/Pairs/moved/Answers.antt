use Rattle.std.proofs.Common.{◌∙◌, ◌++◌, ap}
use Rattle.run_places.specs.Drawn.{moved}
use Rattle.run_places.proofs.Agreed.{moved_step, moved_end}
use Rattle.run_places.proofs.pairs.Pairs.moved.Goals as goal

pub loop-pair-init : goal.loop-pair-init
loop-pair-init c = ap (λ xs. xs ++ moved c.args.to.now c.as_slice-pair-items.result.now) c.in_ok-drawn.ensures.empty

pub loop-pair-preserved : goal.loop-pair-preserved
loop-pair-preserved c =
    moved_step c.args.to.now c.as_slice-pair-items.result.now c.loop-pair.pair-index (0, 0) c.loop-pair.drawn c.push_moved.new.self c.loop-pair-test.true c.in_ok-push_moved.ensures
    ∙ c.loop-pair.invariant

pub returns : goal.returns
returns c = record {
  moved =
      rw (← c.self.view_is)
      (moved_end c.args.to.now c.as_slice-pair-items.result.now c.loop-pair.drawn c.loop-pair.pair-index _ c.loop-pair-test.false c.loop-pair.invariant
      ∙ ap (λ xs. moved c.args.to.now xs) c.as_slice-pair-items.ensures.value);
}
