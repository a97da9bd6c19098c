use Rattle.std.proofs.Common.{refl, drop, ◌+◌, sym, ◌∙◌}
use Rattle.run_state.proofs.Forgets.{all_gone, walk_more}
use Rattle.run_state.proofs.places.forget_but.Goals as goal

pub loop-pair-init : goal.loop-pair-init
loop-pair-init c = refl

pub loop-pair-preserved : goal.loop-pair-preserved
loop-pair-preserved c =
    walk_more c.args.nodes.now c.loop-pair.places c.forget_pair-next.new.places c.args.drawn.now (drop c.forget_pair-next.result c.args.stay.now) (drop c.loop-pair.next c.args.stay.now) c.loop-pair.pair-index (0, 0)
    c.loop-pair-test.true (c.forget_pair-next.ensures (drop (c.loop-pair.pair-index + 1) c.args.drawn.now))
    ∙ c.loop-pair.invariant

pub returns : goal.returns
returns c = sym (all_gone c.args.nodes.now c.loop-pair.places c.args.drawn.now (drop c.loop-pair.next c.args.stay.now) c.loop-pair.pair-index c.loop-pair-test.false) ∙ c.loop-pair.invariant
