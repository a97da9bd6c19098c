-- One index after another.
use Rattle.std.proofs.Common.{◌≡◌, ◌∙◌, ◌-◌, ◌++◌, ◌∷◌, [], ap, arith}
use Rattle.run_places.specs.Drawn.{under}
use Rattle.run_places.proofs.Unders.{under_all, under_more}
use Rattle.run_places.proofs.ordered.in_order.Goals as goal

pub loop-index-init : goal.loop-index-init
loop-index-init c =
    let all : c.args.count - 0 ≡ c.args.count = omega arith in
    λ t. c.in_ok-numbers.ensures.empty t ++ under c.args.drawn.now 0 (all t)

pub loop-index-preserved : goal.loop-index-preserved
loop-index-preserved c =
    under_more c.args.drawn.now c.loop-index.index c.args.count c.loop-index.numbers c.push.new.self c.loop-index-test.true
    (c.in_ok-push.ensures.ok ∙ ap (λ o. c.loop-index.numbers ++ o ∷ []) c.get.ensures) c.loop-index.invariant

pub returns : goal.returns
returns c = under_all c.args.drawn.now c.loop-index.index c.args.count c.loop-index.numbers c.loop-index.numbers c.loop-index-test.false c.loop-index.invariant
