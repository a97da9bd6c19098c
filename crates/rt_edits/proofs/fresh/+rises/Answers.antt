-- The numbers rise over one more node, or they don't.
use Rattle.std.proofs.Common.{ℕ, ◌+◌, Option, drop, sym, ap, ◌∙◌}
use Rattle.rt_edits.specs.Nodes.{numbers, rising_on}
use Rattle.rt_edits.proofs.Rising.{rising_next}
use Rattle.rt_edits.proofs.fresh.+rises.Goals as goal

pub rises-returns-in-None : goal.rises-returns-in-None
rises-returns-in-None t c =
    let rest = numbers (drop (c.loop-node.node-index + 1) c.args.nodes.now) in
    let next = rising_next c.loop-node.last c.args.nodes.now c.loop-node.node-index c.node-item.result c.loop-node-test.true c.node-item.is in
    record { rising = sym (sym c.loop-node.invariant ∙ next ∙ ap (λ (o : Option ℕ). rising_on o rest) (sym c.rises_at.ensures.rising ∙ c.in-None.is)) }

pub rises-loop-node-preserved : goal.rises-loop-node-preserved
rises-loop-node-preserved t c =
    let rest = numbers (drop (c.loop-node.node-index + 1) c.args.nodes.now) in
    let next = rising_next c.loop-node.last c.args.nodes.now c.loop-node.node-index c.node-item.result c.loop-node-test.true c.node-item.is in
    sym (sym c.loop-node.invariant ∙ next ∙ ap (λ (o : Option ℕ). rising_on o rest) (sym c.rises_at.ensures.rising ∙ c.in-Some.is))
