-- Nothing is waited for, no number was drawn, the edits were over, and the marks so far wrote nothing.
use Rattle.std.proofs.Common.{◌≡◌, length, []}
use Rattle.rt_tree.specs.Awaits.{awaited, no_answer}
use Rattle.rt_tree.specs.Counts.{others}
use Rattle.rt_tree.proofs.Serving.{Passed}
use Rattle.rt_tree.proofs.patch.Patch.next.Given as goal

abbrev pub invariant-loop-met : goal.invariant-loop-met
invariant-loop-met g l = record {
  free : awaited l.self.phase ≡ no_answer;
  spent : l.self.edits.items ≡ [];
  tree : l.self.new.side.output ≡ l.fn.self.new.side.output;
  undrawn : l.ids ≡ l.fn.ids;
  none : l.fn.self.edits.items ≡ [];
  fewer : others l.fn.self ≡ others l.self;
  passed : Passed l.fn.self l.self;
}

abbrev pub decreases-loop-met : goal.decreases-loop-met
decreases-loop-met g l = length l.self.plan.items
