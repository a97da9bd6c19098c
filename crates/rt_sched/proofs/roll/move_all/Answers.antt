use Rattle.std.proofs.Common.{ap, sym, ◌∙◌}
use Rattle.rt_sched.specs.Lines.{Row}
use Rattle.rt_sched.specs.Rosters.{all_waiting}
use Rattle.rt_sched.proofs.roll.move_all.Goals as goal

pub loop-order-preserved : goal.loop-order-preserved
loop-order-preserved c = record {
  from_members = c.in-Some.ensures.members ∙ c.loop-order.invariant.from_members;
  to_members = ap (λ (r : Row). r.members) c.push.ensures.waits ∙ c.loop-order.invariant.to_members;
  waiting = ap (λ (r : Row). all_waiting c.pop_first.new.self.waiting r.waiting) c.push.ensures.waits ∙ ap (λ ps. all_waiting ps c.loop-order.to.waiting) (sym c.in-Some.ensures.first) ∙ c.loop-order.invariant.waiting;
}
