use Rattle.std.proofs.Common.{◌≡◌, length}
use Rattle.rt_sched.specs.Rosters.{AreLines, without_under}
use Rattle.rt_sched.proofs.roll.Roll.forget_under.Given as goal

-- only what stands under the order has gone
abbrev pub invariant-loop-number : goal.invariant-loop-number
invariant-loop-number l = record {
  lines : AreLines l.self-inside.entered l.self-inside.ready l.self-inside.posted;
  entered : without_under l.order l.self-inside.entered.waiting ≡ without_under l.order l.fn.self.entered;
  ready : without_under l.order l.self-inside.ready.waiting ≡ without_under l.order l.fn.self.ready;
  posted : without_under l.order l.self-inside.posted.waiting ≡ without_under l.order l.fn.self.posted;
}

abbrev pub decreases-loop-number : goal.decreases-loop-number
decreases-loop-number l = length l.self-inside.entered.waiting
