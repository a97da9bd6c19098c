use Rattle.std.proofs.Common.{None, ap, ◌∙◌}
use Rattle.std.specs.Ordering.{nat_cmp}
use Rattle.std.specs.BTreeMap.{get}
use Rattle.rt_sched.specs.Batches.{without_batch}
use Rattle.rt_sched.proofs.BatchLemmas.{by, by_gone}
use Rattle.rt_sched.proofs.PendingLemmas.{now_at, pending_gone}
use Rattle.rt_sched.proofs.effects.Effects.forget.Goals as goal

pub invariant_of-self : goal.invariant_of-self
invariant_of-self g c =
    let gone = now_at c.self.inside.batches c.remove.new.self c.args.number None c.remove.ensures.updates.0 in
    pending_gone c.self.inside.line c.forget.new.self c.self.inside.batches c.remove.new.self c.args.number c.self.invariant c.forget.ensures.waiting gone

pub returns : goal.returns
returns g c =
    let gone = now_at c.self.inside.batches c.remove.new.self c.args.number None c.remove.ensures.updates.0 in
    let after = by_gone c.args.number None (get nat_cmp c.self.inside.batches) (get nat_cmp c.remove.new.self) c.self.inside.line.waiting c.self.invariant.tagged gone in
    record { gone = ap (by (get nat_cmp c.remove.new.self)) c.forget.ensures.waiting ∙ after ∙ ap (without_batch c.args.number) c.self.view_is }
