use Rattle.std.proofs.Common.{◌≡◌, ◌∷◌, None, refl, ap, sym, ◌∙◌}
use Rattle.std.proofs.lemmas.Bool.{eq-eqb}
use Rattle.std.specs.Ordering.{nat_cmp}
use Rattle.std.specs.BTreeMap.{get}
use Rattle.rt_sched.specs.Lines.{without_waiting, orders_of}
use Rattle.rt_sched.specs.Batches.{batch_orders}
use Rattle.rt_sched.specs.Pending.{effects_of}
use Rattle.rt_sched.proofs.BatchLemmas.{by, by_absent}
use Rattle.rt_sched.proofs.PendingLemmas.{now_at, pending_gone}
use Rattle.rt_sched.proofs.Least.{batch_orders_by}
use Rattle.rt_sched.proofs.Waits.{without_waiting_absent}
use Rattle.rt_sched.proofs.effects.Effects.pop_first.Goals as goal

pub invariant_of-self-2 : goal.invariant_of-self-2
invariant_of-self-2 g c =
    let n = c.in_ok-order.number in
    let ws = c.self.inside.line.waiting in
    let head : without_waiting n ws ≡ without_waiting n c.pop_first.new.self.waiting = rw c.in_ok-order.ensures.first (rw (eq-eqb n n refl) refl) in
    let gone = now_at c.self.inside.batches c.remove.new.self n None c.remove.ensures.updates.0 in
    pending_gone c.self.inside.line c.forget.new.self c.self.inside.batches c.remove.new.self n c.self.invariant (c.forget.ensures.waiting ∙ sym head) gone

pub returns : goal.returns
returns g c =
    let n = c.in_ok-order.number in
    let f = get nat_cmp c.self.inside.batches in
    let h = get nat_cmp c.remove.new.self in
    let ws = c.self.inside.line.waiting in
    let rest = c.pop_first.new.self.waiting in
    let gone = now_at c.self.inside.batches c.remove.new.self n None c.remove.ensures.updates.0 in
    let left : c.forget.new.self.waiting ≡ rest = c.forget.ensures.waiting ∙ without_waiting_absent n rest c.in_ok-order.ensures.once in
    let others : by h c.forget.new.self.waiting ≡ by f rest = ap (by h) left ∙ by_absent n f h None rest c.in_ok-order.ensures.once gone in
    let batch : effects_of (f n) ≡ c.in_ok-effects.effects = ap effects_of (sym c.in_ok-effects.ensures.value) in
    let all : by f ((c.in_ok-order.order, n) ∷ rest) ≡ (c.in_ok-order.order, c.in_ok-effects.effects) ∷ by h c.forget.new.self.waiting = rw (batch, others) refl in
    let orders : batch_orders c.args.self.now ≡ orders_of ws = ap batch_orders (sym c.self.view_is) ∙ batch_orders_by f ws in
    record {
      first = sym c.self.view_is ∙ ap (by f) c.in_ok-order.ensures.first ∙ all;
      least = rw orders c.in_ok-order.ensures.least;
    }
