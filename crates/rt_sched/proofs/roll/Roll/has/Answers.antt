use Rattle.std.proofs.Common.{◌≡◌, ap, sym, ◌∙◌}
use Rattle.rt_sched.specs.Order.{same_order}
use Rattle.rt_sched.specs.Rosters.{Roster, stands_under}
use Rattle.rt_sched.proofs.RollLemmas.{stands_by_order, stands_nowhere}
use Rattle.rt_sched.proofs.roll.Roll.has.Goals as goal

pub returns-in-Some : goal.returns-in-Some
returns-in-Some c =
    let ts = c.self.inside.entered.waiting in
    let entered = ap (λ (r : Roster). stands_under c.args.number c.args.order.now r.entered) c.self.view_is in
    let is : c.eq.result ≡ same_order c.args.order.now c.in-Some.entered = c.eq.ensures in
    record { has = is ∙ stands_by_order c.args.number c.args.order.now c.in-Some.entered ts c.self.invariant.entered_under (sym c.in-Some.ensures.order) ∙ entered }

pub returns-in-None : goal.returns-in-None
returns-in-None c =
    let ts = c.self.inside.entered.waiting in
    let entered = ap (λ (r : Roster). stands_under c.args.number c.args.order.now r.entered) c.self.view_is in
    record { has = stands_nowhere c.args.number c.args.order.now ts c.self.invariant.entered_under (sym c.in-None.ensures.order) ∙ entered }
