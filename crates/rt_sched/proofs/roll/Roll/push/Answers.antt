use Rattle.std.proofs.Common.{◌≡◌, true, refl, ap, ◌∙◌}
use Rattle.rt_sched.specs.Lines.{waits}
use Rattle.rt_sched.specs.Rosters.{Roster, stands_under}
use Rattle.rt_sched.proofs.RollLemmas.{stands_waits, stands_order, under_with_waiting, lines_ready}
use Rattle.rt_sched.proofs.roll.Roll.push.Goals as goal

pub push-requires : goal.push-requires
push-requires c =
    let entered : c.self.inside.entered.waiting ≡ c.args.self.now.entered = ap (λ (r : Roster). r.entered) c.self.view_is in
    let waits_there : waits c.args.number c.self.inside.entered.waiting ≡ true = rw entered (stands_waits c.args.number c.args.order c.args.self.now.entered c.requires.entered) in
    record { member = c.self.invariant.ready_members c.args.number ∙ waits_there }

pub invariant_of-self : goal.invariant_of-self
invariant_of-self c =
    let entered : c.self.inside.entered.waiting ≡ c.args.self.now.entered = ap (λ (r : Roster). r.entered) c.self.view_is in
    let stands : stands_under c.args.number c.args.order c.self.inside.entered.waiting ≡ true = rw entered c.requires.entered in
    let order = stands_order c.args.number c.args.order c.self.inside.entered.waiting c.self.inside.entered.waiting c.self.invariant.entered_under stands in
    let under = under_with_waiting c.args.number c.args.order c.self.inside.entered.waiting c.self.inside.ready.waiting c.self.invariant.ready_under order in
    rw c.push.ensures.waits (lines_ready c.self.inside.entered c.self.inside.ready c.self.inside.posted _ c.self.invariant refl under)
