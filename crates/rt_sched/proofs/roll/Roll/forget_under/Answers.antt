use Rattle.std.proofs.Common.{◌≡◌, refl, sym, ◌∙◌}
use Rattle.rt_sched.specs.Rosters.{without_under}
use Rattle.rt_sched.proofs.RollLemmas.{first_under_waits, stands_order, stands_waits, none_is_under, without_step, fewer}
use Rattle.rt_sched.proofs.roll.Roll.forget_under.Goals as goal

pub loop-number-preserved : goal.loop-number-preserved
loop-number-preserved c =
    let o = c.args.order.now in
    let n = c.in-Some.number in
    let at = c.loop-number.self-inside in
    let so_far = c.loop-number.invariant in
    let stands = first_under_waits o n at.entered.waiting (sym c.in-Some.ensures.first) in
    let order = stands_order n o at.entered.waiting at.entered.waiting so_far.lines.entered_under stands in
    record {
      lines = c.forget_all.ensures.lines;
      entered = rw c.forget_all.ensures.entered (without_step o n at.entered.waiting at.entered.waiting order so_far.lines.entered_under ∙ so_far.entered);
      ready = rw c.forget_all.ensures.ready (without_step o n at.entered.waiting at.ready.waiting order so_far.lines.ready_under ∙ so_far.ready);
      posted = rw c.forget_all.ensures.posted (without_step o n at.entered.waiting at.posted.waiting order so_far.lines.posted_under ∙ so_far.posted);
    }

pub loop-number-smaller : goal.loop-number-smaller
loop-number-smaller c =
    let o = c.args.order.now in
    let n = c.in-Some.number in
    let at = c.loop-number.self-inside in
    let stands = first_under_waits o n at.entered.waiting (sym c.in-Some.ensures.first) in
    rw c.forget_all.ensures.entered (fewer n at.entered.waiting (stands_waits n o at.entered.waiting stands))

pub returns : goal.returns
returns c =
    let o = c.args.order.now in
    let at = c.loop-number.self-inside in
    let so_far = c.loop-number.invariant in
    let none = sym c.in_default.ensures.first in
    let entered : at.entered.waiting ≡ without_under o c.args.self.now.entered = sym (none_is_under o at.entered.waiting at.entered.waiting none so_far.lines.entered_under) ∙ so_far.entered in
    let ready : at.ready.waiting ≡ without_under o c.args.self.now.ready = sym (none_is_under o at.entered.waiting at.ready.waiting none so_far.lines.ready_under) ∙ so_far.ready in
    let posted : at.posted.waiting ≡ without_under o c.args.self.now.posted = sym (none_is_under o at.entered.waiting at.posted.waiting none so_far.lines.posted_under) ∙ so_far.posted in
    record { forgotten = rw (entered, ready, posted) refl }
