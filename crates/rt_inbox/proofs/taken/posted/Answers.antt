use Rattle.std.proofs.Common.{arith}
use Rattle.rt_inbox.proofs.Gathered.{count-more}
use Rattle.rt_inbox.proofs.taken.posted.Goals as goal

pub loop-notifier-preserved : goal.loop-notifier-preserved
loop-notifier-preserved c =
    let more = count-more c.args.notifiers.now c.loop-notifier.notifier-index c.notifier-item.result (omega arith) c.notifier-item.is in
    omega (arith, c.in_ok-count.ensures)
