use Rattle.std.proofs.Common.{◌≡◌, take}
use Rattle.rt_inbox.specs.Gathered.{count_in}
use Rattle.rt_inbox.proofs.taken.posted.Given as goal

abbrev pub invariant-loop-notifier : goal.invariant-loop-notifier
invariant-loop-notifier l = l.count ≡ count_in (take l.notifier-index l.notifiers)
