use Rattle.std.proofs.Common.{◌≡◌, ◌++◌, length, vec_len}
use Rattle.std.specs.List.{All}
use Rattle.crossbeam_queue.specs.SegTies.{IsSegPassOf}
use Rattle.rt_inbox.specs.declared.view.View.TheVariants.{Owning}
use Rattle.rt_inbox.specs.Rule.{entries, made_in, taken_in}
use Rattle.rt_inbox.specs.Ends.{IsNotifierOf, posters_of}
use Rattle.rt_inbox.specs.Gathered.{each_entry, IsFiled}
use Rattle.rt_inbox.proofs.taken.join_all.Given as goal

abbrev pub invariant-loop-notifier : goal.invariant-loop-notifier
invariant-loop-notifier l = record {
  own : IsSegPassOf l.inbox.line l.owner;
  owner : l.owner.me.view.client ≡ Owning (taken_in l.fn.owner.me.view.client) (made_in l.fn.owner.me.view.client) (entries l.owner.me.view.client);
  joined : each_entry l.fn.notifiers.items ≡ each_entry l.notifiers.items ++ entries l.owner.me.view.client;
  rest : All (IsNotifierOf l.inbox) l.notifiers.items;
  filed : IsFiled l.accepted.items (entries l.owner.me.view.client);
  posters : length l.accepted.items ≡ posters_of l.inbox;
}

abbrev pub decreases-loop-notifier : goal.decreases-loop-notifier
decreases-loop-notifier l = vec_len l.notifiers
