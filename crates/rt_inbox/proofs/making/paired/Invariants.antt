-- The posters so far have the first ends and the first lists, and as many are left as lists.
use Rattle.std.proofs.Common.{◌≡◌, ◌+◌, ◌++◌, length, map, take}
use Rattle.std.specs.Vec.Iter.{into_iter_items, into_iter_len}
use Rattle.rt_inbox.specs.Posted.{notifier_of, list_of}
use Rattle.rt_inbox.proofs.making.paired.Given as goal

abbrev pub invariant-loop-notifier : goal.invariant-loop-notifier
invariant-loop-notifier l = record {
  ends : map notifier_of l.posters ++ into_iter_items l.notifier-iterator ≡ l.fn.notifiers;
  lists : map list_of l.posters ≡ take (length l.posters) l.posts;
  rest : length l.posters + into_iter_len l.notifier-iterator ≡ length l.posts;
  count : into_iter_len l.notifier-iterator ≡ length (into_iter_items l.notifier-iterator);
}
