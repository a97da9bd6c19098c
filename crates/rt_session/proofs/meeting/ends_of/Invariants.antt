-- The ends so far and those that are left are the posters' ends, and there is room for these.
use Rattle.std.proofs.Common.{◌≡◌, ◌+◌, ◌≤◌, ◌++◌, length, map, vec_len}
use Rattle.std.specs.Vec.{vec_capacity}
use Rattle.std.specs.Vec.Iter.{into_iter_items, into_iter_len}
use Rattle.rt_inbox.specs.Posted.{notifier_of}
use Rattle.rt_session.proofs.meeting.ends_of.Given as goal

abbrev pub invariant-loop-poster : goal.invariant-loop-poster
invariant-loop-poster l = record {
  ends : l.ends.items ++ map notifier_of (into_iter_items l.poster-iterator) ≡ map notifier_of l.fn.posters.items;
  room : vec_len l.ends + into_iter_len l.poster-iterator ≤ vec_capacity l.ends;
  count : into_iter_len l.poster-iterator ≡ length (into_iter_items l.poster-iterator);
}
