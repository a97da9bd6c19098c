use Rattle.std.proofs.Common.{◌≡◌, [], replicate, vec_len}
use Rattle.std.specs.Vec.{vec_capacity}
use Rattle.rt_inbox.proofs.taken.nothing_of_each.Given as goal

abbrev pub invariant-loop : goal.invariant-loop
invariant-loop l = record {
  lists : l.lists.items ≡ replicate l.counter [];
  count : vec_len l.lists ≡ l.counter;
  room : vec_capacity l.lists ≡ l.posters;
}
