use Rattle.std.proofs.Common.{◌≡◌, ◌++◌, ◌+◌, ◌-◌, ◌<◌, ◌≤◌, ◌^◌, length, vec_len}
use Rattle.std.specs.Vec.{vec_capacity}
use Rattle.rt_inbox.specs.Ends.{IsOwnerOf, nones_of, taken_of}
use Rattle.rt_inbox.proofs.owner.Owner.drain.Given as goal

abbrev pub invariant-loop : goal.invariant-loop
invariant-loop g l = record {
  own : IsOwnerOf l.inbox l.self;
  taken : taken_of l.self ≡ taken_of l.fn.self ++ l.messages.items;
  count : length l.messages.items ≡ l.counter;
  nones : nones_of l.self ≡ nones_of l.fn.self;
  countable : nones_of l.fn.self < 2 ^ 64 - 1;
  room : vec_len l.self.taken + (l.most - l.counter) ≤ vec_capacity l.self.taken;
  space : vec_len l.messages + (l.most - l.counter) ≤ vec_capacity l.messages;
}
