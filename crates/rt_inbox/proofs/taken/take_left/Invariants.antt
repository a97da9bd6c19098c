use Rattle.std.proofs.Common.{◌≡◌, ◌++◌}
use Rattle.std.specs.Vec.{vec_capacity}
use Rattle.crossbeam_queue.specs.SegTies.{IsSegPassOf}
use Rattle.rt_inbox.specs.declared.view.View.TheVariants.{Owning}
use Rattle.rt_inbox.specs.Rule.{entries, made_in, taken_in}
use Rattle.rt_inbox.proofs.taken.take_left.Given as goal

abbrev pub invariant-loop : goal.invariant-loop
invariant-loop g l = record {
  own : IsSegPassOf l.line l.owner;
  owner : l.owner.me.view.client ≡ Owning (taken_in l.fn.owner.me.view.client ++ l.left.items) (made_in l.fn.owner.me.view.client) (entries l.fn.owner.me.view.client);
  room : vec_capacity l.left ≡ vec_capacity l.fn.left;
}
