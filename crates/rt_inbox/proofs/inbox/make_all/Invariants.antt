use Rattle.std.proofs.Common.{◌≡◌, [], vec_len}
use Rattle.std.specs.Vec.{vec_capacity}
use Rattle.crossbeam_queue.specs.SegTies.{IsSegPassOf}
use Rattle.rt_inbox.specs.declared.view.View.TheVariants.{Owning}
use Rattle.rt_inbox.specs.Ends.{EachAt, IsMade}
use Rattle.rt_inbox.proofs.inbox.make_all.Given as goal

abbrev pub invariant-loop-number : goal.invariant-loop-number
invariant-loop-number l = record {
  own : IsSegPassOf l.inbox.line l.owner.pass;
  owner : l.owner.pass.me.view.client ≡ Owning [] l.number [];
  nones : l.owner.nones ≡ l.fn.owner.nones;
  count : vec_len l.notifiers ≡ l.number;
  each : EachAt (IsMade l.inbox) l.notifiers.items;
  room : vec_capacity l.notifiers ≡ l.posters;
}
