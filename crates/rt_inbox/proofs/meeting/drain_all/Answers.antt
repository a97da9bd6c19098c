-- A drain that took messages is one more.
use Rattle.std.proofs.Common.{◌≡◌, ◌++◌, ◌∷◌, [], rules}
use Rattle.rt_inbox.specs.Ends.{taken_of}
use Rattle.rt_inbox.proofs.Joined.{drained-more}
use Rattle.rt_inbox.proofs.meeting.drain_all.Goals as goal

pub loop-preserved : goal.loop-preserved
loop-preserved g c =
    let taken : taken_of c.drain.new.self ≡ taken_of c.loop.owner ++ c.in_ok-messages.messages = search rules in
    let pushed : c.push.new.self ≡ c.loop.drains ++ c.in_ok-messages.messages ∷ [] = search rules in
    record {
      own = search rules;
      drained =
          drained-more c.args.owner.now c.loop.owner c.drain.new.self c.args.drains.now c.loop.drains c.push.new.self c.in_ok-messages.messages
          c.loop.invariant.drained taken pushed;
    }
