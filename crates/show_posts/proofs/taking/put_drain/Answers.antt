-- Nothing is put before the first line; then one more, or none after it.
use Rattle.std.proofs.Common.{rules, ◌≡◌, Err}
use Rattle.show_streams.proofs.OnePut.{writes_none}
use Rattle.show_posts.proofs.Messages.{message_put, message_failed, messages_put}
use Rattle.show_posts.proofs.taking.put_drain.Goals as goal

pub loop-message-init : goal.loop-message-init
loop-message-init g c = writes_none _ _

pub loop-message-preserved : goal.loop-message-preserved
loop-message-preserved g c = message_put c.args.number c.args.drain.now c.loop-message.message-index _ _ _ _ _ _ _ c.loop-message-test.true c.loop-message.invariant c.in_ok-put_message.ensures.writes

pub returns-in_err-put_message : goal.returns-in_err-put_message
returns-in_err-put_message g c =
    let failed : c.from_residual.result ≡ Err c.in_err-put_message.field-0.0 = search rules in
    record {
      writes = rw failed (message_failed c.args.number c.args.drain.now c.loop-message.message-index _ _ _ _ _ _ _ _ c.loop-message-test.true c.loop-message.invariant c.in_err-put_message.ensures.writes);
    }

pub returns : goal.returns
returns g c = record { writes = messages_put c.args.number c.args.drain.now c.loop-message.message-index _ _ _ _ c.loop-message-test.false c.loop-message.invariant }
