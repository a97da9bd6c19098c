-- Nothing is put before the first drain; then the lines of one more, or none after them.
use Rattle.std.proofs.Common.{rules, ◌≡◌, Err}
use Rattle.show_streams.proofs.OnePut.{writes_none}
use Rattle.show_posts.proofs.Messages.{drain_put, drain_failed, drains_put}
use Rattle.show_posts.proofs.taking.put_drains.Goals as goal

pub loop-at-init : goal.loop-at-init
loop-at-init g c = writes_none _ _

pub loop-at-preserved : goal.loop-at-preserved
loop-at-preserved g c = drain_put c.args.drains.now c.loop-at.at c.index-drains-at.result c.as_slice.result.now _ _ _ _ _ _ c.loop-at-test.true c.index-drains-at.is c.as_slice.ensures.items c.loop-at.invariant c.in_ok-put_drain.ensures.writes

pub returns-in_err-put_drain : goal.returns-in_err-put_drain
returns-in_err-put_drain g c =
    let failed : c.from_residual.result ≡ Err c.in_err-put_drain.field-0.0 = search rules in
    record {
      writes = rw failed (drain_failed c.args.drains.now c.loop-at.at c.index-drains-at.result c.as_slice.result.now _ _ _ _ _ _ _ c.loop-at-test.true c.index-drains-at.is c.as_slice.ensures.items c.loop-at.invariant c.in_err-put_drain.ensures.writes);
    }

pub returns : goal.returns
returns g c = record { writes = drains_put c.args.drains.now c.loop-at.at _ _ _ _ c.loop-at-test.false c.loop-at.invariant }
