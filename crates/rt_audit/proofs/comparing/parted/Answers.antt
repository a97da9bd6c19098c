-- The entries are compared one by one.
use Rattle.std.proofs.Common.{rules, ◌≡◌, ◌<◌, ◌≤◌, length, true, false}
use Rattle.rt_audit.proofs.Noted.{parts_at, front_on, front_end}
use Rattle.rt_audit.proofs.comparing.parted.Goals as goal

pub returns-then-not-has_at : goal.returns-then-not-has_at
returns-then-not-has_at c =
    let low : c.loop-at.at < length c.args.noted.now = search rules in
    let other : c.has_at.result ≡ false = search rules in
    record {
      parted = λ front. parts_at c.loop-at.at c.args.noted.now c.args.list.now _ c.has_at.result low c.has_at.ensures.has other (c.loop-at.invariant front);
    }

pub loop-at-preserved : goal.loop-at-preserved
loop-at-preserved c =
    let low : c.loop-at.at < length c.args.noted.now = search rules in
    let same : c.has_at.result ≡ true = search rules in
    λ front. front_on c.loop-at.at c.args.noted.now c.args.list.now _ c.has_at.result low c.has_at.ensures.has same (c.loop-at.invariant front)

pub returns : goal.returns
returns c =
    let past : length c.args.noted.now ≤ c.loop-at.at = search rules in
    record { parted = λ front. front_end c.loop-at.at c.args.noted.now c.args.list.now past (c.loop-at.invariant front) }
