-- What was reached is the scope and those above it.
use Rattle.run_shown.proofs.Leadings.{none_climbs}
use Rattle.run_shown.proofs.sought.up_from.Goals as goal

pub returns-then-all : goal.returns-then-all
returns-then-all g c =
    let there = c.in_ok-all.ensures c.if-all.true in
    record {
      own = there.own;
      above = there.above (none_climbs c.args.look.now c.new-way.result c.new-way.ensures.empty);
    }
