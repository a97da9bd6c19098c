use Rattle.std.proofs.Common.{rules, map}
use Rattle.run_reports.specs.Seen.{entry_of, limits_of}
use Rattle.run_machine.specs.Stands.{without_count}
use Rattle.rt_audit.specs.Finding.{boundless}
use Rattle.rt_audit.proofs.Found.{found_once}
use Rattle.rt_audit.proofs.following.follow_once.Goals as goal

pub returns : goal.returns
returns g c = record {
  finds = λ r keeps.
      found_once (g.A.App.meaning c.args.app.now) (limits_of boundless) (without_count r) c.in_ok-turn.turn (map entry_of c.args.list.now) c.args.seen c.args.machine.now
      c.turn_once.new.machine c.as_slice.result.now c.found_after.result (search rules) keeps
      (c.in_ok-turn.ensures.turns r keeps.stands.edits keeps.stands.stands) c.found_after.ensures.says;
}
