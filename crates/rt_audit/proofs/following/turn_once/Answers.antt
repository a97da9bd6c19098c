use Rattle.run_reports.specs.Seen.{limits_of}
use Rattle.run_machine.specs.Stands.{without_count}
use Rattle.rt_audit.specs.Finding.{boundless}
use Rattle.rt_audit.proofs.Found.{turns_on}
use Rattle.rt_audit.proofs.following.turn_once.Goals as goal

pub returns : goal.returns
returns g c = record {
  turns = λ r edits stands.
      turns_on (g.A.App.meaning c.args.app.now) (limits_of boundless) (without_count r) edits _ _ c.args.machine.now c.turn-turned.new.self c.turn-turned.result c.come_to.result
      (c.turn-turned.ensures.turns (without_count r) edits stands) c.come_to.ensures.comes;
}
