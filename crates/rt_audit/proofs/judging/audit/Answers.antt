use Rattle.std.proofs.Common.{rules, ◌≤◌, length, map, sym}
use Rattle.run_reports.specs.Seen.{input_of, limits_of}
use Rattle.rt_audit.specs.Finding.{boundless}
use Rattle.rt_audit.proofs.Lists.{no_log}
use Rattle.rt_audit.proofs.judging.audit.Goals as goal

pub returns-in_default : goal.returns-in_default
returns-in_default g c =
    let past : length c.args.log.now ≤ 0 = search rules in
    record { verdict = sym (no_log (g.A.App.meaning c.args.app.now) (limits_of boundless) c.args.props (map input_of c.args.inputs) c.args.log.now past) }

pub returns : goal.returns
returns g c = record {
  verdict = c.judge_all.ensures.judged c.args.props c.in_ok-machine.ensures.fresh c.in_ok-machine.ensures.state c.in-Some.ensures.list.1;
}
