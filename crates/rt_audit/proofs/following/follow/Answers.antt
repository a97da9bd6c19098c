use Rattle.std.proofs.Common.{map, subst}
use Rattle.run_reports.specs.Seen.{entry_of, limits_of}
use Rattle.run_machine.specs.Stands.{without_count}
use Rattle.rt_audit.specs.Finding.{boundless}
use Rattle.rt_audit.specs.Judging.{FindsIn}
use Rattle.rt_audit.proofs.Found.{list_good}
use Rattle.rt_audit.proofs.following.follow.Goals as goal

pub loop-turn-init : goal.loop-turn-init
loop-turn-init g c = λ r keeps. keeps

pub loop-turn-preserved : goal.loop-turn-preserved
loop-turn-preserved g c =
    λ r keeps.
    subst (λ f. FindsIn (g.A.App.meaning c.args.app.now) (limits_of boundless) (without_count r) (map entry_of c.args.list.now) c.follow_once.new.machine f) c.in-SoFar.is
    (c.in_ok-found.ensures.finds r (c.loop-turn.invariant r keeps))

pub returns-in-Bad : goal.returns-in-Bad
returns-in-Bad g c = record {
  judges = λ r keeps.
      subst (λ f. FindsIn (g.A.App.meaning c.args.app.now) (limits_of boundless) (without_count r) (map entry_of c.args.list.now) c.follow_once.new.machine f) c.in-Bad.is
      (c.in_ok-found.ensures.finds r (c.loop-turn.invariant r keeps));
}

pub returns-in-Good : goal.returns-in-Good
returns-in-Good g c = record {
  judges = λ r keeps.
      list_good (g.A.App.meaning c.args.app.now) (limits_of boundless) (without_count r) (map entry_of c.args.list.now) c.follow_once.new.machine c.report.new.self
      (c.follow_once.new.machine).course.later
      (subst (λ f. FindsIn (g.A.App.meaning c.args.app.now) (limits_of boundless) (without_count r) (map entry_of c.args.list.now) c.follow_once.new.machine f) c.in-Good.is
      (c.in_ok-found.ensures.finds r (c.loop-turn.invariant r keeps)))
      c.report.ensures.others c.report.ensures.course;
}
