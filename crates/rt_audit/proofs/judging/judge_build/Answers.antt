use Rattle.std.proofs.Common.{rules, ◌≡◌, ◌∷◌, false, map}
use Rattle.rt_model.specs.Replay.{Build, start}
use Rattle.run_reports.specs.Seen.{entry_of, limits_of}
use Rattle.rt_audit.specs.Finding.{boundless}
use Rattle.rt_audit.specs.Fronts.{begins_with}
use Rattle.run_machine.proofs.Opening.{building}
use Rattle.rt_audit.proofs.Lists.{built_keeps, built_lists, built_stop}
use Rattle.rt_audit.proofs.Same.{other_way}
use Rattle.rt_audit.proofs.Stopping.{unopened_stops}
use Rattle.rt_audit.proofs.judging.judge_build.Goals as goal

pub returns-in_default : goal.returns-in_default
returns-in_default g c =
    let other : begins_with Build (map entry_of c.args.list.now) ≡ false = search rules in
    record {
      judged = λ props inputs fresh is later.
          unopened_stops (g.A.App.meaning c.args.app.now) 0 (start (g.A.App.meaning c.args.app.now) props inputs) (map entry_of c.args.list.now) later other other_way;
    }

pub returns-in-Ok : goal.returns-in-Ok
returns-in-Ok g c =
    let opens : map entry_of c.args.list.now ≡ Build ∷ map entry_of c.in-Some.rest.now = search rules in
    record {
      judged = λ props inputs fresh is.
          let app = g.A.App.meaning c.args.app.now in
          let limits = limits_of boundless in
          let keeps =
          built_keeps app limits props inputs (map entry_of c.in-Some.rest.now) c.args.machine.now c.build.new.self fresh is c.in-Ok.ensures.builds
          c.build.ensures.first c.build.ensures.others in
          built_lists app limits props inputs (map entry_of c.args.list.now) (map entry_of c.in-Some.rest.now) c.follow.new.machine c.follow.result opens
          (c.follow.ensures.judges (building app limits props inputs) keeps);
    }

pub returns-in-Err : goal.returns-in-Err
returns-in-Err g c =
    let opens : map entry_of c.args.list.now ≡ Build ∷ map entry_of c.in-Some.rest.now = search rules in
    record {
      judged = λ props inputs fresh is.
          built_stop (g.A.App.meaning c.args.app.now) (limits_of boundless) props inputs (map entry_of c.args.list.now) (map entry_of c.in-Some.rest.now)
          c.args.machine.now c.build.new.self c.in-Err.stop c.after_stop.result opens fresh is c.in-Err.ensures.builds c.after_stop.ensures.after;
    }
