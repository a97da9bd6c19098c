use Rattle.std.proofs.Common.{map, sym, refl, subst}
use Rattle.rt_model.specs.Replay.{start}
use Rattle.run_reports.specs.Seen.{entry_of, input_of, limits_of}
use Rattle.rt_audit.specs.Finding.{boundless}
use Rattle.rt_audit.specs.Judging.{ListJudged}
use Rattle.rt_audit.proofs.Lists.{first_stops, reaches_first}
use Rattle.rt_audit.proofs.judging.judge_all.Goals as goal

pub returns-in-Some : goal.returns-in-Some
returns-in-Some g c = record {
  judged = λ props fresh is there.
      let app = g.A.App.meaning c.args.app.now in
      let inputs = map input_of c.args.inputs in
      let judged = c.in_ok-stops.ensures.judged props inputs fresh is in
      sym (
      first_stops app (limits_of boundless) props inputs (map (map entry_of) c.args.log.now) (map entry_of c.args.list.now) c.judge_build.new.machine
      c.in-Some.entry there
      (
      subst
      (
      λ o.
      ListJudged app (limits_of boundless) props inputs 0 (start app props inputs) inputs (map entry_of c.args.list.now)
      c.judge_build.new.machine o
      )
      c.in-Some.is judged
      ));
}

pub returns-in-None : goal.returns-in-None
returns-in-None g c = record {
  judged = λ props fresh is there.
      let app = g.A.App.meaning c.args.app.now in
      let inputs = map input_of c.args.inputs in
      let judged = c.in_ok-stops.ensures.judged props inputs fresh is in
      let reaches =
      reaches_first app (limits_of boundless) props inputs (map (map entry_of) c.args.log.now) (map entry_of c.args.list.now) inputs c.judge_build.new.machine
      refl there
      (
      subst
      (
      λ o.
      ListJudged app (limits_of boundless) props inputs 0 (start app props inputs) inputs (map entry_of c.args.list.now)
      c.judge_build.new.machine o
      )
      c.in-None.is judged
      ) in
      c.judge_inputs.ensures.judged props inputs reaches;
}
