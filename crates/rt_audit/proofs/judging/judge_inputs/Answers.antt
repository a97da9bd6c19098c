use Rattle.std.proofs.Common.{rules, ◌≡◌, ◌∷◌, ◌∙◌, length, map, sym, ap, subst, arith}
use Rattle.std.proofs.lemmas.List.{length-map}
use Rattle.std.specs.Vec.Iter.{into_iter_items}
use Rattle.run_reports.specs.Seen.{entry_of, input_of, limits_of}
use Rattle.rt_audit.specs.Finding.{boundless}
use Rattle.rt_audit.specs.Judging.{ended, Reaches, StepsOn}
use Rattle.run_outside.proofs.Reports.{nothing_left}
use Rattle.rt_audit.proofs.Lists.{at_end}
use Rattle.rt_audit.proofs.judging.judge_inputs.Goals as goal

pub loop-input-init : goal.loop-input-init
loop-input-init g c =
    let items = c.into_iter-input-iterator.ensures.into_iter_gives in
    record {
      reaches = λ props all reaches. (
        0,
        search rules,
        subst (λ ins. Reaches (g.A.App.meaning c.args.app.now) (limits_of boundless) props all (map (map entry_of) c.args.log.now) 0 ins c.args.machine.now)
            (ap (map input_of) (sym (items.0 ∙ c.into_vec-input-items.ensures.items))) reaches,
      );
      count = search rules;
    }

pub returns-in-Some-next : goal.returns-in-Some-next
returns-in-Some-next g c = record {
  judged = λ props all reaches.
      let app = g.A.App.meaning c.args.app.now in
      let logs = map (map entry_of) c.args.log.now in
      let left = map input_of (into_iter_items c.next.new.self) in
      let so = c.loop-input.invariant.reaches props all reaches in
      let here =
      subst (λ ins. Reaches app (limits_of boundless) props all logs so.0 ins c.loop-input.machine) (ap (map input_of) c.in-Some.ensures.steps.0) so.2 in
      subst (λ f. StepsOn app (limits_of boundless) props all logs c.loop-input.report left c.judge_next.new.machine f) c.in-Some-next.is
      (c.in_ok-next.ensures.judged props all left so.0 so.1 here);
}

pub loop-input-preserved : goal.loop-input-preserved
loop-input-preserved g c =
    let steps : into_iter_items c.loop-input.input-iterator ≡ c.in-Some.input ∷ into_iter_items c.next.new.self = c.in-Some.ensures.steps.0 in
    record {
      reaches = λ props all reaches.
          let app = g.A.App.meaning c.args.app.now in
          let logs = map (map entry_of) c.args.log.now in
          let left = map input_of (into_iter_items c.next.new.self) in
          let so = c.loop-input.invariant.reaches props all reaches in
          let here = subst (λ ins. Reaches app (limits_of boundless) props all logs so.0 ins c.loop-input.machine) (ap (map input_of) steps) so.2 in
          let on =
          subst (λ f. StepsOn app (limits_of boundless) props all logs c.loop-input.report left c.judge_next.new.machine f) c.in-None-next.is
          (c.in_ok-next.ensures.judged props all left so.0 so.1 here) in
          (c.loop-input.report, omega arith, on);
      count =
          let was = c.loop-input.invariant.count in
          let gone = c.in-Some.ensures.steps.1 in
          let short = ap length steps in
          omega arith;
    }

pub returns : goal.returns
returns g c = record {
  judged = λ props all reaches.
      let app = g.A.App.meaning c.args.app.now in
      let logs = map (map entry_of) c.args.log.now in
      let none = c.in-None.ensures.steps in
      let empty = nothing_left _ (sym c.loop-input.invariant.count ∙ none.0) in
      let so = c.loop-input.invariant.reaches props all reaches in
      let here =
      subst (λ ins. Reaches app (limits_of boundless) props all logs so.0 ins c.loop-input.machine) (ap (map input_of) empty) so.2 in
      let count = sym (length-map c.args.log.now (map entry_of)) in
      at_end app (limits_of boundless) props all logs so.0 c.loop-input.report c.loop-input.machine c.at_last.result so.1
      (c.at_last.ensures ∙ ap (λ n. ended c.loop-input.report n) count) here;
}
