-- One report after another.
use Rattle.std.proofs.Common.{◌≡◌, ◌∷◌, length, map, sym, ap, ◌∙◌, arith, rules, subst}
use Rattle.std.specs.Vec.Iter.{into_iter_items}
use Rattle.std.proofs.lemmas.Result.{err_from_is_err_and}
use Rattle.run_reports.specs.Seen.{input_of, limits_of}
use Rattle.run_machine.specs.Runs.{Runs}
use Rattle.run_outside.specs.Sofar.{Sofar}
use Rattle.run_machine.proofs.Reporting.{runs_first, runs_first_cut, runs_first_wanting, runs_ended}
use Rattle.run_outside.proofs.Sinks.{took-same, ends-low, run-after}
use Rattle.run_outside.proofs.Reports.{sofar-begin, sofar-end, edits-first, nothing_left}
use Rattle.rt_session.proofs.runner.run_on.Goals as goal

pub returns-in_err-built-clause-err : goal.returns-in_err-built-clause-err
returns-in_err-built-clause-err g c =
    let p = err_from_is_err_and c.from_residual.result c.from_residual.ensures.1 in
    rw (p.1, p.2, c.requires.empty) c.in_err-built.ensures.err

pub returns-in_err-built-clause-runs : goal.returns-in_err-built-clause-runs
returns-in_err-built-clause-runs g c = λ props fresh start.
    let p = err_from_is_err_and c.from_residual.result c.from_residual.ensures.1 in
    rw (p.1, p.2)
    (runs_first_cut (g.A.App.meaning c.args.app.now) (limits_of c.args.limits) props (map input_of c.args.inputs) c.first_report.new.self
    (g.M.WriteMutations.taken c.args.sink.now) (g.M.WriteMutations.taken c.first_report.new.sink) c.in_err-built.field-0.0 c.args.reports.now
    (c.in_err-built.ensures.reports props (map input_of c.args.inputs) fresh start) c.requires.empty c.first_report.new.self.course.later)

pub returns-in_err-push-clause-err : goal.returns-in_err-push-clause-err
returns-in_err-push-clause-err g c =
    let p = err_from_is_err_and c.from_residual-in_err-push.result c.from_residual-in_err-push.ensures.1 in
    rw (p.1, p.2, c.in_err-push.ensures.err, c.requires.empty)
    (ends-low c.args.limits _ _ _ _ _ _ (run-after c.args.limits _ _ _ _ _ _ c.in_ok-built.ensures.took))

pub returns-in_err-push-clause-runs : goal.returns-in_err-push-clause-runs
returns-in_err-push-clause-runs g c = λ props fresh start.
    let p = err_from_is_err_and c.from_residual-in_err-push.result c.from_residual-in_err-push.ensures.1 in
    rw (p.1, p.2)
    (runs_first_wanting (g.A.App.meaning c.args.app.now) (limits_of c.args.limits) props (map input_of c.args.inputs) c.first_report.new.self
    (g.M.WriteMutations.taken c.args.sink.now) (g.M.WriteMutations.taken c.first_report.new.sink) c.in_ok-built.built c.push.new.self
    (c.in_ok-built.ensures.reports props (map input_of c.args.inputs) fresh start) (c.in_err-push.ensures.err ∙ c.requires.empty))

pub loop-input-init : goal.loop-input-init
loop-input-init g c =
    let items = c.into_iter-input-iterator.ensures.into_iter_gives in
    record {
      took = took-same _ _ _ _ _ _ (edits-first _ _ _ c.requires.empty c.in_ok-push.ensures.ok) c.in_ok-built.ensures.took;
      runs = λ props fresh start. (
        runs_first (g.A.App.meaning c.args.app.now) (limits_of c.args.limits) props (map input_of c.args.inputs) c.first_report.new.self
            (g.M.WriteMutations.taken c.args.sink.now) (g.M.WriteMutations.taken c.first_report.new.sink) c.in_ok-built.built c.args.reports.now c.push.new.self
            (map input_of (into_iter_items c.into_iter-input-iterator.result))
            (c.in_ok-built.ensures.reports props (map input_of c.args.inputs) fresh start) c.in_ok-built.ensures.counts
            (ap (map input_of) (items.0 ∙ c.into_vec-input-items.ensures.items)) c.requires.empty c.in_ok-push.ensures.ok,
        sofar-begin _ _ _ _ _ (ap (map input_of) (items.0 ∙ c.into_vec-input-items.ensures.items)) c.requires.empty c.in_ok-push.ensures.ok
            c.in_ok-built.ensures.opens c.in_ok-built.ensures.counts,
      );
      count = search rules;
    }

pub returns-in_err-taken-clause-err : goal.returns-in_err-taken-clause-err
returns-in_err-taken-clause-err g c =
    let p = err_from_is_err_and c.from_residual-in_err-taken.result c.from_residual-in_err-taken.ensures.1 in
    rw (p.1, p.2) (c.in_err-taken.ensures.err (g.M.WriteMutations.taken c.args.sink.now) (g.M.WriteMutations.faults c.args.sink.now) c.loop-input.invariant.took)

pub returns-in_err-taken-clause-runs : goal.returns-in_err-taken-clause-runs
returns-in_err-taken-clause-runs g c = λ props fresh start.
    let was = c.loop-input.invariant.runs props fresh start in
    let p = err_from_is_err_and c.from_residual-in_err-taken.result c.from_residual-in_err-taken.ensures.1 in
    rw (p.1, p.2) (c.in_err-taken.ensures.steps props (map input_of c.args.inputs) (map input_of (into_iter_items c.next.new.self)) (g.M.WriteMutations.taken c.args.sink.now) (subst (λ ins. Runs (g.A.App.meaning c.args.app.now) (limits_of c.args.limits) props (map input_of c.args.inputs) (g.M.WriteMutations.taken c.args.sink.now) (g.M.WriteMutations.taken c.loop-input.sink) c.loop-input.reports ins c.loop-input.taken c.loop-input.machine) (ap (map input_of) c.in-Some.ensures.steps.0) was.0) (subst (λ ins. Sofar (map input_of c.args.inputs) ins c.loop-input.taken c.loop-input.reports) (ap (map input_of) c.in-Some.ensures.steps.0) was.1)).0

pub loop-input-preserved : goal.loop-input-preserved
loop-input-preserved g c =
    let steps : into_iter_items c.loop-input.input-iterator ≡ c.in-Some.input ∷ into_iter_items c.next.new.self = c.in-Some.ensures.steps.0 in
    record {
      took = c.in_ok-taken.ensures.took (g.M.WriteMutations.taken c.args.sink.now) (g.M.WriteMutations.faults c.args.sink.now) c.loop-input.invariant.took;
      runs = λ props fresh start.
          let was = c.loop-input.invariant.runs props fresh start in
          c.in_ok-taken.ensures.steps props (map input_of c.args.inputs) (map input_of (into_iter_items c.next.new.self)) (g.M.WriteMutations.taken c.args.sink.now) (subst (λ ins. Runs (g.A.App.meaning c.args.app.now) (limits_of c.args.limits) props (map input_of c.args.inputs) (g.M.WriteMutations.taken c.args.sink.now) (g.M.WriteMutations.taken c.loop-input.sink) c.loop-input.reports ins c.loop-input.taken c.loop-input.machine) (ap (map input_of) c.in-Some.ensures.steps.0) was.0) (subst (λ ins. Sofar (map input_of c.args.inputs) ins c.loop-input.taken c.loop-input.reports) (ap (map input_of) c.in-Some.ensures.steps.0) was.1);
      count =
          let was = c.loop-input.invariant.count in
          let gone = c.in-Some.ensures.steps.1 in
          let short = ap length steps in
          omega arith;
    }

pub returns-clause-runs : goal.returns-clause-runs
returns-clause-runs g c = λ props fresh start.
    let was = c.loop-input.invariant.runs props fresh start in
    let none = c.in-None.ensures.steps in
    let empty = nothing_left _ (sym c.loop-input.invariant.count ∙ none.0) in
    runs_ended (g.A.App.meaning c.args.app.now) (limits_of c.args.limits) props (map input_of c.args.inputs) (g.M.WriteMutations.taken c.args.sink.now) (g.M.WriteMutations.taken c.loop-input.sink)
    c.loop-input.reports (map input_of (into_iter_items c.loop-input.input-iterator)) c.loop-input.taken c.loop-input.machine was.0
    (sofar-end _ _ _ _ (ap (map input_of) empty) was.1)
