use Rattle.std.proofs.Common.{[], Err}
use Rattle.std.proofs.lemmas.Result.{err_from_is_err_and}
use Rattle.std.specs.Prelude.{Some}
use Rattle.rt_model.specs.Run.{run}
use Rattle.run_reports.specs.declared.entry.Entry.TheVariants as entries
use Rattle.run_work.specs.Items.{work_of}
use Rattle.run_turns.proofs.Arms.{noted_any, noted_none}
use Rattle.run_turns.proofs.Counting.{on_done}
use Rattle.run_machine.proofs.Stacks.{stack_is}
use Rattle.run_machine.proofs.Steps.{did_cut}
use Rattle.run_machine.proofs.machine.Machine.build.Goals as goal

pub returns-in_err-work-clause-builds : goal.returns-in_err-work-clause-builds
returns-in_err-work-clause-builds g c =
    λ kept.
    let came = c.in_err-work.ensures.run kept in
    let p = err_from_is_err_and c.from_residual.result c.from_residual.ensures.1 in
    rw (p.1, p.2)
    (did_cut (g.A.App.meaning c.args.app.now) _ _ c.args.self.now
    (record c.args.self.now { scopes = c.run.new.self; first = Some entries.Build })
    came.0 c.in_err-work.field-0.0 came.1 (noted_any {A = Unit {0}} c.args.self.now.course.entries c.args.self.now.course.entries [] (Err c.in_err-work.field-0.0) (noted_none c.args.self.now.course.entries)))

pub returns-clause-builds : goal.returns-clause-builds
returns-clause-builds g c =
    λ kept.
    let came = c.in_ok-work.ensures.run kept in
    record {
      kept = came.0;
      work = work_of c.in_ok-work.work;
      done = came.1;
      open_is = stack_is _ _ c.in_ok-work.work c.in_ok-stack.ensures;
      logged = noted_none c.args.self.now.course.entries;
    }

pub returns-clause-counted : goal.returns-clause-counted
returns-clause-counted g c = on_done (λ w. run (g.A.App.meaning c.args.app.now) w 0) c.args.self.now.scopes.state c.run.new.self.state c.args.calls.now c.run.new.calls (work_of c.in_ok-work.work) c.in_ok-work.ensures.run
