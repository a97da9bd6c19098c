-- A poll, and then the look.
use Rattle.std.proofs.Common.{rules, ◌∙◌, sym}
use Rattle.std.proofs.lemmas.Result.{err_from_is_err_and}
use Rattle.run_state.specs.Mirror.{state_of}
use Rattle.run_state.proofs.CellsKept.{some_is}
use Rattle.rt_scopes.proofs.Polled.{polled_cut, polled_gone, polled_looked}
use Rattle.run_turns.proofs.unit.poll_and_look.Goals as goal

pub returns-then-not-has_task : goal.returns-then-not-has_task
returns-then-not-has_task g c =
    record {
      polled =
          λ kept. (
            kept,
            polled_gone (g.A.App.meaning c.args.app.now) (state_of kept c.args.scopes.now.state) (state_of kept c.unqueue.new.self) c.args.task.0 (sym (c.unqueue.ensures kept)) (sym (c.has_task.ensures kept) ∙ c.if-not-has_task.true),
            λ was. was,
          );
    }

pub returns : goal.returns
returns g c =
    record {
      polled =
          λ kept.
          let done = c.in_ok-_polled.ensures.polled kept in
          let row = some_is _ (sym (c.has_task.ensures kept) ∙ c.if-not-has_task.false) in (
            done.0,
            polled_looked (g.A.App.meaning c.args.app.now) (state_of kept c.args.scopes.now.state) (state_of done.0 c.poll_task.new.self.state) (state_of done.0 c.look.new.self) c.args.task.0
                row.0 row.1 done.1 (c.in_ok-look.ensures.looked done.0),
            done.2,
          );
    }

pub returns-in_err-_polled : goal.returns-in_err-_polled
returns-in_err-_polled g c =
    record {
      polled =
          λ kept.
          let p = err_from_is_err_and c.from_residual.result c.from_residual.ensures.1 in
          let cut = c.in_err-_polled.ensures.polled kept in
          rw (p.1, p.2) (
            cut.0,
            polled_cut (g.A.App.meaning c.args.app.now) (state_of kept c.args.scopes.now.state) (state_of cut.0 c.poll_task.new.self.state) c.args.task.0 c.in_err-_polled.field-0.0 cut.1,
            cut.2,
          );
    }

pub returns-in_err-look : goal.returns-in_err-look
returns-in_err-look g c =
    record {
      polled = λ kept. (kept, search rules, search rules);
    }
