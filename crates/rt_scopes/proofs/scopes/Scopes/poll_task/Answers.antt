-- The poll of a task, by whether it is live.
use Rattle.std.proofs.Common.{◌∙◌, ap, sym}
use Rattle.rt_model.specs.Lists.{at}
use Rattle.run_reports.specs.Polls.{told_by}
use Rattle.run_state.specs.Mirror.{state_of}
use Rattle.rt_scopes.specs.Polls.{StandsWith}
use Rattle.rt_scopes.proofs.Onward.{came_as}
use Rattle.run_state.proofs.Changed.{if_ok}
use Rattle.rt_scopes.proofs.Polled.{apart_as, apart_gone, ready_as, ready_gone, row_found, row_scope}
use Rattle.rt_scopes.proofs.scopes.Scopes.poll_task.Goals as goal

pub returns-then-not-has_task-clause-polled : goal.returns-then-not-has_task-clause-polled
returns-then-not-has_task-clause-polled g c = λ kept. (
  kept,
  apart_gone (g.A.App.meaning c.args.app.now) (state_of kept c.args.self.now.state) (state_of kept c.unqueue.new.self) c.args.task.0 (sym (c.unqueue.ensures kept)) (sym (c.has_task.ensures kept) ∙ c.if-not-has_task.true),
  λ was. was,
)

pub returns-clause-polled : goal.returns-clause-polled
returns-clause-polled g c = λ kept.
    let row = row_found (at (state_of kept c.unqueue.new.self).tasks c.args.task.0) c.in-Some.state (c.in-Some.ensures.own kept) in
    let there = sym (c.take_state.ensures.left kept) in
    let stands : StandsWith (state_of kept c.take_state.new.self) c.scope_of_task-scope.result c.args.task.0 c.in-Some.state row.0 =
    record {
      found = ap (λ w. at w.tasks c.args.task.0) (sym there) ∙ row.1;
      own = sym (c.scope_of_task-scope.ensures kept ∙ row_scope (state_of kept c.unqueue.new.self) c.args.task.0 row.0 row.1);
      was = row.2;
    } in
    let came = c.poll_in.ensures.polled kept row.0 stands in (
      came.0,
      came_as _ _ _ _ _
          (apart_as (g.A.App.meaning c.args.app.now) (state_of kept c.args.self.now.state) (state_of kept c.take_state.new.self) c.args.task.0 c.scope_of_task-scope.result c.in-Some.state row.0
          (sym (c.unqueue.ensures kept) ∙ there)
          stands)
          came.1,
      came.2,
    )

pub returns-then-not-has_task-clause-ready : goal.returns-then-not-has_task-clause-ready
returns-then-not-has_task-clause-ready g c = λ kept active.
    ap (λ b. told_by b)
    (ready_gone (g.A.App.meaning c.args.app.now) (state_of kept c.args.self.now.state) (state_of kept c.unqueue.new.self) c.args.task.0 (sym (c.unqueue.ensures kept)) (sym (c.has_task.ensures kept) ∙ c.if-not-has_task.true))

pub returns-clause-ready : goal.returns-clause-ready
returns-clause-ready g c =
    if_ok c.poll_in.result c.poll_in.ensures.ready (λ polled told kept active.
    let row = row_found (at (state_of kept c.unqueue.new.self).tasks c.args.task.0) c.in-Some.state (c.in-Some.ensures.own kept) in
    let there = sym (c.take_state.ensures.left kept) in
    let stands : StandsWith (state_of kept c.take_state.new.self) c.scope_of_task-scope.result c.args.task.0 c.in-Some.state row.0 =
    record {
      found = ap (λ w. at w.tasks c.args.task.0) (sym there) ∙ row.1;
      own = sym (c.scope_of_task-scope.ensures kept ∙ row_scope (state_of kept c.unqueue.new.self) c.args.task.0 row.0 row.1);
      was = row.2;
    } in
    told kept
    ∙ ap (λ b. told_by b)
    (ready_as (g.A.App.meaning c.args.app.now) (state_of kept c.args.self.now.state) (state_of kept c.take_state.new.self) c.args.task.0 c.scope_of_task-scope.result c.in-Some.state row.0
    (sym (c.unqueue.ensures kept) ∙ there) stands active))
