-- The context is had, and then the task is polled in it.
use Rattle.std.proofs.Common.{rules}
use Rattle.std.specs.Prelude.{Some}
use Rattle.author_bodies.proofs.Following.{one_after}
use Rattle.author_bodies.specs.Comes.{Comes}
use Rattle.author_formulas.specs.Memos as memos
use Rattle.author_deriving.specs.Task.{task_of}
use Rattle.author_deriving.proofs.polls.poll_by.Goals as goal

pub returns-clause-came : goal.returns-clause-came
returns-clause-came g c = λ remembered.
    let cx = c.args.cx.now in
    let had = c.context_for.new.cx in
    let polled = c.poll_in.new.cx in
    let a = g.S.HasMemo.formulas c.args.app.now in
    let m = task_of c.args.task in
    let t = c.args.polled.0 in
    let context = c.in-Some.context.0 in
    let was : Comes cx had (memos.context_for m t) (Some context) = search rules in
    one_after cx had polled (memos.context_for m t) (λ o. memos.polled_in a m o) (Some context)
    (task_of c.in_ok-poll_in.field-0) (search rules) was c.in_ok-poll_in.ensures.came
