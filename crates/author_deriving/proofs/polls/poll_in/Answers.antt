-- The formula is computed, and then its task is settled.
use Rattle.std.proofs.Common.{rules}
use Rattle.author_bodies.proofs.Following.{one_after}
use Rattle.author_bodies.specs.Comes.{Comes}
use Rattle.author_formulas.specs.Memos as memos
use Rattle.author_deriving.specs.Task.{task_of}
use Rattle.author_deriving.proofs.polls.poll_in.Goals as goal

pub returns-clause-came : goal.returns-clause-came
returns-clause-came g c =
    let cx = c.args.cx.now in
    let computed = c.computed_in.new.cx in
    let settled = c.settle.new.cx in
    let a = g.S.HasMemo.formulas c.args.app.now in
    let m = task_of c.args.task in
    let n = c.args.context.0 in
    let value = c.in_ok-value.value in
    let was : Comes cx computed (memos.computed_in a n (memos.formula_of m)) value = search rules in
    one_after cx computed settled (memos.computed_in a n (memos.formula_of m)) (λ v. memos.settled a n m v) value
    (task_of c.in_ok-settle.field-0) (search rules) was c.in_ok-settle.ensures.came
